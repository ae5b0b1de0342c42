-- The repaired frames are a prefix of the sent ones.
use Rattle.std.proofs.Common.{◌≡◌, ◌∙◌, ◌<◌, ◌≤◌, ◌+◌, ◌-◌, ℕ, List, [], ◌∷◌, ◌++◌, length, take, drop, replicate, set, Bool, true, false, sym, ap, subst, append_assoc, arith}
use Rattle.std.proofs.lemmas.List.{take_more, length-append, length-replicate, length-set, length_push, map-append, take-append-drop, take-take, drop-take, append-nil}
use Rattle.hsms_frame.specs.Frame.{Frame}
use Rattle.hsms_compare.specs.Conversation.{IsPrefix}
use Rattle.hsms_compare_repair.specs.declared.numbered_frame.NumberedFrame.{NumberedFrame}
use Rattle.hsms_compare_repair.specs.declared.finding.Finding.{Finding}
use Rattle.hsms_compare_repair.specs.declared.finding.Finding.TheVariants.{Next, Late, Altered, Repeated, Unknown}
use Rattle.hsms_compare_repair.specs.Findings.{AreFindings, frame_at, no_frame, marks_after}
use Rattle.hsms_compare_repair.specs.Laws.{frames, repaired}

-- The frames of a list up to one of them.
pub frames-up_to : (sent : List NumberedFrame) (k : ℕ) → k < length sent → frames (take (k + 1) sent) ≡ frames (take k sent) ++ (frame_at sent k).frame ∷ []
frames-up_to sent k lt =
    ap frames (take_more sent k no_frame lt) ∙ map-append (λ (one : NumberedFrame). one.frame) (take k sent) (frame_at sent k ∷ [])

take-split : (sent : List NumberedFrame) (n k : ℕ) → n ≤ k → k ≤ length sent → take n sent ++ take (k - n) (drop n sent) ≡ take k sent
take-split sent n k le within =
    let e : n + (k - n) ≡ k = omega arith in
    let s : take n (take (n + (k - n)) sent) ≡ take n sent = take-take n (n + (k - n)) sent (omega arith) in
    ap (λ x. x ++ take (k - n) (drop n sent)) (sym s)
    ∙ ap (λ x. take n (take (n + (k - n)) sent) ++ x) (sym (drop-take n (k - n) sent))
    ∙ take-append-drop n (take (n + (k - n)) sent) ∙ ap (λ x. take x sent) e

-- What one finding adds.
module _ (sent : List NumberedFrame) (more : Bool) where
  abbrev Reaches : List Bool → List Frame → List Bool → Type 0
  Reaches marks list last = (frames (take (length marks) sent) ++ list ≡ frames (take (length last) sent)) × (length last ≤ length sent)

  next_length : (marks : List Bool) (k : ℕ) → length marks ≤ k → length (marks_after marks (Next (length marks) k)) ≡ k + 1
  next_length marks k le =
      length-append marks (replicate (k - length marks) true ++ false ∷ [])
      ∙ ap (λ (x : ℕ). length marks + x) (length_push (replicate (k - length marks) true) false ∙ ap (λ (x : ℕ). x + 1) (length-replicate (k - length marks) true))
      ∙ (let e : length marks + (k - length marks + 1) ≡ k + 1 = omega arith in e)

  reaches_next : (marks : List Bool) (k : ℕ) (frame : Frame) (list : List Frame) (last : List Bool) → length marks ≤ k → k < length sent → (frame_at sent k).frame ≡ frame → Reaches (marks_after marks (Next (length marks) k)) list last → Reaches marks (frames (take (k - length marks) (drop (length marks) sent)) ++ frame ∷ list) last
  reaches_next marks k frame list last le lt is h =
      let a : frames (take (length marks) sent) ++ frames (take (k - length marks) (drop (length marks) sent)) ≡ frames (take k sent) =
      sym (map-append (λ (one : NumberedFrame). one.frame) (take (length marks) sent) (take (k - length marks) (drop (length marks) sent)))
      ∙ ap frames (take-split sent (length marks) k le (omega arith)) in
      let b : frames (take k sent) ++ frame ∷ [] ≡ frames (take (k + 1) sent) =
      ap (λ x. frames (take k sent) ++ x ∷ []) (sym is) ∙ sym (frames-up_to sent k lt) in (
        sym (append_assoc (frames (take (length marks) sent)) (frames (take (k - length marks) (drop (length marks) sent))) (frame ∷ list))
            ∙ ap (λ x. x ++ frame ∷ list) a
            ∙ sym (append_assoc (frames (take k sent)) (frame ∷ []) list)
            ∙ ap (λ x. x ++ list) b
            ∙ ap (λ (x : ℕ). frames (take x sent) ++ list) (sym (next_length marks k le))
            ∙ h.0,
        h.1,
      )

  reaches_altered : (marks : List Bool) (list : List Frame) (last : List Bool) → length marks < length sent → Reaches (marks ++ false ∷ []) list last → Reaches marks ((frame_at sent (length marks)).frame ∷ list) last
  reaches_altered marks list last lt h = (
    sym (append_assoc (frames (take (length marks) sent)) ((frame_at sent (length marks)).frame ∷ []) list)
        ∙ ap (λ x. x ++ list) (sym (frames-up_to sent (length marks) lt))
        ∙ ap (λ (x : ℕ). frames (take x sent) ++ list) (sym (length_push marks false))
        ∙ h.0,
    h.1,
  )

  as_marks : (marks others : List Bool) (list : List Frame) (last : List Bool) → length marks ≡ length others → Reaches marks list last → Reaches others list last
  as_marks marks others list last e h =
      (ap (λ (x : ℕ). frames (take x sent) ++ list) (sym e) ∙ h.0, h.1)

  end_reached : (marks last : List Bool) → length marks ≤ length sent → last ≡ marks → Reaches marks [] last
  end_reached marks last le e =
      (append-nil (frames (take (length marks) sent)) ∙ ap (λ (x : List Bool). frames (take (length x) sent)) (sym e), (let n = ap length e in omega (arith, n, le)))

  pub repaired_reaches : (marks : List Bool) (unknown : ℕ) (received : List NumberedFrame) (findings : List Finding) (last : List Bool) (left : ℕ) → AreFindings sent more marks unknown received findings last left → length marks ≤ length sent → Reaches marks (repaired sent received findings) last
  repaired_reaches marks unknown [] [] last left h le = end_reached marks last le h.0
  repaired_reaches marks unknown [] (found ∷ findings) last left h le = absurd h
  repaired_reaches marks unknown (frame ∷ received) [] last left h le = end_reached marks last le h.1
  repaired_reaches marks unknown (frame ∷ received) (Next n k ∷ findings) last left h le =
      let a = h.1.applies in
      let P : ℕ → Type 0 = λ x. AreFindings sent more (marks_after marks (Next x k)) 0 received findings last left in
      let g = repaired_reaches (marks_after marks (Next (length marks) k)) 0 received findings last left (subst P a.0 h.2) (omega (arith, next_length marks k a.1.holds.0, a.1.holds.2.0)) in
      let Q : ℕ → Type 0 = λ x. Reaches marks (frames (take (k - x) (drop x sent)) ++ frame.frame ∷ repaired sent received findings) last in
      subst Q (sym a.0) (reaches_next marks k frame.frame (repaired sent received findings) last a.1.holds.0 a.1.holds.2.0 a.1.holds.2.1 g)
  repaired_reaches marks unknown (frame ∷ received) (Late k ∷ findings) last left h le =
      let e = length-set marks k false in
      as_marks (set marks k false) marks (repaired sent received findings) last e
      (repaired_reaches (set marks k false) 0 received findings last left h.2 (omega (arith, e, le)))
  repaired_reaches marks unknown (frame ∷ received) (Altered n ∷ findings) last left h le =
      let a = h.1.applies in
      let g = repaired_reaches (marks ++ false ∷ []) 0 received findings last left h.2 (omega (arith, length_push marks false, a.1.0)) in
      let Q : ℕ → Type 0 = λ x. Reaches marks ((frame_at sent x).frame ∷ repaired sent received findings) last in
      subst Q (sym a.0) (reaches_altered marks (repaired sent received findings) last a.1.0 g)
  repaired_reaches marks unknown (frame ∷ received) (Repeated ∷ findings) last left h le = repaired_reaches marks 0 received findings last left h.2 le
  repaired_reaches marks unknown (frame ∷ received) (Unknown ∷ findings) last left h le = repaired_reaches marks (unknown + 1) received findings last left h.2 le

pub repaired_prefix : (sent received : List NumberedFrame) (more : Bool) (findings : List Finding) (last : List Bool) (left : ℕ) → AreFindings sent more [] 0 received findings last left → IsPrefix (repaired sent received findings) (frames sent)
repaired_prefix sent received more findings last left h =
    let r = repaired_reaches sent more [] 0 received findings last left h (omega arith) in (
      frames (drop (length last) sent),
      ap frames (sym (take-append-drop (length last) sent))
          ∙ map-append (λ (one : NumberedFrame). one.frame) (take (length last) sent) (drop (length last) sent)
          ∙ ap (λ x. x ++ frames (drop (length last) sent)) (sym r.0),
    )
