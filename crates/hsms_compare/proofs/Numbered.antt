-- Logs whose entries are counted from 0.
use Rattle.std.proofs.Common.{◌≡◌, ◌++◌, ◌+◌, ◌<◌, ℕ, zero, suc, List, [], ◌∷◌, length, take, get_or, refl, sym, ◌∙◌, ap, subst, arith, zero-add}
use Rattle.std.proofs.lemmas.List.{take_more, length-take-le, get_or_read}
use Rattle.hsms_machine.specs.declared.entry.Entry.{Entry}
use Rattle.hsms_machine.specs.declared.entry.Event.TheVariants.{Up}
use Rattle.hsms_machine.specs.declared.settings.Role.{Role}
use Rattle.hsms_machine.specs.Entry.{entry_at}
use Rattle.hsms_frame.specs.Frame.{Frame}
use Rattle.hsms_compare.specs.declared.merge.Merge.{Merge}
use Rattle.hsms_compare.specs.declared.stop.MergeResult.{MergeResult}
use Rattle.hsms_compare.specs.declared.stop.MergeResult.TheVariants.{Merged, NoneInFlight, OtherInFlight}
use Rattle.hsms_compare.specs.declared.stop.Stop.TheVariants.{Waits, OtherSent}
use Rattle.hsms_compare.specs.Conversation.{Line, entries, sent, received, received_by}
use Rattle.hsms_compare.specs.InnerConversation.{numbered}
use Rattle.hsms_compare.specs.Merge.{IsMergeOf, IsMergeStep, line_at}
use Rattle.hsms_compare.specs.Agreement.{StopsAt, SendsAs, ReceivesAs}

pub entries-numbered : (n : ℕ) (log : List Entry) → entries (numbered n log) ≡ log
entries-numbered n [] = refl
entries-numbered n (entry ∷ log) = ap (λ x. entry ∷ x) (entries-numbered (n + 1) log)

numbered-more : (n : ℕ) (log : List Entry) (entry : Entry) → numbered n (log ++ entry ∷ []) ≡ numbered n log ++ record { position = n + length log; entry = entry } ∷ []
numbered-more n [] entry = ap (λ (k : ℕ). record { position = k; entry = entry } ∷ []) (let e : n ≡ n + 0 = omega arith in e)
numbered-more n (first ∷ log) entry =
    ap (λ (x : List Line). record { position = n; entry = first } ∷ x) (numbered-more (n + 1) log entry
    ∙ ap (λ (k : ℕ). numbered (n + 1) log ++ record { position = k; entry = entry } ∷ []) (let e : n + 1 + length log ≡ n + suc (length log) = omega arith in e))

position-numbered : (n : ℕ) (log : List Entry) (k : ℕ) → k < length log → (line_at (numbered n log) k).position ≡ n + k
position-numbered n [] k lt = absurd (omega arith)
position-numbered n (entry ∷ log) zero lt = omega arith
position-numbered n (entry ∷ log) (suc k) lt = position-numbered (n + 1) log k (omega arith) ∙ (let e : n + 1 + k ≡ n + suc k = omega arith in e)

-- ---- the next entry of a log

module _ (end : Role) (log other : List Entry) (i : ℕ) (there : i < length log) (x : Entry) (x_is : x ≡ get_or log i x) (old new : Merge) where
  at : x ≡ entry_at log i
  at = get_or_read log i x there x_is (record { time = 0; event = Up })

  pub can_continue : IsMergeStep (numbered 0 (take i log)) (numbered 0 other) end (record { position = i; entry = x }) old Merged new → IsMergeOf end new (numbered 0 (take (i + 1) log)) (numbered 0 other)
  can_continue h =
      let n : length (take i log) ≡ i = length-take-le i log (omega arith) in
      let e : numbered 0 (take (i + 1) log) ≡ numbered 0 (take i log) ++ record { position = i; entry = x } ∷ [] =
      ap (λ t. numbered 0 t) (take_more log i (record { time = 0; event = Up }) there)
      ∙ numbered-more 0 (take i log) (entry_at log i)
      ∙ ap (λ (k : ℕ). numbered 0 (take i log) ++ record { position = k; entry = entry_at log i } ∷ []) (zero-add (length (take i log)) ∙ n)
      ∙ ap (λ (y : Entry). numbered 0 (take i log) ++ record { position = i; entry = y } ∷ []) (sym at) in
      let P : List Line → Type 0 = λ t. IsMergeOf end new t (numbered 0 other) in
      subst P (sym e) h

  receives_at : (frame : Frame) → received_by x.event ≡ frame ∷ [] → ReceivesAs log i frame (length (received (take i log)))
  receives_at frame is = record { there = there; frame_is = ap (λ (y : Entry). received_by y.event) (sym at) ∙ is; number = refl }

  pub waits_there : IsMergeStep (numbered 0 (take i log)) (numbered 0 other) end (record { position = i; entry = x }) old NoneInFlight new → StopsAt log i other Waits
  waits_there (frame, is, all, same) =
      let e : sent other ≡ received (take i log) =
      ap sent (sym (entries-numbered 0 other)) ∙ all ∙ ap received (entries-numbered 0 (take i log)) in
      (frame, length (received (take i log)), receives_at frame is, (let n = ap length e in omega arith))

  pub differs_there : (position : ℕ) → IsMergeStep (numbered 0 (take i log)) (numbered 0 other) end (record { position = i; entry = x }) old (OtherInFlight position) new → StopsAt log i other (OtherSent position)
  differs_there position (frame, another, k, is, position_is, sends, apart, same) =
      let P : List Entry → Type 0 = λ t. SendsAs t k another (length (received (entries (numbered 0 (take i log))))) in
      let Q : List Entry → Type 0 = λ t. SendsAs other k another (length (received t)) in
      let s : SendsAs other k another (length (received (take i log))) = subst Q (entries-numbered 0 (take i log)) (subst P (entries-numbered 0 other) sends) in
      let e : k ≡ position = sym (position-numbered 0 other k s.there ∙ zero-add k) ∙ position_is in
      let R : ℕ → Type 0 = λ m. SendsAs other m another (length (received (take i log))) in
      (frame, another, length (received (take i log)), receives_at frame is, subst R e s, apart)

pub step_as : (own other : List Line) (end : Role) (line : Line) (old : Merge) (a b : MergeResult) (new : Merge) → a ≡ b → IsMergeStep own other end line old a new → IsMergeStep own other end line old b new
step_as own other end line old a b new e h =
    let P : MergeResult → Type 0 = λ x. IsMergeStep own other end line old x new in
    subst P e h
