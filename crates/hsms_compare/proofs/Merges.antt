-- Frames in flight.
use Rattle.std.proofs.Common.{◌≡◌, ◌++◌, ◌+◌, ℕ, suc, List, [], ◌∷◌, length, take, get_or, map, refl, sym, ◌∙◌, ap, subst, inl, inr, arith}
use Rattle.std.specs.Prelude.{◌⊎◌, Result, Ok, Err, IfOk}
use Rattle.std.specs.declared.alloc.AllocError.{AllocError}
use Rattle.std.proofs.lemmas.List.{append-nil, append_assoc, map-append, length-map, length-append}
use Rattle.hsms_frame.specs.Frame.{Frame}
use Rattle.hsms_machine.specs.declared.entry.Entry.{Entry}
use Rattle.hsms_machine.specs.declared.entry.Event.{Event}
use Rattle.hsms_machine.specs.declared.entry.Event.TheVariants.{Up, Sent, Taken, Discarded, T3, Cut, Down}
use Rattle.hsms_machine.specs.declared.settings.Role.{Role}
use Rattle.hsms_machine.specs.declared.settings.Role.TheVariants.{Host, Equipment}
use Rattle.hsms_compare.specs.declared.channel.SentFrame.{SentFrame}
use Rattle.hsms_compare.specs.declared.merge.Merge.{Merge}
use Rattle.hsms_compare.specs.declared.stop.MergeResult.{MergeResult}
use Rattle.hsms_compare.specs.declared.stop.MergeResult.TheVariants.{Merged, NoneInFlight, OtherInFlight}
use Rattle.hsms_compare.specs.Conversation.{Agree, Line, entries, sent, received, sent_by, received_by}
use Rattle.hsms_compare.specs.Merge.{incoming, AreInFlight, AreMerged, IsMergeOf, IsMergeStep, sent_frame, sent_frames_by, sent_frames_of, frames_of, line_at}
use Rattle.hsms_compare.specs.InnerMerge.{IsStep, Receives}
use Rattle.hsms_compare.specs.Agreement.{SendsAs}
use Rattle.hsms_compare.proofs.Histories.{agree-host, agree-swap, received-more}

frames_of-sent_frame : (position : ℕ) (frames : List Frame) → frames_of (map (sent_frame position) frames) ≡ frames
frames_of-sent_frame position [] = refl
frames_of-sent_frame position (frame ∷ frames) = ap (λ x. frame ∷ x) (frames_of-sent_frame position frames)

frames_of-append : (a b : List SentFrame) → frames_of (a ++ b) ≡ frames_of a ++ frames_of b
frames_of-append a b = map-append (λ (one : SentFrame). one.frame) a b

-- The frames in flight are those that are sent.
frames_of-sent_frame_of : (lines : List Line) → frames_of (sent_frames_of lines) ≡ sent (entries lines)
frames_of-sent_frame_of [] = refl
frames_of-sent_frame_of (line ∷ lines) =
    frames_of-append (sent_frames_by line) (sent_frames_of lines)
    ∙ ap (λ x. x ++ frames_of (sent_frames_of lines)) (frames_of-sent_frame line.position (sent_by line.entry.event))
    ∙ ap (λ x. sent_by line.entry.event ++ x) (frames_of-sent_frame_of lines)

sent_frames_of-more : (lines : List Line) (line : Line) → sent_frames_of (lines ++ line ∷ []) ≡ sent_frames_of lines ++ sent_frames_by line
sent_frames_of-more [] line = append-nil (sent_frames_by line)
sent_frames_of-more (first ∷ lines) line =
    ap (λ x. sent_frames_by first ++ x) (sent_frames_of-more lines line) ∙ sym (append_assoc (sent_frames_by first) (sent_frames_of lines) (sent_frames_by line))

entries-more : (lines : List Line) (line : Line) → entries (lines ++ line ∷ []) ≡ entries lines ++ line.entry ∷ []
entries-more lines line = map-append (λ (one : Line). one.entry) lines (line ∷ [])

sent_so : (sender receiver : List Line) (flight : List SentFrame) → AreInFlight sender receiver flight → sent (entries sender) ≡ received (entries receiver) ++ frames_of flight
sent_so sender receiver flight f =
    sym (frames_of-sent_frame_of sender) ∙ ap frames_of f.all ∙ frames_of-append f.arrived flight
    ∙ ap (λ x. x ++ frames_of flight) f.received_so

-- ---- the effect of a line on the frames in flight

coming-more : (sender receiver : List Line) (line : Line) (old arrived new : List SentFrame) → AreInFlight sender receiver old → old ≡ arrived ++ new → frames_of arrived ≡ received_by line.entry.event → AreInFlight sender (receiver ++ line ∷ []) new
coming-more sender receiver line old arrived new f split here = record {
  arrived = f.arrived ++ arrived;
  all = f.all ∙ ap (λ x. f.arrived ++ x) split ∙ sym (append_assoc f.arrived arrived new);
  received_so = frames_of-append f.arrived arrived ∙ ap (λ x. x ++ frames_of arrived) f.received_so
      ∙ ap (λ x. received (entries receiver) ++ x) here ∙ sym (received-more (entries receiver) line.entry) ∙ ap received (sym (entries-more receiver line));
}

outbound-more : (sender receiver : List Line) (line : Line) (old new : List SentFrame) → AreInFlight sender receiver old → new ≡ old ++ sent_frames_by line → AreInFlight (sender ++ line ∷ []) receiver new
outbound-more sender receiver line old new f grown = record {
  arrived = f.arrived;
  all = sent_frames_of-more sender line ∙ ap (λ x. x ++ sent_frames_by line) f.all
      ∙ append_assoc f.arrived old (sent_frames_by line) ∙ ap (λ x. f.arrived ++ x) (sym grown);
  received_so = f.received_so;
}

pub between-swap : (coming outbound : List SentFrame) (a b : List Line) → AreMerged coming outbound a b → AreMerged outbound coming b a
between-swap coming outbound a b s = record { agree = agree-swap (entries a) (entries b) s.agree; coming = s.outbound; outbound = s.coming }

-- After a line that is delivered, the two logs agree.
proceeds : (coming outbound : List SentFrame) (own other : List Line) (line : Line) (coming' outbound' : List SentFrame) → AreMerged coming outbound own other → IsStep coming outbound line Merged coming' outbound' → AreMerged coming' outbound' (own ++ line ∷ []) other
proceeds coming outbound own other line coming' outbound' s f =
    let c : AreInFlight other (own ++ line ∷ []) coming' = coming-more other own line coming f.0 coming' s.coming f.1 f.2 in
    let e : entries (own ++ line ∷ []) ≡ entries own ++ line.entry ∷ [] = entries-more own line in
    let P : List Entry → Type 0 = λ x. Agree x (entries other) in
    record {
      agree = subst P (sym e) (agree-host (entries own) (entries other) line.entry s.agree
          (frames_of coming', sent_so other (own ++ line ∷ []) coming' c ∙ ap (λ x. received x ++ frames_of coming') e));
      coming = c;
      outbound = outbound-more own other line outbound outbound' s.outbound f.3;
    }

-- ---- the line that sent a frame in flight

no_member : {X : Type 0} (prefix : List X) (x : X) (later : List X) → [] ≡ prefix ++ x ∷ later → ⊥
no_member [] x later e = absurd (cc)
no_member (y ∷ prefix) x later e = absurd (cc)

record LineFound (lines : List Line) (position : ℕ) (frame : Frame) (n : ℕ) : Type 0 where
  at : ℕ
  position_is : (line_at lines at).position ≡ position
  sends : SendsAs (entries lines) at frame n

-- An event sends one frame or none.
pub sends_cases : (event : Event) → (sent_by event ≡ []) ⊎ ((frame : Frame) × (sent_by event ≡ frame ∷ []))
sends_cases Up = inl refl
sends_cases (Sent frame) = inr (frame, refl)
sends_cases (Taken frame) = inl refl
sends_cases (Discarded frame) = inl refl
sends_cases (T3 system) = inl refl
sends_cases (Cut cause) = inl refl
sends_cases Down = inl refl

pub sends-later : (first : Entry) (log : List Entry) (k : ℕ) (frame : Frame) (n m : ℕ) → SendsAs log k frame n → length (sent_by first.event) + n ≡ m → SendsAs (first ∷ log) (suc k) frame m
sends-later first log k frame n m s e = record {
  there = (let i = s.there in omega arith);
  frame_is = s.frame_is;
  number = (let i = s.number in let j = length-append (sent_by first.event) (sent (take k log)) in omega arith);
}

found_later : (first : Line) (lines : List Line) (position : ℕ) (frame : Frame) (n m : ℕ) → LineFound lines position frame n → length (sent_by first.entry.event) + n ≡ m → LineFound (first ∷ lines) position frame m
found_later first lines position frame n m f e = record {
  at = suc f.at;
  position_is = f.position_is;
  sends = sends-later first.entry (entries lines) f.at frame n m f.sends e;
}

found_at : (first : Line) (lines : List Line) (prefix : List SentFrame) (position : ℕ) (frame : Frame) (later : List SentFrame) → ((prefix : List SentFrame) → sent_frames_of lines ≡ prefix ++ sent_frame position frame ∷ later → LineFound lines position frame (length prefix)) → (sent_by first.entry.event ≡ []) ⊎ ((frame : Frame) × (sent_by first.entry.event ≡ frame ∷ [])) → sent_frames_by first ++ sent_frames_of lines ≡ prefix ++ sent_frame position frame ∷ later → LineFound (first ∷ lines) position frame (length prefix)
found_at first lines prefix position frame later in_rest (inl none) e =
    found_later first lines position frame (length prefix) (length prefix)
    (in_rest prefix (ap (λ x. map (sent_frame first.position) x ++ sent_frames_of lines) (sym none) ∙ e))
    (let n = ap length none in omega arith)
found_at first lines [] position frame later in_rest (inr (one, some)) e =
    let same : sent_frame first.position one ∷ sent_frames_of lines ≡ sent_frame position frame ∷ later = ap (λ x. map (sent_frame first.position) x ++ sent_frames_of lines) (sym some) ∙ e in
    let at_position : first.position ≡ position = ap (λ (x : List SentFrame). (get_or x 0 (sent_frame position frame)).position) same in
    let frames : one ≡ frame = ap (λ (x : List SentFrame). (get_or x 0 (sent_frame position frame)).frame) same in
    record { at = 0; position_is = at_position; sends = record { there = omega arith; frame_is = some ∙ ap (λ x. x ∷ []) frames; number = refl } }
found_at first lines (x ∷ prefix) position frame later in_rest (inr (one, some)) e =
    let same : sent_frame first.position one ∷ sent_frames_of lines ≡ x ∷ (prefix ++ sent_frame position frame ∷ later) = ap (λ x. map (sent_frame first.position) x ++ sent_frames_of lines) (sym some) ∙ e in
    let rest : sent_frames_of lines ≡ prefix ++ sent_frame position frame ∷ later = cc in
    found_later first lines position frame (length prefix) (suc (length prefix)) (in_rest prefix rest)
    (let n = ap length some in omega arith)

found : (lines : List Line) (prefix : List SentFrame) (position : ℕ) (frame : Frame) (later : List SentFrame) → sent_frames_of lines ≡ prefix ++ sent_frame position frame ∷ later → LineFound lines position frame (length prefix)
found [] prefix position frame later e = absurd (no_member prefix (sent_frame position frame) later e)
found (first ∷ lines) prefix position frame later e =
    found_at first lines prefix position frame later (λ prefix e. found lines prefix position frame later e) (sends_cases first.entry.event) e

-- ---- the result of adding a line

waits : (coming outbound : List SentFrame) (own other : List Line) → AreMerged coming outbound own other → coming ≡ [] → sent (entries other) ≡ received (entries own)
waits coming outbound own other s none =
    sent_so other own coming s.coming ∙ ap (λ x. received (entries own) ++ frames_of x) none ∙ append-nil (received (entries own))

differs : (coming outbound : List SentFrame) (own other : List Line) (position : ℕ) (another : Frame) (later : List SentFrame) → AreMerged coming outbound own other → coming ≡ sent_frame position another ∷ later
    → (k : ℕ) × ((line_at other k).position ≡ position) × SendsAs (entries other) k another (length (received (entries own)))
differs coming outbound own other position another later s first =
    let g : LineFound other position another (length s.coming.arrived) = found other s.coming.arrived position another later (s.coming.all ∙ ap (λ x. s.coming.arrived ++ x) first) in
    let n : length s.coming.arrived ≡ length (received (entries own)) = sym (length-map s.coming.arrived (λ (one : SentFrame). one.frame)) ∙ ap length s.coming.received_so in
    let P : ℕ → Type 0 = λ m. SendsAs (entries other) g.at another m in
    (g.at, g.position_is, subst P n g.sends)

same_merge : (a b : Merge) → a.to_host ≡ b.to_host → a.to_equipment ≡ b.to_equipment → a ≡ b
same_merge a b e f =
    ap (λ (x : List SentFrame). record a { to_host = x }) e ∙ ap (λ (x : List SentFrame). record b { to_equipment = x }) f

pub merged_host : (old new : Merge) (own other : List Line) (line : Line) (answer : MergeResult) → IsMergeOf Host old own other → IsStep old.to_host old.to_equipment line answer new.to_host new.to_equipment → IsMergeStep own other Host line old answer new
merged_host old new own other line Merged s f = proceeds old.to_host old.to_equipment own other line new.to_host new.to_equipment s f
merged_host old new own other line NoneInFlight s f =
    (f.0, f.1, waits old.to_host old.to_equipment own other s f.2, same_merge new old f.3 f.4)
merged_host old new own other line (OtherInFlight position) s f =
    let d = differs old.to_host old.to_equipment own other position f.1 f.2 s f.4 in
    (f.0, f.1, d.0, f.3, d.1, d.2, f.5, same_merge new old f.6 f.7)

pub merged_equipment : (old new : Merge) (own other : List Line) (line : Line) (answer : MergeResult) → IsMergeOf Equipment old own other → IsStep old.to_equipment old.to_host line answer new.to_equipment new.to_host → IsMergeStep own other Equipment line old answer new
merged_equipment old new own other line Merged s f = proceeds old.to_equipment old.to_host own other line new.to_equipment new.to_host s f
merged_equipment old new own other line NoneInFlight s f =
    (f.0, f.1, waits old.to_equipment old.to_host own other s f.2, same_merge new old f.4 f.3)
merged_equipment old new own other line (OtherInFlight position) s f =
    let d = differs old.to_equipment old.to_host own other position f.1 f.2 s f.4 in
    (f.0, f.1, d.0, f.3, d.1, d.2, f.5, same_merge new old f.7 f.6)

pub takes_host : (result : Result MergeResult AllocError) (old new : Merge) (line : Line) (end : Role) → end ≡ Host → IfOk result (λ answer. IsStep old.to_host old.to_equipment line answer new.to_host new.to_equipment)
    → IfOk result (λ answer. (own other : List Line) → IsMergeOf end old own other → IsMergeStep own other end line old answer new)
takes_host (Err e) old new line end is f = tt
takes_host (Ok answer) old new line end is f =
    let P : Role → Type 0 = λ x. (own other : List Line) → IsMergeOf x old own other → IsMergeStep own other x line old answer new in
    subst P (sym is) (λ own other s. merged_host old new own other line answer s f)

pub takes_equipment : (result : Result MergeResult AllocError) (old new : Merge) (line : Line) (end : Role) → end ≡ Equipment → IfOk result (λ answer. IsStep old.to_equipment old.to_host line answer new.to_equipment new.to_host)
    → IfOk result (λ answer. (own other : List Line) → IsMergeOf end old own other → IsMergeStep own other end line old answer new)
takes_equipment (Err e) old new line end is f = tt
takes_equipment (Ok answer) old new line end is f =
    let P : Role → Type 0 = λ x. (own other : List Line) → IsMergeOf x old own other → IsMergeStep own other x line old answer new in
    subst P (sym is) (λ own other s. merged_equipment old new own other line answer s f)

-- ---- the result of a receipt

pub receives : (coming outbound : List SentFrame) (line : Line) (frame : Frame) (answer : MergeResult) (coming' : List SentFrame) → received_by line.entry.event ≡ frame ∷ [] → sent_by line.entry.event ≡ [] → Receives coming frame answer coming' → IsStep coming outbound line answer coming' outbound
receives coming outbound line frame Merged coming' is silent r =
    (sent_frame r.0 frame ∷ [], r.1, sym is, sym (ap (λ x. outbound ++ map (sent_frame line.position) x) silent ∙ append-nil outbound))
receives coming outbound line frame NoneInFlight coming' is silent r = (frame, is, r.0, r.1, refl)
receives coming outbound line frame (OtherInFlight position) coming' is silent r = (frame, r.0, r.1, is, r.2, r.3, r.4, refl)

-- ---- the frames in flight

pub in_flight_so : (end : Role) (merge : Merge) (own other : List Line) → IsMergeOf end merge own other → length (incoming end merge) + length (received (entries own)) ≡ length (sent (entries other))
in_flight_so end merge own other s =
    let e = ap length (sent_so other own (incoming end merge) s.coming) in
    let l = length-append (received (entries own)) (frames_of (incoming end merge)) in
    let m = length-map (incoming end merge) (λ (one : SentFrame). one.frame) in
    omega arith

pub counts_to : (end which : Role) (merge : Merge) (n : ℕ) → end ≡ which → n ≡ length (incoming which merge) → (own other : List Line) → IsMergeOf end merge own other → n + length (received (entries own)) ≡ length (sent (entries other))
counts_to end which merge n is e own other s =
    let P : Role → Type 0 = λ x. length (incoming x merge) + length (received (entries own)) ≡ length (sent (entries other)) in
    let all : length (incoming which merge) + length (received (entries own)) ≡ length (sent (entries other)) = subst P is (in_flight_so end merge own other s) in
    omega arith
