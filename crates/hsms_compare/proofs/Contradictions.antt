-- The contradiction of two logs that no longer agree.
use Rattle.std.proofs.Common.{◌≡◌, ◌++◌, ◌+◌, ◌<◌, ◌≤◌, ℕ, zero, suc, List, [], ◌∷◌, length, take, drop, get_or, refl, sym, ◌∙◌, ap, subst, inl, inr, arith}
use Rattle.std.specs.Prelude.{◌⊎◌, ◌↔◌, ◌-◌, Bool, true, false, IsTrue}
use Rattle.std.proofs.lemmas.List.{length-append, length-take, length-take-le, get_or-take, take-take, take-append-drop, drop_all, drop_more, take_rest, take_more, get_or-append-add, get_or-drop}
use Rattle.std.proofs.Math.Seq.{take-append-add}
use Rattle.hsms_frame.specs.Frame.{Frame}
use Rattle.hsms_machine.specs.declared.entry.Entry.{Entry}
use Rattle.hsms_machine.specs.declared.entry.Event.{Event}
use Rattle.hsms_machine.specs.declared.entry.Event.TheVariants.{Up, Sent, Taken, Discarded, T3, Cut, Down}
use Rattle.hsms_machine.specs.Entry.{entry_at}
use Rattle.hsms_compare.specs.declared.stop.Stop.{Stop}
use Rattle.hsms_compare.specs.declared.stop.Stop.TheVariants.{Waits, OtherSent}
use Rattle.hsms_compare.specs.Conversation.{IsDelivered, sent, received, sent_by, received_by}
use Rattle.hsms_compare.specs.Agreement.{StopsAt, SendsAs, IsDifferent, IsUnsent, IsSentLater}
use Rattle.hsms_compare.proofs.Histories.{sent-append}
use Rattle.hsms_compare.proofs.Merges.{sends_cases, sends-later}

-- ---- the frames that a log sends

sends-of_take : (log : List Entry) (j k : ℕ) (frame : Frame) (n : ℕ) → SendsAs (take j log) k frame n → SendsAs log k frame n
sends-of_take log j k frame n s =
    let l = length-take j log in
    let t = s.there in
    let before : k < j = omega arith in
    record {
      there = omega arith;
      frame_is = ap (λ (x : Entry). sent_by x.event) (sym (get_or-take j log k (record { time = 0; event = Up }) before)) ∙ s.frame_is;
      number = s.number ∙ ap (λ x. length (sent x)) (take-take k j log (omega arith));
    }

pub sends-append : (a b : List Entry) (k : ℕ) (frame : Frame) (n : ℕ) → SendsAs b k frame n → SendsAs (a ++ b) (length a + k) frame (length (sent a) + n)
sends-append a b k frame n s = record {
  there = (let l = length-append a b in let t = s.there in omega arith);
  frame_is = ap (λ (x : Entry). sent_by x.event) (get_or-append-add a b k (record { time = 0; event = Up })) ∙ s.frame_is;
  number =
      (let e = ap (λ x. length (sent x)) (take-append-add a b k) in
      let f = ap length (sent-append a (take k b)) in
      let l = length-append (sent a) (sent (take k b)) in
      let m = s.number in
      omega arith);
}

first_sent_at : (entry : Entry) (log : List Entry) → (0 < length (sent log) → (k : ℕ) × (frame : Frame) × SendsAs log k frame 0) → (sent_by entry.event ≡ []) ⊎ ((frame : Frame) × (sent_by entry.event ≡ frame ∷ [])) → 0 < length (sent (entry ∷ log)) → (k : ℕ) × (frame : Frame) × SendsAs (entry ∷ log) k frame 0
first_sent_at entry log in_rest (inl none) some =
    let e = ap length none in
    let l = length-append (sent_by entry.event) (sent log) in
    let r = in_rest (omega arith) in
    (suc r.0, r.1, sends-later entry log r.0 r.1 0 0 r.2 (omega arith))
first_sent_at entry log in_rest (inr (frame, one)) some = (0, frame, record { there = omega arith; frame_is = one; number = refl })

first_sent : (log : List Entry) → 0 < length (sent log) → (k : ℕ) × (frame : Frame) × SendsAs log k frame 0
first_sent [] some = absurd (omega arith)
first_sent (entry ∷ log) some = first_sent_at entry log (first_sent log) (sends_cases entry.event) some

pub receives_silent : (event : Event) (frame : Frame) → received_by event ≡ frame ∷ [] → sent_by event ≡ []
receives_silent Up frame e = refl
receives_silent (Sent other) frame e = absurd (cc)
receives_silent (Taken other) frame e = refl
receives_silent (Discarded other) frame e = refl
receives_silent (T3 system) frame e = refl
receives_silent (Cut cause) frame e = refl
receives_silent Down frame e = refl

-- ---- derived from why a log goes no further

pub stops_for : (log other : List Entry) (i : ℕ) (a b : Stop) → a ≡ b → StopsAt log i other a → StopsAt log i other b
stops_for log other i a b e h =
    let P : Stop → Type 0 = λ x. StopsAt log i other x in
    subst P e h

pub different : (log other : List Entry) (i j k : ℕ) → StopsAt log i (take j other) (OtherSent k) → IsDifferent other log k i
different log other i j k (frame, another, n, r, s, apart) = (frame, another, n, r, sends-of_take other j k another n s, apart)

sent_in_all : (log : List Entry) (j : ℕ) → length (sent log) ≡ length (sent (take j log)) + length (sent (drop j log))
sent_in_all log j =
    ap (λ x. length (sent x)) (sym (take-append-drop j log)) ∙ ap length (sent-append (take j log) (drop j log))
    ∙ length-append (sent (take j log)) (sent (drop j log))

-- ---- whether a log sends anything

pub sends_there : (log : List Entry) (i : ℕ) (x : Entry) → i < length log → x ≡ get_or log i x → 0 < length (sent_by x.event) → 0 < length (sent log)
sends_there log i x there x_is some =
    let e = sent_in_all log i in
    let d = drop_more log i x there in
    let f = ap (λ y. length (sent y)) d in
    let g = length-append (sent_by (get_or log i x).event) (sent (drop (i + 1) log)) in
    let h = ap (λ (y : Entry). length (sent_by y.event)) x_is in
    omega arith

pub none_more : (log : List Entry) (i : ℕ) (x : Entry) → i < length log → x ≡ get_or log i x → (0 < length (sent_by x.event) → ⊥) → length (sent (take i log)) ≡ 0 → length (sent (take (i + 1) log)) ≡ 0
none_more log i x there x_is none before =
    let e = ap (λ y. length (sent y)) (take_more log i x there) in
    let f = ap length (sent-append (take i log) (get_or log i x ∷ [])) in
    let g = length-append (sent (take i log)) (sent (get_or log i x ∷ [])) in
    let k = length-append (sent_by (get_or log i x).event) [] in
    let h = ap (λ (y : Entry). length (sent_by y.event)) x_is in
    omega arith

-- The same for the rest of a slice after a position.
pub does_send : (xs : List Entry) (i : ℕ) (b : Bool) → b ≡ true → (IsTrue b ↔ (0 < length (sent (take (length xs - i) (drop i xs))))) → 0 < length (sent (drop i xs))
does_send xs i b is h =
    let e = ap (λ x. length (sent x)) (take_rest xs i) in
    let some = h.0 is in
    omega arith

pub does_not_send : (xs : List Entry) (i : ℕ) (b : Bool) → b ≡ false → (IsTrue b ↔ (0 < length (sent (take (length xs - i) (drop i xs))))) → 0 < length (sent (drop i xs)) → ⊥
does_not_send xs i b is h some =
    let e = ap (λ x. length (sent x)) (take_rest xs i) in
    let t : b ≡ true = h.1 (omega arith) in
    let f : true ≡ false = sym t ∙ is in
    absurd (cc)

pub unsent : (log other : List Entry) (i j : ℕ) → StopsAt log i (take j other) Waits → (0 < length (sent (drop j other)) → ⊥) → IsUnsent other log i
unsent log other i j (frame, n, r, few) none =
    let e = sent_in_all other j in
    let z : length (sent (drop j other)) ≡ 0 = omega arith in
    (frame, n, r, omega arith)

pub unsent_at_end : (log other : List Entry) (i j : ℕ) → StopsAt log i (take j other) Waits → j ≡ length other → IsUnsent other log i
unsent_at_end log other i j h end =
    let e : drop j other ≡ [] = drop_all j other (omega arith) in
    unsent log other i j h (λ some. let l = ap (λ x. length (sent x)) e in omega arith)

pub sent_later : (log other : List Entry) (i j : ℕ) → i ≤ length log → j ≤ length other → IsDelivered (take j other) (take i log) → StopsAt log i (take j other) Waits → StopsAt other j (take i log) Waits → 0 < length (sent (drop j other)) → IsSentLater other log j i
sent_later log other i j within within_other (rest, e) (frame, n, r, few) (frame', n', r', few') some =
    let first = first_sent (drop j other) some in
    let k : ℕ = first.0 in
    let s : SendsAs (drop j other) k first.1 0 = first.2 in
    let all : length (sent (take j other)) ≡ n =
    (let l = ap length e in let m = length-append (received (take i log)) rest in let g = r.number in omega arith) in
    let at : SendsAs (take j other ++ drop j other) (length (take j other) + k) first.1 (length (sent (take j other)) + 0) = sends-append (take j other) (drop j other) k first.1 0 s in
    let P : List Entry → Type 0 = λ x. SendsAs x (length (take j other) + k) first.1 (length (sent (take j other)) + 0) in
    let Q : ℕ → Type 0 = λ x. SendsAs other x first.1 (length (sent (take j other)) + 0) in
    let R : ℕ → Type 0 = λ x. SendsAs other (j + k) first.1 x in
    let l : length (take j other) ≡ j = length-take-le j other within_other in
    let there : SendsAs other (j + k) first.1 n =
    subst R (let x : length (sent (take j other)) + 0 ≡ n = omega arith in x)
    (subst Q (let x : length (take j other) + k ≡ j + k = omega arith in x) (subst P (take-append-drop j other) at)) in
    (frame, first.1, n, j + k, r, there, after k s)
  where
    after : (k : ℕ) → SendsAs (drop j other) k (first_sent (drop j other) some).1 0 → j < j + k
    after zero s =
        absurd (
        let silent : sent_by (entry_at other j).event ≡ [] = receives_silent (entry_at other j).event frame' r'.frame_is in
        let here = get_or-drop j other 0 (record { time = 0; event = Up }) in
        let a = ap (λ (x : Entry). length (sent_by x.event)) here in
        let b = ap length s.frame_is in
        let c = ap length silent in
        let d = ap (λ x. length (sent_by (entry_at other x).event)) (let x : j + 0 ≡ j = omega arith in x) in
        omega arith)
    after (suc k) s = omega arith
