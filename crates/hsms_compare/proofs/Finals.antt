-- The outcome of a request: it is unique, and a final one does not change.
use Rattle.std.proofs.Common.{◌≡◌, ◌++◌, ◌+◌, ◌-◌, ◌<◌, ℕ, List, [], ◌∷◌, length, take, drop, refl, sym, ◌∙◌, ap, subst, inl, inr, arith}
use Rattle.std.specs.Prelude.{Some, None}
use Rattle.std.proofs.lemmas.List.{length-append, take-take, take-append-le, take-append-drop, get_or_append_left}
use Rattle.std.proofs.lemmas.Bool.{cases_order}
use Rattle.hsms_frame.specs.Frame.{Frame}
use Rattle.hsms_machine.specs.declared.entry.Entry.{Entry}
use Rattle.hsms_machine.specs.declared.entry.Event.TheVariants.{Up}
use Rattle.hsms_machine.specs.Entry.{entry_at}
use Rattle.hsms_machine.specs.Transaction.{closes}
use Rattle.hsms_compare.specs.declared.outcome.Outcome.TheVariants.{NotReceived, Discarded, Unanswered, AnsweredLate, ReplyNotReceived, Replied}
use Rattle.hsms_compare.specs.Conversation.{sent, received, sent_by, received_by}
use Rattle.hsms_compare.specs.Agreement.{SendsAs, ReceivesAs}
use Rattle.hsms_compare.specs.Outcome.{IsDeliveredAt, IsNotDelivered, IsTakenAt, IsClosedAt, IsNeverClosed, IsAnsweredAt, taken_by, time_between}
use Rattle.hsms_compare.specs.Laws.{OneOutcome, FinalOutcomeStays}
use Rattle.hsms_compare.proofs.Histories.{received-append}
use Rattle.hsms_compare.proofs.Agreements.{received-next}

-- ---- one receipt of each number

-- A later receipt has a greater number.
later_number : (log : List Entry) (i i' : ℕ) (f f' : Frame) (n n' : ℕ) → ReceivesAs log i f n → ReceivesAs log i' f' n' → i < i' → n < n'
later_number log i i' f f' n n' r r' lt =
    let e : take (i + 1) (take i' log) ≡ take (i + 1) log = take-take (i + 1) i' log (omega arith) in
    let a = ap (λ x. length (received x)) (sym (take-append-drop (i + 1) (take i' log))) in
    let b = ap length (received-append (take (i + 1) (take i' log)) (drop (i + 1) (take i' log))) in
    let c = length-append (received (take (i + 1) (take i' log))) (received (drop (i + 1) (take i' log))) in
    let d = ap (λ x. length (received x)) e in
    let g = ap length (received-next log i f n r) in
    let h = length-append (received (take i log)) (f ∷ []) in
    let m = r.number in
    let m' = r'.number in
    omega arith

one_receipt : (log : List Entry) (i i' : ℕ) (f f' : Frame) (n n' : ℕ) → ReceivesAs log i f n → ReceivesAs log i' f' n' → n ≡ n' → i ≡ i'
one_receipt log i i' f f' n n' r r' e =
    elim (cases_order i i') [
      | inl same ↦ same
      | inr other ↦ elim other [
        | inl lt ↦ absurd (let l = later_number log i i' f f' n n' r r' lt in omega arith)
        | inr gt ↦ absurd (let l = later_number log i' i f' f n' n r' r gt in omega arith)
      ]
    ]

-- A receipt's number is less than the number of receipts.
within_all : (log : List Entry) (i : ℕ) (f : Frame) (n : ℕ) → ReceivesAs log i f n → n < length (received log)
within_all log i f n r =
    let a = ap (λ x. length (received x)) (sym (take-append-drop (i + 1) log)) in
    let b = ap length (received-append (take (i + 1) log) (drop (i + 1) log)) in
    let c = length-append (received (take (i + 1) log)) (received (drop (i + 1) log)) in
    let g = ap length (received-next log i f n r) in
    let h = length-append (received (take i log)) (f ∷ []) in
    let m = r.number in
    omega arith

one_delivery : (sender receiver : List Entry) (k k' i i' : ℕ) → k ≡ k' → IsDeliveredAt sender k receiver i → IsDeliveredAt sender k' receiver i' → i ≡ i'
one_delivery sender receiver k k' i i' e a b =
    let x = a.3.number in
    let y = b.3.number in
    let z = ap (λ m. length (sent (take m sender))) e in
    one_receipt receiver i i' a.1 b.1 a.2 b.2 a.4 b.4 (omega arith)

not_both : {A : Type 0} (sender receiver : List Entry) (k k' i : ℕ) → k ≡ k' → IsNotDelivered sender k receiver → IsDeliveredAt sender k' receiver i → A
not_both sender receiver k k' i e a b =
    absurd (
    let x = a.2.number in
    let y = b.3.number in
    let z = ap (λ m. length (sent (take m sender))) e in
    let w = within_all receiver i b.1 b.2 b.4 in
    let few = a.3 in
    omega arith)

-- ---- one outcome

one_closing : (log : List Entry) (m m' k k' : ℕ) → m ≡ m' → IsClosedAt log m k → IsClosedAt log m' k' → k ≡ k'
one_closing log m m' k k' e a b =
    let P : ℕ → Type 0 = λ x. IsClosedAt log x k' in
    let c : IsClosedAt log m k' = subst P (sym e) b in
    elim (cases_order k k') [
      | inl same ↦ same
      | inr other ↦ elim other [
        | inl lt ↦ absurd (c.first k a.later lt a.closing)
        | inr gt ↦ absurd (a.first k' c.later gt c.closing)
      ]
    ]

not_closed : {A : Type 0} (log : List Entry) (m m' k : ℕ) → m ≡ m' → IsNeverClosed log m → IsClosedAt log m' k → A
not_closed log m m' k e never b =
    let P : ℕ → Type 0 = λ x. IsClosedAt log x k in
    let c : IsClosedAt log m k = subst P (sym e) b in
    absurd (never k c.later c.there c.closing)

not_taken : {A : Type 0} (log : List Entry) (m m' : ℕ) → m ≡ m' → taken_by (entry_at log m).event ≡ None → IsTakenAt log m' → A
not_taken log m m' e none some =
    let f = ap (λ x. taken_by (entry_at log x).event) e in
    let g : Some some.0 ≡ None = sym some.1 ∙ sym f ∙ none in
    absurd (cc)

same_answer : (own : List Entry) (j : ℕ) (other : List Entry) (m m' k k' t t' : ℕ) → IsAnsweredAt own j other m k t → IsAnsweredAt own j other m' k' t' → (m ≡ m') × (k ≡ k') × (t ≡ t')
same_answer own j other m m' k k' t t' a b =
    let e : m ≡ m' = one_delivery own other j j m m' refl a.delivered b.delivered in
    let f : k ≡ k' = one_closing other m m' k k' e a.closed b.closed in
    (e, f, a.time ∙ ap (λ x. time_between other x k) e ∙ ap (λ x. time_between other m' x) f ∙ sym b.time)

pub one_outcome : OneOutcome
one_outcome own other j limit NotReceived NotReceived h g =
    refl
one_outcome own other j limit NotReceived (Discarded m') h g =
    not_both own other j j m' refl h g.0
one_outcome own other j limit NotReceived (Unanswered m') h g =
    not_both own other j j m' refl h g.0
one_outcome own other j limit NotReceived (AnsweredLate m' k' t') h g =
    not_both own other j j m' refl h g.0.delivered
one_outcome own other j limit NotReceived (ReplyNotReceived m' k' t') h g =
    not_both own other j j m' refl h g.0.delivered
one_outcome own other j limit NotReceived (Replied m' k' t' i' w') h g =
    not_both own other j j m' refl h g.0.delivered
one_outcome own other j limit (Discarded m) NotReceived h g =
    not_both own other j j m refl g h.0
one_outcome own other j limit (Discarded m) (Discarded m') h g =
    ap Discarded (one_delivery own other j j m m' refl h.0 g.0)
one_outcome own other j limit (Discarded m) (Unanswered m') h g =
    not_taken other m m' (one_delivery own other j j m m' refl h.0 g.0) h.1 g.1
one_outcome own other j limit (Discarded m) (AnsweredLate m' k' t') h g =
    not_taken other m m' (one_delivery own other j j m m' refl h.0 g.0.delivered) h.1 g.0.taken
one_outcome own other j limit (Discarded m) (ReplyNotReceived m' k' t') h g =
    not_taken other m m' (one_delivery own other j j m m' refl h.0 g.0.delivered) h.1 g.0.taken
one_outcome own other j limit (Discarded m) (Replied m' k' t' i' w') h g =
    not_taken other m m' (one_delivery own other j j m m' refl h.0 g.0.delivered) h.1 g.0.taken
one_outcome own other j limit (Unanswered m) NotReceived h g =
    not_both own other j j m refl g h.0
one_outcome own other j limit (Unanswered m) (Discarded m') h g =
    not_taken other m' m (sym (one_delivery own other j j m m' refl h.0 g.0)) g.1 h.1
one_outcome own other j limit (Unanswered m) (Unanswered m') h g =
    ap Unanswered (one_delivery own other j j m m' refl h.0 g.0)
one_outcome own other j limit (Unanswered m) (AnsweredLate m' k' t') h g =
    not_closed other m m' k' (one_delivery own other j j m m' refl h.0 g.0.delivered) h.2 g.0.closed
one_outcome own other j limit (Unanswered m) (ReplyNotReceived m' k' t') h g =
    not_closed other m m' k' (one_delivery own other j j m m' refl h.0 g.0.delivered) h.2 g.0.closed
one_outcome own other j limit (Unanswered m) (Replied m' k' t' i' w') h g =
    not_closed other m m' k' (one_delivery own other j j m m' refl h.0 g.0.delivered) h.2 g.0.closed
one_outcome own other j limit (AnsweredLate m k t) NotReceived h g =
    not_both own other j j m refl g h.0.delivered
one_outcome own other j limit (AnsweredLate m k t) (Discarded m') h g =
    not_taken other m' m (sym (one_delivery own other j j m m' refl h.0.delivered g.0)) g.1 h.0.taken
one_outcome own other j limit (AnsweredLate m k t) (Unanswered m') h g =
    not_closed other m' m k (sym (one_delivery own other j j m m' refl h.0.delivered g.0)) g.2 h.0.closed
one_outcome own other j limit (AnsweredLate m k t) (AnsweredLate m' k' t') h g =
    let s = same_answer own j other m m' k k' t t' h.0 g.0 in ap (λ x. AnsweredLate x k t) s.0 ∙ ap (λ x. AnsweredLate m' x t) s.1 ∙ ap (λ x. AnsweredLate m' k' x) s.2
one_outcome own other j limit (AnsweredLate m k t) (ReplyNotReceived m' k' t') h g =
    let s = same_answer own j other m m' k k' t t' h.0 g.0 in absurd (let e = s.2 in let a = h.1 in let b = g.1 in omega arith)
one_outcome own other j limit (AnsweredLate m k t) (Replied m' k' t' i' w') h g =
    let s = same_answer own j other m m' k k' t t' h.0 g.0 in absurd (let e = s.2 in let a = h.1 in let b = g.1 in omega arith)
one_outcome own other j limit (ReplyNotReceived m k t) NotReceived h g =
    not_both own other j j m refl g h.0.delivered
one_outcome own other j limit (ReplyNotReceived m k t) (Discarded m') h g =
    not_taken other m' m (sym (one_delivery own other j j m m' refl h.0.delivered g.0)) g.1 h.0.taken
one_outcome own other j limit (ReplyNotReceived m k t) (Unanswered m') h g =
    not_closed other m' m k (sym (one_delivery own other j j m m' refl h.0.delivered g.0)) g.2 h.0.closed
one_outcome own other j limit (ReplyNotReceived m k t) (AnsweredLate m' k' t') h g =
    let s = same_answer own j other m m' k k' t t' h.0 g.0 in absurd (let e = s.2 in let a = h.1 in let b = g.1 in omega arith)
one_outcome own other j limit (ReplyNotReceived m k t) (ReplyNotReceived m' k' t') h g =
    let s = same_answer own j other m m' k k' t t' h.0 g.0 in ap (λ x. ReplyNotReceived x k t) s.0 ∙ ap (λ x. ReplyNotReceived m' x t) s.1 ∙ ap (λ x. ReplyNotReceived m' k' x) s.2
one_outcome own other j limit (ReplyNotReceived m k t) (Replied m' k' t' i' w') h g =
    let s = same_answer own j other m m' k k' t t' h.0 g.0 in not_both other own k k' i' s.1 h.2 g.2
one_outcome own other j limit (Replied m k t i w) NotReceived h g =
    not_both own other j j m refl g h.0.delivered
one_outcome own other j limit (Replied m k t i w) (Discarded m') h g =
    not_taken other m' m (sym (one_delivery own other j j m m' refl h.0.delivered g.0)) g.1 h.0.taken
one_outcome own other j limit (Replied m k t i w) (Unanswered m') h g =
    not_closed other m' m k (sym (one_delivery own other j j m m' refl h.0.delivered g.0)) g.2 h.0.closed
one_outcome own other j limit (Replied m k t i w) (AnsweredLate m' k' t') h g =
    let s = same_answer own j other m m' k k' t t' h.0 g.0 in absurd (let e = s.2 in let a = h.1 in let b = g.1 in omega arith)
one_outcome own other j limit (Replied m k t i w) (ReplyNotReceived m' k' t') h g =
    let s = same_answer own j other m m' k k' t t' h.0 g.0 in not_both other own k' k i (sym s.1) g.2 h.2
one_outcome own other j limit (Replied m k t i w) (Replied m' k' t' i' w') h g =
    let s = same_answer own j other m m' k k' t t' h.0 g.0 in let d : i ≡ i' = one_delivery other own k k' i i' s.1 h.2 g.2 in ap (λ x. Replied x k t i w) s.0 ∙ ap (λ x. Replied m' x t i w) s.1 ∙ ap (λ x. Replied m' k' x i w) s.2 ∙ ap (λ x. Replied m' k' t' x w) d ∙ ap (λ x. Replied m' k' t' i' x) (h.3 ∙ ap (λ x. time_between own j x) d ∙ sym g.3)

-- ---- facts that more entries do not change

pub sends-more : (log more : List Entry) (k : ℕ) (f : Frame) (n : ℕ) → SendsAs log k f n → SendsAs (log ++ more) k f n
sends-more log more k f n s =
    let t = s.there in
    record {
      there = (let l = length-append log more in omega arith);
      frame_is = ap (λ (x : Entry). sent_by x.event) (get_or_append_left log more (record { time = 0; event = Up }) k s.there) ∙ s.frame_is;
      number = s.number ∙ ap (λ x. length (sent x)) (sym (take-append-le k log more (omega arith)));
    }

pub receives-more : (log more : List Entry) (k : ℕ) (f : Frame) (n : ℕ) → ReceivesAs log k f n → ReceivesAs (log ++ more) k f n
receives-more log more k f n s =
    let t = s.there in
    record {
      there = (let l = length-append log more in omega arith);
      frame_is = ap (λ (x : Entry). received_by x.event) (get_or_append_left log more (record { time = 0; event = Up }) k s.there) ∙ s.frame_is;
      number = s.number ∙ ap (λ x. length (received x)) (sym (take-append-le k log more (omega arith)));
    }

pub delivered-more : (sender receiver more rest : List Entry) (k i : ℕ) → IsDeliveredAt sender k receiver i → IsDeliveredAt (sender ++ more) k (receiver ++ rest) i
delivered-more sender receiver more rest k i (f, g, n, s, r) = (f, g, n, sends-more sender more k f n s, receives-more receiver rest i g n r)

pub at-more : (log more : List Entry) (k : ℕ) → k < length log → entry_at (log ++ more) k ≡ entry_at log k
at-more log more k there = get_or_append_left log more (record { time = 0; event = Up }) k there

closed-more : (log more : List Entry) (m k : ℕ) → IsClosedAt log m k → IsClosedAt (log ++ more) m k
closed-more log more m k c =
    let later = c.later in
    let there = c.there in
    let at_m : entry_at (log ++ more) m ≡ entry_at log m = at-more log more m (omega arith) in
    let test : (p : ℕ) → p < length log → closes (entry_at (log ++ more) m).event (entry_at (log ++ more) p).event ≡ closes (entry_at log m).event (entry_at log p).event
    = λ p l. ap (λ (x : Entry). closes x.event (entry_at (log ++ more) p).event) at_m ∙ ap (λ (x : Entry). closes (entry_at log m).event x.event) (at-more log more p l) in
    record {
      later = c.later;
      there = (let l = length-append log more in omega arith);
      closing = test k c.there ∙ c.closing;
      first = λ p after before closing. c.first p after before (sym (test p (omega arith)) ∙ closing);
    }

pub time-more : (log more : List Entry) (m k : ℕ) → m < length log → k < length log → time_between (log ++ more) m k ≡ time_between log m k
time-more log more m k l l' =
    ap (λ (x : Entry). (entry_at (log ++ more) k).time - x.time) (at-more log more m l) ∙ ap (λ (x : Entry). x.time - (entry_at log m).time) (at-more log more k l')

pub answered-more : (own other more rest : List Entry) (j m k t : ℕ) → IsAnsweredAt own j other m k t → IsAnsweredAt (own ++ more) j (other ++ rest) m k t
answered-more own other more rest j m k t a =
    let later = a.closed.later in
    let there = a.closed.there in
    let within : m < length other = omega arith in
    record {
      delivered = delivered-more own other more rest j m a.delivered;
      taken = (a.taken.0, ap (λ (x : Entry). taken_by x.event) (at-more other rest m within) ∙ a.taken.1);
      closed = closed-more other rest m k a.closed;
      time = a.time ∙ sym (time-more other rest m k within a.closed.there);
    }

pub final_stays : FinalOutcomeStays
final_stays own other more rest j limit NotReceived final h = absurd (cc)
final_stays own other more rest j limit (Discarded m) final h =
    (delivered-more own other more rest j m h.0, ap (λ (x : Entry). taken_by x.event) (at-more other rest m h.0.4.there) ∙ h.1)
final_stays own other more rest j limit (Unanswered m) final h = absurd (cc)
final_stays own other more rest j limit (AnsweredLate m k t) final h = (answered-more own other more rest j m k t h.0, h.1)
final_stays own other more rest j limit (ReplyNotReceived m k t) final h = absurd (cc)
final_stays own other more rest j limit (Replied m k t i w) final h = (
  answered-more own other more rest j m k t h.0,
  h.1,
  delivered-more other own rest more k i h.2,
  h.3 ∙ sym (time-more own more j i h.0.delivered.3.there h.2.4.there),
)
