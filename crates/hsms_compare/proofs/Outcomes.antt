-- The outcome of a request.
use Rattle.std.proofs.Common.{◌≡◌, ◌+◌, ◌<◌, ◌≤◌, ℕ, List, [], ◌∷◌, length, take, get_or, refl, sym, ◌∙◌, ap, subst, inl, inr, arith}
use Rattle.std.specs.Prelude.{◌⊎◌, Bool, true, false, IsTrue, Some}
use Rattle.std.proofs.lemmas.List.{length-append, take_more, take_all, get_or_read}
use Rattle.std.proofs.lemmas.Bool.{cases_order}
use Rattle.hsms_frame.specs.Frame.{Frame}
use Rattle.hsms_frame.specs.declared.header.Header.{Header}
use Rattle.hsms_machine.specs.declared.entry.Entry.{Entry}
use Rattle.hsms_machine.specs.declared.entry.Event.{Event}
use Rattle.hsms_machine.specs.declared.entry.Event.TheVariants.{Up, Sent, Taken, Discarded, T3, Cut, Down}
use Rattle.hsms_machine.specs.Entry.{entry_at}
use Rattle.hsms_machine.specs.Transaction.{closes, closes_taken}
use Rattle.hsms_compare.specs.Conversation.{sent, received, sent_by, received_by}
use Rattle.hsms_compare.specs.Agreement.{SendsAs, ReceivesAs}
use Rattle.hsms_compare.specs.Outcome.{IsClosedAt, IsDeliveredAt, IsNotDelivered, taken_by}
use Rattle.hsms_compare.proofs.Histories.{sent-append, received-append}
use Rattle.hsms_compare.proofs.Merges.{sends_cases}

-- An event receives one frame or none.
pub receives_cases : (event : Event) → (received_by event ≡ []) ⊎ ((frame : Frame) × (received_by event ≡ frame ∷ []))
receives_cases Up = inl refl
receives_cases (Sent frame) = inl refl
receives_cases (Taken frame) = inr (frame, refl)
receives_cases (Discarded frame) = inr (frame, refl)
receives_cases (T3 system) = inl refl
receives_cases (Cut cause) = inl refl
receives_cases Down = inl refl

-- ---- counts

sent_count : (log : List Entry) (i : ℕ) (x : Entry) → i < length log → x ≡ get_or log i x → length (sent (take (i + 1) log)) ≡ length (sent (take i log)) + length (sent_by x.event)
sent_count log i x there x_is =
    let e = ap (λ y. length (sent y)) (take_more log i x there) in
    let f = ap length (sent-append (take i log) (get_or log i x ∷ [])) in
    let g = length-append (sent (take i log)) (sent (get_or log i x ∷ [])) in
    let k = length-append (sent_by (get_or log i x).event) [] in
    let h = ap (λ (y : Entry). length (sent_by y.event)) x_is in
    omega arith

pub sent_one : (log : List Entry) (i : ℕ) (x : Entry) → i < length log → x ≡ get_or log i x → 0 < length (sent_by x.event) → length (sent (take (i + 1) log)) ≡ length (sent (take i log)) + 1
sent_one log i x there x_is some =
    elim (sends_cases x.event) [
      | inl none ↦ absurd (let n = ap length none in omega arith)
      | inr one ↦ sent_count log i x there x_is ∙ ap (λ n. length (sent (take i log)) + n) (ap length one.1)
    ]

pub sent_none : (log : List Entry) (i : ℕ) (x : Entry) → i < length log → x ≡ get_or log i x → (0 < length (sent_by x.event) → ⊥) → length (sent (take (i + 1) log)) ≡ length (sent (take i log))
sent_none log i x there x_is none = let e = sent_count log i x there x_is in omega arith

received_count : (log : List Entry) (i : ℕ) (x : Entry) → i < length log → x ≡ get_or log i x → length (received (take (i + 1) log)) ≡ length (received (take i log)) + length (received_by x.event)
received_count log i x there x_is =
    let e = ap (λ y. length (received y)) (take_more log i x there) in
    let f = ap length (received-append (take i log) (get_or log i x ∷ [])) in
    let g = length-append (received (take i log)) (received (get_or log i x ∷ [])) in
    let k = length-append (received_by (get_or log i x).event) [] in
    let h = ap (λ (y : Entry). length (received_by y.event)) x_is in
    omega arith

pub received_one : (log : List Entry) (i : ℕ) (x : Entry) → i < length log → x ≡ get_or log i x → 0 < length (received_by x.event) → length (received (take (i + 1) log)) ≡ length (received (take i log)) + 1
received_one log i x there x_is some =
    elim (receives_cases x.event) [
      | inl none ↦ absurd (let n = ap length none in omega arith)
      | inr one ↦ received_count log i x there x_is ∙ ap (λ n. length (received (take i log)) + n) (ap length one.1)
    ]

pub received_none : (log : List Entry) (i : ℕ) (x : Entry) → i < length log → x ≡ get_or log i x → (0 < length (received_by x.event) → ⊥) → length (received (take (i + 1) log)) ≡ length (received (take i log))
received_none log i x there x_is none = let e = received_count log i x there x_is in omega arith

pub received_all : (log : List Entry) (i : ℕ) → length log ≤ i → length (received (take i log)) ≡ length (received log)
received_all log i le = ap (λ x. length (received x)) (take_all i log le)

pub receipt_at : (log : List Entry) (i : ℕ) (x : Entry) (n : ℕ) → i < length log → x ≡ get_or log i x → 0 < length (received_by x.event) → n ≡ length (received (take i log)) → (frame : Frame) × ReceivesAs log i frame n
receipt_at log i x n there x_is some number =
    let at : x ≡ entry_at log i = get_or_read log i x there x_is (record { time = 0; event = Up }) in
    elim (receives_cases x.event) [
      | inl none ↦ absurd (let n = ap length none in omega arith)
      | inr one ↦ (one.0, record { there = there; frame_is = ap (λ (y : Entry). received_by y.event) (sym at) ∙ one.1; number = number })
    ]

-- ---- deliveries

sends_at : (log : List Entry) (k : ℕ) (n : ℕ) → k < length log → 0 < length (sent_by (entry_at log k).event) → n ≡ length (sent (take k log)) → (frame : Frame) × SendsAs log k frame n
sends_at log k n there some number =
    elim (sends_cases (entry_at log k).event) [
      | inl none ↦ absurd (let m = ap length none in omega arith)
      | inr one ↦ (one.0, record { there = there; frame_is = one.1; number = number })
    ]

pub delivered_at : (sender receiver : List Entry) (k i n : ℕ) → k < length sender → 0 < length (sent_by (entry_at sender k).event) → n ≡ length (sent (take k sender)) → (frame : Frame) × ReceivesAs receiver i frame n → IsDeliveredAt sender k receiver i
delivered_at sender receiver k i n there some number r =
    let s = sends_at sender k n there some number in
    (s.0, r.0, n, s.1, r.1)

pub not_delivered : (sender receiver : List Entry) (k n : ℕ) → k < length sender → 0 < length (sent_by (entry_at sender k).event) → n ≡ length (sent (take k sender)) → length (received receiver) ≤ n → IsNotDelivered sender k receiver
not_delivered sender receiver k n there some number few =
    let s = sends_at sender k n there some number in
    (s.0, n, s.1, few)

-- ---- entries that close a transaction

-- The transaction of an accepted request.
pub closes_as : (event later : Event) (request : Header) → taken_by event ≡ Some request → closes event later ≡ closes_taken request later
closes_as (Taken frame) later request e = let h : frame.header ≡ request = cc in ap (λ (x : Header). closes_taken x later) h
closes_as Up later request e = absurd (cc)
closes_as (Sent frame) later request e = absurd (cc)
closes_as (Discarded frame) later request e = absurd (cc)
closes_as (T3 system) later request e = absurd (cc)
closes_as (Cut cause) later request e = absurd (cc)
closes_as Down later request e = absurd (cc)

module _ (log : List Entry) (m : ℕ) (request : Header) (taken : taken_by (entry_at log m).event ≡ Some request) (i : ℕ) (x : Entry) (there : i < length log) (x_is : x ≡ get_or log i x) (b : Bool) (b_is : b ≡ closes_taken request x.event) where
  its_test : closes (entry_at log m).event (entry_at log i).event ≡ b
  its_test =
      closes_as (entry_at log m).event (entry_at log i).event request taken
      ∙ ap (λ (y : Entry). closes_taken request y.event) (sym (get_or_read log i x there x_is (record { time = 0; event = Up })))
      ∙ sym b_is

  pub closed_here : b ≡ true → m < i → ((p : ℕ) → m < p → p < i → IsTrue (closes (entry_at log m).event (entry_at log p).event) → ⊥) → IsClosedAt log m i
  closed_here e later before = record { later = later; there = there; closing = its_test ∙ e; first = before }

  pub not_here : b ≡ false → ((p : ℕ) → m < p → p < i → IsTrue (closes (entry_at log m).event (entry_at log p).event) → ⊥) → (p : ℕ) → m < p → p < i + 1 → IsTrue (closes (entry_at log m).event (entry_at log p).event) → ⊥
  not_here e before p later lt closing =
      elim (cases_order p i) [
        | inl at ↦
            let P : ℕ → Type 0 = λ k. IsTrue (closes (entry_at log m).event (entry_at log k).event) in
            let t : true ≡ false = sym (subst P at closing) ∙ its_test ∙ e in
            absurd (cc)
        | inr other ↦ elim other [ inl l ↦ before p later l closing | inr g ↦ absurd (omega arith) ]
      ]

-- An answer sends a frame.
pub closing_sends : (event later : Event) (request : Header) → taken_by event ≡ Some request → IsTrue (closes event later) → 0 < length (sent_by later)
closing_sends event Up request e c = let t : false ≡ true = sym (closes_as event Up request e) ∙ c in absurd (cc)
closing_sends event (Sent frame) request e c = omega arith
closing_sends event (Taken frame) request e c = let t : false ≡ true = sym (closes_as event (Taken frame) request e) ∙ c in absurd (cc)
closing_sends event (Discarded frame) request e c = let t : false ≡ true = sym (closes_as event (Discarded frame) request e) ∙ c in absurd (cc)
closing_sends event (T3 system) request e c = let t : false ≡ true = sym (closes_as event (T3 system) request e) ∙ c in absurd (cc)
closing_sends event (Cut cause) request e c = let t : false ≡ true = sym (closes_as event (Cut cause) request e) ∙ c in absurd (cc)
closing_sends event Down request e c = let t : false ≡ true = sym (closes_as event Down request e) ∙ c in absurd (cc)
