-- The open primary that was opened first has the lowest line number.
use Rattle.std.proofs.Common.{◌≡◌, ℕ, ◌<◌, ◌==◌, Bool, true, false, cond, List, [], ◌∷◌, length, Option, Some, None, inl, inr, refl, sym, ap, subst, ◌∙◌, nat_lt, arith}
use Rattle.std.specs.List.{list_any}
use Rattle.std.proofs.lemmas.Bool.{cases_Bool, eqb-true, eq-eqb, ltb-true, ltb-false, lt-ltb}
use Rattle.hsms_frame.specs.declared.header.Header.{Header}
use Rattle.hsms_machine.specs.declared.entry.Entry.{Entry}
use Rattle.hsms_machine.specs.declared.entry.Event.{Event}
use Rattle.hsms_machine.specs.declared.entry.Event.TheVariants.{Sent}
use Rattle.hsms_machine.specs.declared.open_transactions.Transaction.{Transaction}
use Rattle.hsms_machine.specs.declared.view.View.{View}
use Rattle.hsms_machine.specs.Entry.{entry_at}
use Rattle.hsms_machine.specs.Message.{is_data_request}
use Rattle.hsms_machine.specs.Transaction.{SentData, IsOpen, opened_by, opened_as_at, passes}
use Rattle.hsms_machine.specs.View.{open_of}
use Rattle.hsms_machine.specs.OpeningOrder.{first_of}
use Rattle.hsms_machine.specs.InnerOpeningOrder.{AreInOrder}
use Rattle.hsms_machine.specs.OpeningLines.{SameEvents, is_sent_primary, IsPlaceOfOldest, NoPrimaryIsOpen}
use Rattle.hsms_machine.proofs.Mapped.{any_first}
use Rattle.hsms_machine.proofs.ViewsOfRuns.{pool_from_open, open_from_pool}
use Rattle.hsms_machine.proofs.Placed.{same-at, same-sym, open-same, TimeIs, time-opened, pool_seen}

-- ---- one entry

passes_any : (kind : Header → Bool) (time : ℕ) (header : Header) → passes (λ opened. true) (opened_by kind time header) ≡ kind header
passes_any kind time header = elim (kind header) as (λ b. passes (λ opened. true) (cond b (Some (record { time = time; header = header })) None) ≡ b) [ true ↦ refl | false ↦ refl ]

-- A sent primary opens a transaction of sent data, and nothing else does.
primary_opens : (time : ℕ) (event : Event) → passes (λ opened. true) (opened_as_at SentData time event) ≡ is_sent_primary event
primary_opens time (Sent frame) = passes_any is_data_request time frame.header
primary_opens time event = refl

-- A test of the transaction's time is a test of the entry's time.
timed : (test : ℕ → Bool) (time : ℕ) (o : Option Transaction) → TimeIs time o → passes (λ opened. true) o ≡ true → passes (λ opened. test opened.time) o ≡ test time
timed test time None is some = absurd (let d : false ≡ true = some in cc)
timed test time (Some opened) is some = ap test is

some_of : (test : Transaction → Bool) (o : Option Transaction) → passes test o ≡ true → passes (λ opened. true) o ≡ true
some_of test None e = e
some_of test (Some opened) e = refl

-- ---- the first of a list

first_any : (xs : List Transaction) (opened : Transaction) → first_of xs ≡ Some opened → list_any (λ other. other.time == opened.time) xs ≡ true
first_any [] opened e = absurd cc
first_any (x ∷ xs) opened e =
    let is : x ≡ opened = cc in
    let same : (x.time == opened.time) ≡ true = eq-eqb x.time opened.time (ap (λ (y : Transaction). y.time) is) in
    rw same refl

none_lower : (xs : List Transaction) (opened : Transaction) → AreInOrder xs → first_of xs ≡ Some opened → list_any (λ other. nat_lt other.time opened.time) xs ≡ false
none_lower xs opened in_order e =
    any_first (λ time. nat_lt time opened.time) (λ a b le lower. (let h : b < opened.time = ltb-true b opened.time lower in lt-ltb a opened.time (omega arith))) xs in_order
    ∙ ap (passes (λ other. nat_lt other.time opened.time)) e ∙ irreflexive opened.time (nat_lt opened.time opened.time) refl
  where
    irreflexive : (n : ℕ) (b : Bool) → nat_lt n n ≡ b → b ≡ false
    irreflexive n false e = refl
    irreflexive n true e = absurd (let h : n < n = ltb-true n n e in omega arith)

none_first : (xs : List Transaction) → first_of xs ≡ None → list_any (λ other. true) xs ≡ false
none_first [] e = refl
none_first (x ∷ xs) e = absurd cc

-- ---- the log

-- An open sent primary passes each test of its line number.
primary_passes : (test : ℕ → Bool) (log placed : List Entry) → SameEvents log placed → (j : ℕ) → IsOpen log j (length log) → is_sent_primary (entry_at log j).event ≡ true → test (entry_at placed j).time ≡ true → list_any (λ opened. test opened.time) (open_of SentData placed) ≡ true
primary_passes test log placed s j unclosed is passed =
    let entry = entry_at placed j in
    let some = primary_opens entry.time entry.event ∙ ap is_sent_primary (sym (same-at log placed s j)) ∙ is in
    pool_from_open SentData placed (λ opened. test opened.time)
    (j, open-same log placed s j unclosed, timed test entry.time (opened_as_at SentData entry.time entry.event) (time-opened SentData entry.time entry.event) some ∙ passed)

pub oldest_found : (view places : View) → view ≡ places → (opened : Transaction) → first_of view.sent_data ≡ Some opened → AreInOrder view.sent_data → IsPlaceOfOldest places opened.time
oldest_found view places is opened first in_order = λ log placed has.
    let seen = pool_seen SentData view places log placed is has in
    let place = opened.time in
    let some = open_from_pool SentData placed (λ other. other.time == place) (subst (λ xs. list_any (λ other. other.time == place) xs ≡ true) seen (first_any view.sent_data opened first)) in
    let entry = entry_at placed some.0 in
    let here = some_of (λ other. other.time == place) (opened_as_at SentData entry.time entry.event) some.2 in
    let at_time = sym (timed (λ time. time == place) entry.time (opened_as_at SentData entry.time entry.event) (time-opened SentData entry.time entry.event) here) ∙ some.2 in
    let lower = subst (λ xs. list_any (λ other. nat_lt other.time place) xs ≡ false) seen (none_lower view.sent_data opened in_order first) in (
      some.0,
      open-same placed log (same-sym log placed has.same) some.0 some.1,
      ap is_sent_primary (same-at log placed has.same some.0) ∙ sym (primary_opens entry.time entry.event) ∙ here,
      eqb-true entry.time place at_time,
      (λ other unclosed sent. elim (cases_Bool (nat_lt (entry_at placed other).time place)) [
        | inl t ↦ absurd (let d : true ≡ false = sym (primary_passes (λ time. nat_lt time place) log placed has.same other unclosed sent t) ∙ lower in cc)
        | inr f ↦ ltb-false (entry_at placed other).time place f
      ]),
    )

pub oldest_none : (view places : View) → view ≡ places → first_of view.sent_data ≡ None → NoPrimaryIsOpen places
oldest_none view places is first = λ log placed has j unclosed sent.
    let seen = pool_seen SentData view places log placed is has in
    let none = subst (λ xs. list_any (λ other. true) xs ≡ false) seen (none_first view.sent_data first) in
    let d : true ≡ false = sym (primary_passes (λ time. true) log placed has.same j unclosed sent refl) ∙ none in
    cc
