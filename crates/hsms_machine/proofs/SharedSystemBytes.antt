-- The open transactions with the system bytes of a frame.
use Rattle.std.proofs.Common.{◌≡◌, ℕ, ◌==◌, Bool, true, false, cond, ◌&&◌, ◌||◌, List, Option, Some, None, IsTrue, IfSome, IfNone, inl, inr, sym, ap, subst, ◌∙◌}
use Rattle.std.specs.List.{list_any}
use Rattle.std.proofs.lemmas.Bool.{and_parts, or_cases, eqb-true}
use Rattle.hsms_frame.specs.declared.header.Header.{Header}
use Rattle.hsms_machine.specs.declared.entry.Event.{Event}
use Rattle.hsms_machine.specs.declared.entry.Event.TheVariants.{Sent, Taken}
use Rattle.hsms_machine.specs.declared.open_transactions.Transaction.{Transaction}
use Rattle.hsms_machine.specs.declared.view.View.{View}
use Rattle.hsms_machine.specs.EventParts.{frame_of}
use Rattle.hsms_machine.specs.Entry.{entry_at}
use Rattle.hsms_machine.specs.Message.{is_data_request, is_control_request}
use Rattle.hsms_machine.specs.Laws.{shares_system}
use Rattle.hsms_machine.specs.Transaction.{Pool, SentData, SentControl, TakenData, TakenControl, opens, opened_by, opened_as_at, passes}
use Rattle.hsms_machine.specs.ViewRules.{pool_of}
use Rattle.hsms_machine.specs.InnerOpeningOrder.{uses}
use Rattle.hsms_machine.specs.OpeningLines.{ForEachPlaced, IsNamesake, IsPlaceInUse, IsNotInUse}
use Rattle.hsms_machine.proofs.Mapped.{or_parts}
use Rattle.hsms_machine.proofs.ViewsOfRuns.{pool_from_open, open_from_pool}
use Rattle.hsms_machine.proofs.Placed.{same-at, same-sym, open-same, pool_seen}

abbrev UsingAt : List Transaction → List Transaction → ℕ → Option ℕ → Type 0
UsingAt one other system result =
    IfSome result (λ place. IsTrue (list_any (λ opened. (opened.header.system == system) && (opened.time == place)) one || list_any (λ opened. (opened.header.system == system) && (opened.time == place)) other))

abbrev UsingNone : List Transaction → List Transaction → ℕ → Option ℕ → Type 0
UsingNone one other system result = IfNone result ((uses system one || uses system other) ≡ false)

shared_by : (kind : Header → Bool) (time place system : ℕ) (header : Header) → passes (λ opened. (opened.header.system == system) && (opened.time == place)) (opened_by kind time header) ≡ true → ((header.system == system) ≡ true) × (time ≡ place)
shared_by kind time place system header = elim (kind header) as (λ b. passes (λ opened. (opened.header.system == system) && (opened.time == place)) (cond b (Some (record { time = time; header = header })) None) ≡ true → ((header.system == system) ≡ true) × (time ≡ place)) [
  | true ↦ λ e. (let parts = and_parts (header.system == system) (time == place) e in (parts.0, eqb-true time place parts.1))
  | false ↦ λ e. absurd (let d : false ≡ true = e in cc)
]

shared_SentData : (message : Header) (text : List ℕ) (time place : ℕ) (opening : Event) → passes (λ opened. (opened.header.system == message.system) && (opened.time == place)) (opened_as_at SentData time opening) ≡ true → (shares_system opening (Sent (frame_of message text)) ≡ true) × (time ≡ place)
shared_SentData message text time place (Sent frame) e = shared_by is_data_request time place message.system frame.header e
shared_SentData message text time place opening e = absurd (let d : false ≡ true = e in cc)

shared_SentControl : (message : Header) (text : List ℕ) (time place : ℕ) (opening : Event) → passes (λ opened. (opened.header.system == message.system) && (opened.time == place)) (opened_as_at SentControl time opening) ≡ true → (shares_system opening (Sent (frame_of message text)) ≡ true) × (time ≡ place)
shared_SentControl message text time place (Sent frame) e = shared_by is_control_request time place message.system frame.header e
shared_SentControl message text time place opening e = absurd (let d : false ≡ true = e in cc)

shared_TakenData : (message : Header) (text : List ℕ) (time place : ℕ) (opening : Event) → passes (λ opened. (opened.header.system == message.system) && (opened.time == place)) (opened_as_at TakenData time opening) ≡ true → (shares_system opening (Taken (frame_of message text)) ≡ true) × (time ≡ place)
shared_TakenData message text time place (Taken frame) e = shared_by is_data_request time place message.system frame.header e
shared_TakenData message text time place opening e = absurd (let d : false ≡ true = e in cc)

shared_TakenControl : (message : Header) (text : List ℕ) (time place : ℕ) (opening : Event) → passes (λ opened. (opened.header.system == message.system) && (opened.time == place)) (opened_as_at TakenControl time opening) ≡ true → (shares_system opening (Taken (frame_of message text)) ≡ true) × (time ≡ place)
shared_TakenControl message text time place (Taken frame) e = shared_by is_control_request time place message.system frame.header e
shared_TakenControl message text time place opening e = absurd (let d : false ≡ true = e in cc)

namesake : (pool : Pool) (event : Event) (system place : ℕ) (view places : View) → view ≡ places → ((time : ℕ) (opening : Event) → passes (λ opened. (opened.header.system == system) && (opened.time == place)) (opened_as_at pool time opening) ≡ true → (shares_system opening event ≡ true) × (time ≡ place)) → list_any (λ opened. (opened.header.system == system) && (opened.time == place)) (pool_of view pool) ≡ true → ForEachPlaced places (λ log placed. IsNamesake log placed event place)
namesake pool event system place view places is shared e = λ log placed has.
    let test = λ (opened : Transaction). (opened.header.system == system) && (opened.time == place) in
    let some = open_from_pool pool placed test (subst (λ xs. list_any test xs ≡ true) (pool_seen pool view places log placed is has) e) in
    let entry = entry_at placed some.0 in
    let parts = shared entry.time entry.event some.2 in (
      some.0,
      open-same placed log (same-sym log placed has.same) some.0 some.1,
      ap (λ (v : Event). shares_system v event) (same-at log placed has.same some.0) ∙ parts.0,
      parts.1,
    )

used_by : (kind : Header → Bool) (time system : ℕ) (header : Header) → kind header ≡ true → (header.system == system) ≡ true → passes (λ opened. opened.header.system == system) (opened_by kind time header) ≡ true
used_by kind time system header k s = rw k s

sent_used : (message : Header) (text : List ℕ) (time : ℕ) (opening : Event) → opens opening ≡ true → shares_system opening (Sent (frame_of message text)) ≡ true → (passes (λ opened. opened.header.system == message.system) (opened_as_at SentData time opening) ≡ true → ⊥) → (passes (λ opened. opened.header.system == message.system) (opened_as_at SentControl time opening) ≡ true → ⊥) → ⊥
sent_used message text time (Sent frame) o s one other = elim (or_cases (is_data_request frame.header) (is_control_request frame.header) o) [
  | inl d ↦ one (used_by is_data_request time message.system frame.header d s)
  | inr d ↦ other (used_by is_control_request time message.system frame.header d s)
]
sent_used message text time opening o s one other = absurd (let d : false ≡ true = s in cc)

taken_used : (message : Header) (text : List ℕ) (time : ℕ) (opening : Event) → opens opening ≡ true → shares_system opening (Taken (frame_of message text)) ≡ true → (passes (λ opened. opened.header.system == message.system) (opened_as_at TakenData time opening) ≡ true → ⊥) → (passes (λ opened. opened.header.system == message.system) (opened_as_at TakenControl time opening) ≡ true → ⊥) → ⊥
taken_used message text time (Taken frame) o s one other = elim (or_cases (is_data_request frame.header) (is_control_request frame.header) o) [
  | inl d ↦ one (used_by is_data_request time message.system frame.header d s)
  | inr d ↦ other (used_by is_control_request time message.system frame.header d s)
]
taken_used message text time opening o s one other = absurd (let d : false ≡ true = s in cc)

pub sent_in_use : (view places : View) → view ≡ places → (event : Event) (message : Header) (text : List ℕ) → event ≡ Sent (frame_of message text) → (result : Option ℕ) → UsingAt view.sent_data view.sent_control message.system result → IfSome result (IsPlaceInUse places event)
sent_in_use view places is event message text e None h = tt
sent_in_use view places is event message text e (Some place) h =
    let named_rule : ForEachPlaced places (λ log placed. IsNamesake log placed (Sent (frame_of message text)) place) = elim (or_cases (list_any (λ opened. (opened.header.system == message.system) && (opened.time == place)) view.sent_data) (list_any (λ opened. (opened.header.system == message.system) && (opened.time == place)) view.sent_control) h) [
      | inl d ↦ namesake SentData (Sent (frame_of message text)) message.system place view places is (λ time opening p. shared_SentData message text time place opening p) d
      | inr d ↦ namesake SentControl (Sent (frame_of message text)) message.system place view places is (λ time opening p. shared_SentControl message text time place opening p) d
    ] in
    subst (λ (v : Event). ForEachPlaced places (λ log placed. IsNamesake log placed v place)) (sym e) named_rule

pub sent_not_in_use : (view places : View) → view ≡ places → (event : Event) (message : Header) (text : List ℕ) → event ≡ Sent (frame_of message text) → (result : Option ℕ) → UsingNone view.sent_data view.sent_control message.system result → IfNone result (IsNotInUse places event)
sent_not_in_use view places is event message text e (Some place) h = tt
sent_not_in_use view places is event message text e None h = λ log placed has j unclosed shares.
    let parts = or_parts (uses message.system view.sent_data) (uses message.system view.sent_control) h in
    let one = subst (λ xs. uses message.system xs ≡ false) (pool_seen SentData view places log placed is has) parts.0 in
    let other = subst (λ xs. uses message.system xs ≡ false) (pool_seen SentControl view places log placed is has) parts.1 in
    let here = open-same log placed has.same j unclosed in
    let entry = entry_at placed j in
    let same = subst (λ (v : Event). shares_system (entry_at log j).event v ≡ true) e shares in
    let shared : shares_system entry.event (Sent (frame_of message text)) ≡ true = ap (λ (v : Event). shares_system v (Sent (frame_of message text))) (sym (same-at log placed has.same j)) ∙ same in
    sent_used message text entry.time entry.event here.opened shared
    (λ p. (let d : true ≡ false = sym (pool_from_open SentData placed (λ opened. opened.header.system == message.system) (j, here, p)) ∙ one in cc))
    (λ p. (let d : true ≡ false = sym (pool_from_open SentControl placed (λ opened. opened.header.system == message.system) (j, here, p)) ∙ other in cc))

pub taken_in_use : (view places : View) → view ≡ places → (event : Event) (message : Header) (text : List ℕ) → event ≡ Taken (frame_of message text) → (result : Option ℕ) → UsingAt view.taken_data view.taken_control message.system result → IfSome result (IsPlaceInUse places event)
taken_in_use view places is event message text e None h = tt
taken_in_use view places is event message text e (Some place) h =
    let named_rule : ForEachPlaced places (λ log placed. IsNamesake log placed (Taken (frame_of message text)) place) = elim (or_cases (list_any (λ opened. (opened.header.system == message.system) && (opened.time == place)) view.taken_data) (list_any (λ opened. (opened.header.system == message.system) && (opened.time == place)) view.taken_control) h) [
      | inl d ↦ namesake TakenData (Taken (frame_of message text)) message.system place view places is (λ time opening p. shared_TakenData message text time place opening p) d
      | inr d ↦ namesake TakenControl (Taken (frame_of message text)) message.system place view places is (λ time opening p. shared_TakenControl message text time place opening p) d
    ] in
    subst (λ (v : Event). ForEachPlaced places (λ log placed. IsNamesake log placed v place)) (sym e) named_rule

pub taken_not_in_use : (view places : View) → view ≡ places → (event : Event) (message : Header) (text : List ℕ) → event ≡ Taken (frame_of message text) → (result : Option ℕ) → UsingNone view.taken_data view.taken_control message.system result → IfNone result (IsNotInUse places event)
taken_not_in_use view places is event message text e (Some place) h = tt
taken_not_in_use view places is event message text e None h = λ log placed has j unclosed shares.
    let parts = or_parts (uses message.system view.taken_data) (uses message.system view.taken_control) h in
    let one = subst (λ xs. uses message.system xs ≡ false) (pool_seen TakenData view places log placed is has) parts.0 in
    let other = subst (λ xs. uses message.system xs ≡ false) (pool_seen TakenControl view places log placed is has) parts.1 in
    let here = open-same log placed has.same j unclosed in
    let entry = entry_at placed j in
    let same = subst (λ (v : Event). shares_system (entry_at log j).event v ≡ true) e shares in
    let shared : shares_system entry.event (Taken (frame_of message text)) ≡ true = ap (λ (v : Event). shares_system v (Taken (frame_of message text))) (sym (same-at log placed has.same j)) ∙ same in
    taken_used message text entry.time entry.event here.opened shared
    (λ p. (let d : true ≡ false = sym (pool_from_open TakenData placed (λ opened. opened.header.system == message.system) (j, here, p)) ∙ one in cc))
    (λ p. (let d : true ≡ false = sym (pool_from_open TakenControl placed (λ opened. opened.header.system == message.system) (j, here, p)) ∙ other in cc))
