-- The open transactions of a log with line numbers as times are those of the log.
use Rattle.std.proofs.Common.{◌≡◌, ℕ, zero, suc, ◌<◌, ◌==◌, Bool, true, false, not, cond, ◌&&◌, ◌||◌, List, [], ◌∷◌, ◌++◌, length, Option, Some, None, IsTrue, is_some, IfSome, IfNone, inl, inr, refl, sym, ap, subst, ◌∙◌}
use Rattle.std.specs.List.{list_any, find}
use Rattle.hsms_frame.specs.declared.header.Header.{Header}
use Rattle.hsms_machine.specs.declared.entry.Entry.{Entry}
use Rattle.hsms_machine.specs.declared.entry.Event.{Event}
use Rattle.hsms_machine.specs.declared.entry.Event.TheVariants.{Sent, Taken, T3}
use Rattle.hsms_machine.specs.declared.open_transactions.Transaction.{Transaction}
use Rattle.hsms_machine.specs.declared.view.View.{View}
use Rattle.hsms_machine.specs.Settings.{Parameters}
use Rattle.hsms_machine.specs.Entry.{entry_at, is_up}
use Rattle.hsms_machine.specs.Message.{is_data_request, is_control_request, is_request}
use Rattle.hsms_machine.specs.Transaction.{concludes, Pool, SentData, SentControl, TakenData, TakenControl, opens, closes, opened_by, opened_as_at, IsOpen, passes, SomeOpen}
use Rattle.hsms_machine.specs.declared.entry.Act.{Act}
use Rattle.hsms_machine.specs.declared.entry.Act.TheVariants.{Sent as ActSent, Taken as ActTaken}
use Rattle.hsms_machine.specs.EventParts.{event_of, entry_of, frame_of}
use Rattle.hsms_machine.specs.Session.{facts_before}
use Rattle.hsms_machine.specs.Rule.{Breaks, IsFirst, all_rules}
use Rattle.hsms_machine.specs.Run.{Broken}
use Rattle.hsms_machine.specs.ViewRules.{is_closed_by, view_after, pool_of}
use Rattle.hsms_machine.specs.View.{open_of, view_of}
use Rattle.hsms_machine.specs.InnerOpeningOrder.{uses}
use Rattle.hsms_machine.specs.OpeningLines.{SameEvents, at_place, HasPlaces, ClosesOneOpenedAt, ClosesNothing, IsClosing, ClosesNone, ForEachPlaced}
use Rattle.hsms_machine.specs.InnerOpeningLines.{is_fresh}
use Rattle.hsms_machine.proofs.SameFacts.{never_from}
use Rattle.hsms_machine.proofs.Parts.{unused}
use Rattle.hsms_machine.proofs.Push.{Agrees, agrees_by, view-push}
use Rattle.hsms_machine.proofs.Connection.{on-before, on-no_up, on-where}
use Rattle.std.proofs.lemmas.Bool.{and_parts, or_cases, eqb-true}
use Rattle.hsms_machine.proofs.Mapped.{or_parts, find-some, found_any}
use Rattle.hsms_machine.proofs.ViewsOfRuns.{pool_from_open, open_from_pool}

pub same-at : (log placed : List Entry) → SameEvents log placed → (j : ℕ) → (entry_at log j).event ≡ (entry_at placed j).event
same-at [] [] s j = refl
same-at [] (y ∷ ys) s j = absurd s
same-at (x ∷ xs) [] s j = absurd s
same-at (x ∷ xs) (y ∷ ys) s zero = s.0
same-at (x ∷ xs) (y ∷ ys) s (suc j) = same-at xs ys s.1 j

pub same-sym : (log placed : List Entry) → SameEvents log placed → SameEvents placed log
same-sym [] [] s = tt
same-sym [] (y ∷ ys) s = absurd s
same-sym (x ∷ xs) [] s = absurd s
same-sym (x ∷ xs) (y ∷ ys) s = (sym s.0, same-sym xs ys s.1)

pub same-length : (log placed : List Entry) → SameEvents log placed → length log ≡ length placed
same-length [] [] s = refl
same-length [] (y ∷ ys) s = absurd s
same-length (x ∷ xs) [] s = absurd s
same-length (x ∷ xs) (y ∷ ys) s = ap suc (same-length xs ys s.1)

pub same-push : (log placed : List Entry) (place : ℕ) (entry : Entry) → SameEvents log placed → SameEvents (log ++ entry ∷ []) (placed ++ at_place place entry ∷ [])
same-push [] [] place entry s = (refl, tt)
same-push [] (y ∷ ys) place entry s = absurd s
same-push (x ∷ xs) [] place entry s = absurd s
same-push (x ∷ xs) (y ∷ ys) place entry s = (s.0, same-push xs ys place entry s.1)

-- An open transaction stays open with other times.
pub open-same : (log placed : List Entry) → SameEvents log placed → (j : ℕ) → IsOpen log j (length log) → IsOpen placed j (length placed)
open-same log placed s j h = record {
  opened = subst (λ (event : Event). opens event ≡ true) (same-at log placed s j) h.opened;
  earlier = on-where placed j (length placed) (let lt : j < length log = on-before log j (length log) h.earlier in subst (λ n. j < n) same lt) (λ m after before.
      ap is_up (sym (same-at log placed s m)) ∙ on-no_up log j (length log) h.earlier m after (subst (λ n. m < n) (sym same) before));
  not_closed = λ k lt gt c.
      h.not_closed k lt (subst (λ n. k < n) (sym same) gt)
      (ap (λ event. closes event (entry_at log k).event) (same-at log placed s j)
      ∙ ap (λ event. closes (entry_at placed j).event event) (same-at log placed s k) ∙ c);
} where
  same : length log ≡ length placed
  same = same-length log placed s

-- A test of the header does not depend on the time.
header-opened_by : (test : Header → Bool) (kind : Header → Bool) (time other : ℕ) (header : Header) → passes (λ opened. test opened.header) (opened_by kind time header) ≡ passes (λ opened. test opened.header) (opened_by kind other header)
header-opened_by test kind time other header = elim (kind header) as (λ b. passes (λ opened. test opened.header) (cond b (Some (record { time = time; header = header })) None) ≡ passes (λ opened. test opened.header) (cond b (Some (record { time = other; header = header })) None)) [ true ↦ refl | false ↦ refl ]

header-opened : (test : Header → Bool) (pool : Pool) (time other : ℕ) (event : Event) → passes (λ opened. test opened.header) (opened_as_at pool time event) ≡ passes (λ opened. test opened.header) (opened_as_at pool other event)
header-opened test SentData time other (Sent frame) = header-opened_by test is_data_request time other frame.header
header-opened test SentControl time other (Sent frame) = header-opened_by test is_control_request time other frame.header
header-opened test TakenData time other (Taken frame) = header-opened_by test is_data_request time other frame.header
header-opened test TakenControl time other (Taken frame) = header-opened_by test is_control_request time other frame.header
header-opened test pool time other event = refl

some-same : (test : Header → Bool) (pool : Pool) (log placed : List Entry) → SameEvents log placed → SomeOpen log (length log) pool (λ opened. test opened.header) → SomeOpen placed (length placed) pool (λ opened. test opened.header)
some-same test pool log placed s h = (
  h.0,
  open-same log placed s h.0 h.1,
  header-opened test pool (entry_at placed h.0).time (entry_at log h.0).time (entry_at placed h.0).event
      ∙ ap (λ event. passes (λ opened. test opened.header) (opened_as_at pool (entry_at log h.0).time event)) (sym (same-at log placed s h.0)) ∙ h.2,
)

both : (a b : Bool) → (a ≡ true → b ≡ true) → (b ≡ true → a ≡ true) → a ≡ b
both true b f g = sym (f refl)
both false true f g = g refl
both false false f g = refl

-- So a pool of the log with line numbers has the same system bytes.
pub any-same : (test : Header → Bool) (pool : Pool) (log placed : List Entry) → SameEvents log placed → list_any (λ opened. test opened.header) (open_of pool log) ≡ list_any (λ opened. test opened.header) (open_of pool placed)
any-same test pool log placed s =
    both (list_any (λ opened. test opened.header) (open_of pool log)) (list_any (λ opened. test opened.header) (open_of pool placed))
    (λ e. pool_from_open pool placed (λ opened. test opened.header) (some-same test pool log placed s (open_from_pool pool log (λ opened. test opened.header) e)))
    (λ e. pool_from_open pool log (λ opened. test opened.header) (some-same test pool placed log (same-sym log placed s) (open_from_pool pool placed (λ opened. test opened.header) e)))

pub uses-same : (system : ℕ) (pool : Pool) (log placed : List Entry) → SameEvents log placed → uses system (open_of pool log) ≡ uses system (open_of pool placed)
uses-same system pool log placed s = any-same (λ header. header.system == system) pool log placed s

-- ---- what an event closes

-- An opened transaction has the time of its entry.
abbrev pub TimeIs : ℕ → Option Transaction → Type 0
TimeIs time None = Unit {0}
TimeIs time (Some opened) = opened.time ≡ time

time-opened_by : (kind : Header → Bool) (time : ℕ) (header : Header) → TimeIs time (opened_by kind time header)
time-opened_by kind time header = elim (kind header) as (λ b. TimeIs time (cond b (Some (record { time = time; header = header })) None)) [ true ↦ refl | false ↦ tt ]

pub time-opened : (pool : Pool) (time : ℕ) (event : Event) → TimeIs time (opened_as_at pool time event)
time-opened SentData time (Sent frame) = time-opened_by is_data_request time frame.header
time-opened SentControl time (Sent frame) = time-opened_by is_control_request time frame.header
time-opened TakenData time (Taken frame) = time-opened_by is_data_request time frame.header
time-opened TakenControl time (Taken frame) = time-opened_by is_control_request time frame.header
time-opened pool time event = tt

closes_parts : (pool : Pool) (opening event : Event) (time place : ℕ) (o : Option Transaction) → Agrees pool opening event o → TimeIs time o → passes (λ opened. is_closed_by pool event opened && (opened.time == place)) o ≡ true → (closes opening event ≡ true) × (time ≡ place)
closes_parts pool opening event time place None agrees is e = absurd (let d : false ≡ true = e in cc)
closes_parts pool opening event time place (Some opened) agrees is e =
    let parts = and_parts (is_closed_by pool event opened) (opened.time == place) e in
    (agrees ∙ parts.0, sym is ∙ eqb-true opened.time place parts.1)

pub closing : (pool : Pool) (log placed : List Entry) (event : Event) (place : ℕ) → SameEvents log placed → list_any (λ opened. is_closed_by pool event opened && (opened.time == place)) (open_of pool placed) ≡ true → IsClosing log placed event place
closing pool log placed event place s e =
    let some = open_from_pool pool placed (λ opened. is_closed_by pool event opened && (opened.time == place)) e in
    let entry = entry_at placed some.0 in
    let parts = closes_parts pool entry.event event entry.time place (opened_as_at pool entry.time entry.event) (agrees_by pool entry.time entry.event event) (time-opened pool entry.time entry.event) some.2 in (
      some.0,
      open-same placed log (same-sym log placed s) some.0 some.1,
      ap (λ (opening : Event). closes opening event) (same-at log placed s some.0) ∙ parts.0,
      parts.1,
    )

-- A closed transaction is in one of the pools.
agreed : (pool : Pool) (opening event : Event) (o : Option Transaction) → Agrees pool opening event o → is_some o ≡ true → closes opening event ≡ true → passes (is_closed_by pool event) o ≡ true
agreed pool opening event None agrees some c = absurd (let d : false ≡ true = some in cc)
agreed pool opening event (Some opened) agrees some c = sym agrees ∙ c

some_cond : (b : Bool) (t : Transaction) → is_some (cond b (Some t) None) ≡ b
some_cond true t = refl
some_cond false t = refl

some-opened_by : (kind : Header → Bool) (time : ℕ) (header : Header) → is_some (opened_by kind time header) ≡ kind header
some-opened_by kind time header = some_cond (kind header) (record { time = time; header = header })

closed_in : (time : ℕ) (opening event : Event) → opens opening ≡ true → closes opening event ≡ true → (pool : Pool) × (passes (is_closed_by pool event) (opened_as_at pool time opening) ≡ true)
closed_in time (Sent frame) event o c = elim (or_cases (is_data_request frame.header) (is_control_request frame.header) o) [
  | inl d ↦ (SentData, agreed SentData (Sent frame) event (opened_by is_data_request time frame.header) (agrees_by SentData time (Sent frame) event) (some-opened_by is_data_request time frame.header ∙ d) c)
  | inr d ↦ (SentControl, agreed SentControl (Sent frame) event (opened_by is_control_request time frame.header) (agrees_by SentControl time (Sent frame) event) (some-opened_by is_control_request time frame.header ∙ d) c)
]
closed_in time (Taken frame) event o c = elim (or_cases (is_data_request frame.header) (is_control_request frame.header) o) [
  | inl d ↦ (TakenData, agreed TakenData (Taken frame) event (opened_by is_data_request time frame.header) (agrees_by TakenData time (Taken frame) event) (some-opened_by is_data_request time frame.header ∙ d) c)
  | inr d ↦ (TakenControl, agreed TakenControl (Taken frame) event (opened_by is_control_request time frame.header) (agrees_by TakenControl time (Taken frame) event) (some-opened_by is_control_request time frame.header ∙ d) c)
]
closed_in time event later o c = absurd (let d : false ≡ true = o in cc)

pub closing_none : (log placed : List Entry) (event : Event) → SameEvents log placed → ((pool : Pool) → list_any (is_closed_by pool event) (open_of pool placed) ≡ false) → ClosesNone log event
closing_none log placed event s none = λ j unclosed c.
    let here = open-same log placed s j unclosed in
    let entry = entry_at placed j in
    let found = closed_in entry.time entry.event event here.opened (ap (λ (opening : Event). closes opening event) (sym (same-at log placed s j)) ∙ c) in
    let any = pool_from_open found.0 placed (is_closed_by found.0 event) (j, here, found.1) in
    let d : true ≡ false = sym any ∙ none found.0 in
    cc

pub none_of : (xs : List Transaction) → list_any (λ opened. false) xs ≡ false
none_of [] = refl
none_of (x ∷ xs) = none_of xs

-- ---- a valid request is fresh in the log with line numbers

fresh_bools : (request one other : Bool) → (request ≡ true → (one ≡ false) × (other ≡ false)) → (not request || (not one && not other)) ≡ true
fresh_bools false one other h = refl
fresh_bools true one other h =
    let p = h refl in
    rw (p.0, p.1) refl

fresh_in : (log placed : List Entry) → SameEvents log placed → (pool : Pool) (system : ℕ) → (SomeOpen log (length log) pool (λ opened. opened.header.system == system) → ⊥) → uses system (open_of pool placed) ≡ false
fresh_in log placed s pool system none =
    sym (uses-same system pool log placed s)
    ∙ unused (uses system (open_of pool log)) (λ e. none (open_from_pool pool log (λ opened. opened.header.system == system) e))

fresh_at_act : (settings : Parameters) (log placed : List Entry) (time : ℕ) (act : Act) (text : List ℕ) → SameEvents log placed → IsFirst (Breaks (facts_before log (length log)) settings (entry_of time act text)) all_rules None → is_fresh (view_of settings placed) act ≡ true
fresh_at_act settings log placed time (ActSent header) text s h =
    let never = never_from (Breaks (facts_before log (length log)) settings (entry_of time (ActSent header) text)) all_rules h in
    let fresh = never.1.1.1.1.1.1.1.1.1.1.1.1.1.1.1.0 in
    fresh_bools (is_request header) (uses header.system (open_of SentData placed)) (uses header.system (open_of SentControl placed)) (λ r. (fresh_in log placed s SentData header.system (λ e. fresh (r, inl e)), fresh_in log placed s SentControl header.system (λ e. fresh (r, inr e))))
fresh_at_act settings log placed time (ActTaken header) text s h =
    let never = never_from (Breaks (facts_before log (length log)) settings (entry_of time (ActTaken header) text)) all_rules h in
    let fresh = never.1.1.1.1.1.1.1.1.1.1.1.1.1.1.1.0 in
    fresh_bools (is_request header) (uses header.system (open_of TakenData placed)) (uses header.system (open_of TakenControl placed)) (λ r. (fresh_in log placed s TakenData header.system (λ e. fresh (r, inl e)), fresh_in log placed s TakenControl header.system (λ e. fresh (r, inr e))))
fresh_at_act settings log placed time act text s h = refl

-- Freshness does not depend on the settings.
fresh-settings : (one other : Parameters) (placed : List Entry) (act : Act) → is_fresh (view_of one placed) act ≡ is_fresh (view_of other placed) act
fresh-settings one other placed (ActSent header) = refl
fresh-settings one other placed (ActTaken header) = refl
fresh-settings one other placed act = refl

pub fresh_placed : (settings : Parameters) (log placed : List Entry) (places : View) (time : ℕ) (act : Act) (text : List ℕ) → HasPlaces log placed places → Broken settings log (entry_of time act text) None → is_fresh places act ≡ true
unfolding Broken
fresh_placed settings log placed places time act text has h =
    subst (λ (w : View). is_fresh w act ≡ true) has.seen
    (fresh-settings places.settings settings placed act ∙ fresh_at_act settings log placed time act text has.same h)

-- ---- one more entry

pub places-push : (log placed : List Entry) (places new : View) (place : ℕ) (entry : Entry) → HasPlaces log placed places → new ≡ view_after places (at_place place entry) → HasPlaces (log ++ entry ∷ []) (placed ++ at_place place entry ∷ []) new
places-push log placed places new place entry has e = record {
  same = same-push log placed place entry has.same;
  seen =
      let settings : new.settings ≡ places.settings = ap (λ (w : View). w.settings) e in
      ap (λ (p : Parameters). view_of p (placed ++ at_place place entry ∷ [])) settings
      ∙ (view-push places.settings placed (at_place place entry) ∙ ap (λ (w : View). view_after w (at_place place entry)) has.seen ∙ sym e);
}

pub no_places : (settings : Parameters) (view : View) → view ≡ view_of settings [] → HasPlaces [] [] view
no_places settings view e = record {
  same = tt;
  seen = ap (λ (s : Parameters). view_of s []) (ap (λ (w : View). w.settings) e) ∙ sym e;
}

-- ---- results from the line numbers

pool_is : (settings : Parameters) (log : List Entry) (pool : Pool) → pool_of (view_of settings log) pool ≡ open_of pool log
pool_is settings log SentData = refl
pool_is settings log SentControl = refl
pool_is settings log TakenData = refl
pool_is settings log TakenControl = refl

pub pool_seen : (pool : Pool) (view places : View) (log placed : List Entry) → view ≡ places → HasPlaces log placed places → pool_of view pool ≡ open_of pool placed
pool_seen pool view places log placed is has =
    ap (λ (w : View). pool_of w pool) (is ∙ sym has.seen) ∙ pool_is places.settings placed pool

one_found : (pool : Pool) (event : Event) (view places : View) → view ≡ places → (place : ℕ) → list_any (λ opened. is_closed_by pool event opened && (opened.time == place)) (pool_of view pool) ≡ true → ForEachPlaced places (λ log placed. IsClosing log placed event place)
one_found pool event view places is place e = λ log placed has.
    closing pool log placed event place has.same (subst (λ xs. list_any (λ opened. is_closed_by pool event opened && (opened.time == place)) xs ≡ true) (pool_seen pool view places log placed is has) e)

abbrev ConcludedAt : List Transaction → List Transaction → Header → Option ℕ → Type 0
ConcludedAt one other message result =
    IfSome result (λ place. IsTrue (list_any (λ opened. concludes opened.header message && (opened.time == place)) one || list_any (λ opened. concludes opened.header message && (opened.time == place)) other))

abbrev ConcludesNone : List Transaction → List Transaction → Header → Option ℕ → Type 0
ConcludesNone one other message result =
    IfNone result ((list_any (λ opened. concludes opened.header message) one || list_any (λ opened. concludes opened.header message) other) ≡ false)

-- The event of an entry whose parts are known.
pub parted : (entry : Entry) (time : ℕ) (act matched : Act) (text : List ℕ) → entry_of time act text ≡ entry → act ≡ matched → entry.event ≡ event_of matched text
parted entry time act matched text e is = sym (ap (λ (x : Entry). x.event) e) ∙ ap (λ (a : Act). event_of a text) is

pub sent_found : (view places : View) → view ≡ places → (event : Event) (message : Header) (text : List ℕ) → event ≡ Sent (frame_of message text) → (result : Option ℕ) → ConcludedAt view.taken_data view.taken_control message result → IfSome result (ClosesOneOpenedAt places event)
sent_found view places is event message text e None h = tt
sent_found view places is event message text e (Some place) h =
    let named_rule : ForEachPlaced places (λ log placed. IsClosing log placed (Sent (frame_of message text)) place) = elim (or_cases (list_any (λ opened. concludes opened.header message && (opened.time == place)) view.taken_data) (list_any (λ opened. concludes opened.header message && (opened.time == place)) view.taken_control) h) [
      | inl d ↦ one_found TakenData (Sent (frame_of message text)) view places is place d
      | inr d ↦ one_found TakenControl (Sent (frame_of message text)) view places is place d
    ] in
    subst (λ (v : Event). ForEachPlaced places (λ log placed. IsClosing log placed v place)) (sym e) named_rule

pub taken_found : (view places : View) → view ≡ places → (event : Event) (message : Header) (text : List ℕ) → event ≡ Taken (frame_of message text) → (result : Option ℕ) → ConcludedAt view.sent_data view.sent_control message result → IfSome result (ClosesOneOpenedAt places event)
taken_found view places is event message text e None h = tt
taken_found view places is event message text e (Some place) h =
    let named_rule : ForEachPlaced places (λ log placed. IsClosing log placed (Taken (frame_of message text)) place) = elim (or_cases (list_any (λ opened. concludes opened.header message && (opened.time == place)) view.sent_data) (list_any (λ opened. concludes opened.header message && (opened.time == place)) view.sent_control) h) [
      | inl d ↦ one_found SentData (Taken (frame_of message text)) view places is place d
      | inr d ↦ one_found SentControl (Taken (frame_of message text)) view places is place d
    ] in
    subst (λ (v : Event). ForEachPlaced places (λ log placed. IsClosing log placed v place)) (sym e) named_rule

sent_pools : (message : Header) (text : List ℕ) (placed : List Entry) → list_any (λ opened. concludes opened.header message) (open_of TakenData placed) ≡ false → list_any (λ opened. concludes opened.header message) (open_of TakenControl placed) ≡ false → (pool : Pool) → list_any (is_closed_by pool (Sent (frame_of message text))) (open_of pool placed) ≡ false
sent_pools message text placed one other SentData = none_of (open_of SentData placed)
sent_pools message text placed one other SentControl = none_of (open_of SentControl placed)
sent_pools message text placed one other TakenData = one
sent_pools message text placed one other TakenControl = other

taken_pools : (message : Header) (text : List ℕ) (placed : List Entry) → list_any (λ opened. concludes opened.header message) (open_of SentData placed) ≡ false → list_any (λ opened. concludes opened.header message) (open_of SentControl placed) ≡ false → (pool : Pool) → list_any (is_closed_by pool (Taken (frame_of message text))) (open_of pool placed) ≡ false
taken_pools message text placed one other SentData = one
taken_pools message text placed one other SentControl = other
taken_pools message text placed one other TakenData = none_of (open_of TakenData placed)
taken_pools message text placed one other TakenControl = none_of (open_of TakenControl placed)

t3_pools : (system : ℕ) (placed : List Entry) → uses system (open_of SentData placed) ≡ false → (pool : Pool) → list_any (is_closed_by pool (T3 system)) (open_of pool placed) ≡ false
t3_pools system placed one SentData = one
t3_pools system placed one SentControl = none_of (open_of SentControl placed)
t3_pools system placed one TakenData = none_of (open_of TakenData placed)
t3_pools system placed one TakenControl = none_of (open_of TakenControl placed)

none_seen : (test : Transaction → Bool) (pool : Pool) (view places : View) (log placed : List Entry) → view ≡ places → HasPlaces log placed places → list_any test (pool_of view pool) ≡ false → list_any test (open_of pool placed) ≡ false
none_seen test pool view places log placed is has e = subst (λ xs. list_any test xs ≡ false) (pool_seen pool view places log placed is has) e

pub sent_none : (view places : View) → view ≡ places → (event : Event) (message : Header) (text : List ℕ) → event ≡ Sent (frame_of message text) → (result : Option ℕ) → ConcludesNone view.taken_data view.taken_control message result → IfNone result (ClosesNothing places event)
sent_none view places is event message text e (Some place) h = tt
sent_none view places is event message text e None h = λ log placed has.
    let test = λ (opened : Transaction). concludes opened.header message in
    let parts = or_parts (list_any test view.taken_data) (list_any test view.taken_control) h in
    let none : ClosesNone log (Sent (frame_of message text)) =
    closing_none log placed (Sent (frame_of message text)) has.same (sent_pools message text placed (none_seen test TakenData view places log placed is has parts.0) (none_seen test TakenControl view places log placed is has parts.1)) in
    subst (λ (v : Event). ClosesNone log v) (sym e) none

pub taken_none : (view places : View) → view ≡ places → (event : Event) (message : Header) (text : List ℕ) → event ≡ Taken (frame_of message text) → (result : Option ℕ) → ConcludesNone view.sent_data view.sent_control message result → IfNone result (ClosesNothing places event)
taken_none view places is event message text e (Some place) h = tt
taken_none view places is event message text e None h = λ log placed has.
    let test = λ (opened : Transaction). concludes opened.header message in
    let parts = or_parts (list_any test view.sent_data) (list_any test view.sent_control) h in
    let none : ClosesNone log (Taken (frame_of message text)) =
    closing_none log placed (Taken (frame_of message text)) has.same (taken_pools message text placed (none_seen test SentData view places log placed is has parts.0) (none_seen test SentControl view places log placed is has parts.1)) in
    subst (λ (v : Event). ClosesNone log v) (sym e) none

pub t3_found : (view places : View) → view ≡ places → (event : Event) (system : ℕ) → event ≡ T3 system → (opened : Transaction) → find (λ other. other.header.system == system) view.sent_data ≡ Some opened → ForEachPlaced places (λ log placed. IsClosing log placed event opened.time)
t3_found view places is event system e opened found =
    let named_rule = one_found SentData (T3 system) view places is opened.time (found_any (λ other. other.header.system == system) opened view.sent_data found) in
    subst (λ (v : Event). ForEachPlaced places (λ log placed. IsClosing log placed v opened.time)) (sym e) named_rule

pub t3_none : (view places : View) → view ≡ places → (event : Event) (system : ℕ) → event ≡ T3 system → find (λ other. other.header.system == system) view.sent_data ≡ None → ForEachPlaced places (λ log placed. ClosesNone log event)
t3_none view places is event system e found = λ log placed has.
    let test = λ (other : Transaction). other.header.system == system in
    let unfound : uses system view.sent_data ≡ false = sym (find-some test view.sent_data) ∙ ap is_some found in
    let none : ClosesNone log (T3 system) = closing_none log placed (T3 system) has.same (t3_pools system placed (none_seen test SentData view places log placed is has unfound)) in
    subst (λ (v : Event). ClosesNone log v) (sym e) none
