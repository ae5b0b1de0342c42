-- How the view of a log changes with one more entry.
use Rattle.std.proofs.Common.{◌≡◌, ℕ, ◌-◌, Bool, true, false, not, ◌&&◌, ◌||◌, cond, List, [], ◌∷◌, ◌++◌, length, Option, Some, None, refl, sym, ap, ◌∙◌, filter, option_to_list, arith}
use Rattle.std.specs.List.{list_any, filter_map, cons_option}
use Rattle.std.proofs.lemmas.List.{length_push, get_or_push}
use Rattle.std.proofs.lemmas.List.Elements.{filter_map-append}
use Rattle.std.proofs.lemmas.List.Folds.{list_any-append}
use Rattle.std.proofs.lemmas.Grind.{fold-append}
use Rattle.hsms_frame.specs.Frame.{Frame}
use Rattle.hsms_machine.specs.declared.entry.Entry.{Entry}
use Rattle.hsms_machine.specs.declared.entry.Event.{Event}
use Rattle.hsms_machine.specs.declared.entry.Event.TheVariants.{Up, Sent, Taken, T3}
use Rattle.hsms_machine.specs.declared.open_transactions.Transaction.{Transaction}
use Rattle.hsms_machine.specs.declared.phase.Phase.{Phase}
use Rattle.hsms_machine.specs.declared.phase.Phase.TheVariants.{NotSelected}
use Rattle.hsms_machine.specs.Settings.{Parameters}
use Rattle.hsms_machine.specs.Entry.{entry_at, is_up, is_down, connection_of}
use Rattle.hsms_machine.specs.Message.{is_data_request, is_control_request}
use Rattle.hsms_machine.specs.Transaction.{Pool, SentData, SentControl, TakenData, TakenControl, opens, closes, opened_as, opened_as_at}
use Rattle.hsms_machine.specs.Session.{selects, ends_session}
use Rattle.hsms_machine.specs.View.{open_entries, open_of, phase_by, phase_in, phase_of, up_time_of, view_of}
use Rattle.hsms_machine.specs.ViewRules.{phase_after, is_gone, is_over, is_selected, view_after, is_closed_by, pool_after}
use Rattle.hsms_machine.proofs.Connection.{connection-push}
use Rattle.hsms_machine.proofs.Steps.{control_not_data}

phase_by-after : (D O S d o s : Bool) → phase_by (D || (d || false)) (O || (o || false)) (S || (s || false)) ≡ phase_by (is_gone (phase_by D O S) || d) (is_over (phase_by D O S) || o) (is_selected (phase_by D O S) || s)
phase_by-after true O S d o s = refl
phase_by-after false true S true o s = refl
phase_by-after false true S false o s = refl
phase_by-after false false true true o s = refl
phase_by-after false false true false true s = refl
phase_by-after false false true false false s = refl
phase_by-after false false false true o s = refl
phase_by-after false false false false true s = refl
phase_by-after false false false false false true = refl
phase_by-after false false false false false false = refl

phase_by-first : (d o s : Bool) → phase_by (d || false) (o || false) (s || false) ≡ phase_by d o s
phase_by-first true o s = refl
phase_by-first false true s = refl
phase_by-first false false true = refl
phase_by-first false false false = refl

-- The phase after an entry of the same connection.
abbrev phase_kept : Phase → Event → Phase
phase_kept phase event =
    phase_by (is_gone phase || is_down event) (is_over phase || ends_session event) (is_selected phase || selects event)

phase_in-push : (entries : List Entry) (entry : Entry) → phase_in (entries ++ entry ∷ []) ≡ phase_kept (phase_in entries) entry.event
phase_in-push [] entry = phase_by-first (is_down entry.event) (ends_session entry.event) (selects entry.event)
phase_in-push (x ∷ xs) entry =
    let down = list_any-append (λ (other : Entry). is_down other.event) (x ∷ xs) (entry ∷ []) in
    let over = list_any-append (λ (other : Entry). ends_session other.event) (x ∷ xs) (entry ∷ []) in
    let selected = list_any-append (λ (other : Entry). selects other.event) (x ∷ xs) (entry ∷ []) in
    rw (down, over, selected)
    (phase_by-after (list_any (λ other. is_down other.event) (x ∷ xs)) (list_any (λ other. ends_session other.event) (x ∷ xs)) (list_any (λ other. selects other.event) (x ∷ xs)) (is_down entry.event) (ends_session entry.event) (selects entry.event))

up_phase : (time : ℕ) (event : Event) → is_up event ≡ true → phase_in (record { time = time; event = event } ∷ []) ≡ NotSelected
up_phase time Up u = refl
up_phase time event u = absurd (let d : false ≡ true = u in cc)

phase-case : (connection : List Entry) (entry : Entry) (b : Bool) → is_up entry.event ≡ b → phase_in (cond b (entry ∷ []) (connection ++ entry ∷ [])) ≡ cond b NotSelected (phase_kept (phase_in connection) entry.event)
phase-case connection entry true u = up_phase entry.time entry.event u
phase-case connection entry false u = phase_in-push connection entry

pub phase-push : (log : List Entry) (entry : Entry) → phase_of (log ++ entry ∷ []) ≡ phase_after (phase_of log) entry.event
phase-push log entry = ap phase_in (connection-push log entry) ∙ phase-case (connection_of log) entry (is_up entry.event) refl

pub up_time-push : (log : List Entry) (entry : Entry) → up_time_of (log ++ entry ∷ []) ≡ cond (is_up entry.event) entry.time (up_time_of log)
up_time-push log entry = fold-append (λ time (other : Entry). cond (is_up other.event) other.time time) 0 log (entry ∷ [])

pub last-push : (log : List Entry) (entry : Entry) → entry_at (log ++ entry ∷ []) (length (log ++ entry ∷ []) - 1) ≡ entry
last-push log entry =
    let e : length log ≡ length (log ++ entry ∷ []) - 1 = omega (arith, length_push log entry) in
    get_or_push log entry (record { time = 0; event = Up }) (length (log ++ entry ∷ []) - 1) e

-- The case of one entry in the next lemma.
push-case : (test : Entry → Bool) (x : Entry) (A O T : List Entry) (b1 b2 b3 : Bool) → test x ≡ not b3 → A ≡ filter test O ++ T → cond (b1 && not (b2 || (b3 || false))) (x ∷ A) A ≡ filter test (cond (b1 && not b2) (x ∷ O) O) ++ T
push-case test x A O T true true true e h = h
push-case test x A O T true true false e h = h
push-case test x A O T true false true e h = rw e h
push-case test x A O T true false false e h = rw e (ap (λ l. x ∷ l) h)
push-case test x A O T false b2 b3 e h = h

push-first : (b : Bool) (x : Entry) → cond (b && true) (x ∷ []) [] ≡ cond b (x ∷ []) []
push-first true x = refl
push-first false x = refl

pub open_entries-push : (log : List Entry) (entry : Entry) → open_entries (log ++ entry ∷ []) ≡ filter (λ other. not (closes other.event entry.event)) (open_entries log) ++ cond (opens entry.event) (entry ∷ []) []
open_entries-push [] entry = push-first (opens entry.event) entry
open_entries-push (x ∷ xs) entry =
    let later = list_any-append (λ (other : Entry). closes x.event other.event) xs (entry ∷ []) in
    rw later
    (push-case (λ other. not (closes other.event entry.event)) x (open_entries (xs ++ entry ∷ [])) (open_entries xs) (cond (opens entry.event) (entry ∷ []) []) (opens x.event) (list_any (λ other. closes x.event other.event) xs) (closes x.event entry.event) refl (open_entries-push xs entry))

-- The transaction that an entry opened in a pool is closed as the pool states.
abbrev pub Agrees : Pool → Event → Event → Option Transaction → Type 0
Agrees pool opening event None = Unit {0}
Agrees pool opening event (Some opened) = closes opening event ≡ is_closed_by pool event opened

picks : (b : Bool) (P : Option Transaction → Type 0) (t : Transaction) → (b ≡ true → P (Some t)) → P None → P (cond b (Some t) None)
picks true P t some none = some refl
picks false P t some none = none

sent_data-closes : (time : ℕ) (h : Frame) (event : Event) → is_data_request h.header ≡ true → closes (Sent h) event ≡ is_closed_by SentData event (record { time = time; header = h.header })
sent_data-closes time h (T3 n) b = rw b refl
sent_data-closes time h event b = refl

sent_control-closes : (time : ℕ) (h : Frame) (event : Event) → is_control_request h.header ≡ true → closes (Sent h) event ≡ is_closed_by SentControl event (record { time = time; header = h.header })
sent_control-closes time h (T3 n) b = rw (control_not_data h.header b) refl
sent_control-closes time h event b = refl

taken_data-closes : (time : ℕ) (h : Frame) (event : Event) → is_data_request h.header ≡ true → closes (Taken h) event ≡ is_closed_by TakenData event (record { time = time; header = h.header })
taken_data-closes time h (Sent f) b = refl
taken_data-closes time h event b = refl

taken_control-closes : (time : ℕ) (h : Frame) (event : Event) → is_control_request h.header ≡ true → closes (Taken h) event ≡ is_closed_by TakenControl event (record { time = time; header = h.header })
taken_control-closes time h (Sent f) b = refl
taken_control-closes time h event b = refl

pub agrees_by : (pool : Pool) (time : ℕ) (opening event : Event) → Agrees pool opening event (opened_as_at pool time opening)
agrees_by SentData time (Sent h) event = picks (is_data_request h.header) (Agrees SentData (Sent h) event) (record { time = time; header = h.header }) (sent_data-closes time h event) tt
agrees_by SentControl time (Sent h) event = picks (is_control_request h.header) (Agrees SentControl (Sent h) event) (record { time = time; header = h.header }) (sent_control-closes time h event) tt
agrees_by TakenData time (Taken h) event = picks (is_data_request h.header) (Agrees TakenData (Taken h) event) (record { time = time; header = h.header }) (taken_data-closes time h event) tt
agrees_by TakenControl time (Taken h) event = picks (is_control_request h.header) (Agrees TakenControl (Taken h) event) (record { time = time; header = h.header }) (taken_control-closes time h event) tt
agrees_by pool time opening event = tt

-- Filtering the entries filters what they opened.
kept-case : (pool : Pool) (opening event : Event) (x : Entry) (o : Option Transaction) (A : List Entry) (B : List Transaction) (test : Bool) → test ≡ not (closes opening event) → Agrees pool opening event o → o ≡ opened_as pool x → filter_map (opened_as pool) A ≡ B → filter_map (opened_as pool) (cond test (x ∷ A) A) ≡ filter (λ transaction. not (is_closed_by pool event transaction)) (option_to_list o) ++ B
kept-case pool opening event x None A B true t agrees is h = rw (sym is) h
kept-case pool opening event x None A B false t agrees is h = h
kept-case pool opening event x (Some opened) A B true t agrees is h =
    let e : not (is_closed_by pool event opened) ≡ true = ap not (sym agrees) ∙ sym t in
    rw (sym is, e) (ap (λ l. opened ∷ l) h)
kept-case pool opening event x (Some opened) A B false t agrees is h =
    let e : not (is_closed_by pool event opened) ≡ false = ap not (sym agrees) ∙ sym t in
    rw e h

cons-append : (test : Transaction → Bool) (o : Option Transaction) (xs : List Transaction) → filter test (cons_option o xs) ≡ filter test (option_to_list o) ++ filter test xs
cons-append test None xs = refl
cons-append test (Some x) xs = elim (test x) as (λ b. cond b (x ∷ filter test xs) (filter test xs) ≡ cond b (x ∷ []) [] ++ filter test xs) [ true ↦ refl | false ↦ refl ]

pub filter_map-kept : (pool : Pool) (event : Event) (xs : List Entry) → filter_map (opened_as pool) (filter (λ other. not (closes other.event event)) xs) ≡ filter (λ transaction. not (is_closed_by pool event transaction)) (filter_map (opened_as pool) xs)
filter_map-kept pool event [] = refl
filter_map-kept pool event (x ∷ xs) =
    kept-case pool x.event event x (opened_as pool x) (filter (λ other. not (closes other.event event)) xs) (filter (λ transaction. not (is_closed_by pool event transaction)) (filter_map (opened_as pool) xs)) (not (closes x.event event)) refl (agrees_by pool x.time x.event event) refl (filter_map-kept pool event xs)
    ∙ sym (cons-append (λ transaction. not (is_closed_by pool event transaction)) (opened_as pool x) (filter_map (opened_as pool) xs))

-- An entry that opens nothing opens nothing in any pool.
opens_none_by : (a b : Bool) (t : Transaction) (x : Entry) (xs : List Entry) → (a || b ≡ false → cond a (Some t) None ≡ None) × (a || b ≡ false → cond b (Some t) None ≡ None)
opens_none_by true b t x xs = ((λ e. absurd (let d : true ≡ false = e in cc)), (λ e. absurd (let d : true ≡ false = e in cc)))
opens_none_by false true t x xs = ((λ e. absurd (let d : true ≡ false = e in cc)), (λ e. absurd (let d : true ≡ false = e in cc)))
opens_none_by false false t x xs = ((λ e. refl), (λ e. refl))

opens_none : (pool : Pool) (time : ℕ) (event : Event) → opens event ≡ false → opened_as_at pool time event ≡ None
opens_none SentData time (Sent h) e = (opens_none_by (is_data_request h.header) (is_control_request h.header) (record { time = time; header = h.header }) (record { time = time; event = Up }) []).0 e
opens_none SentControl time (Sent h) e = (opens_none_by (is_data_request h.header) (is_control_request h.header) (record { time = time; header = h.header }) (record { time = time; event = Up }) []).1 e
opens_none TakenData time (Taken h) e = (opens_none_by (is_data_request h.header) (is_control_request h.header) (record { time = time; header = h.header }) (record { time = time; event = Up }) []).0 e
opens_none TakenControl time (Taken h) e = (opens_none_by (is_data_request h.header) (is_control_request h.header) (record { time = time; header = h.header }) (record { time = time; event = Up }) []).1 e
opens_none pool time event e = refl

new-case : (pool : Pool) (x : Entry) (b : Bool) → opens x.event ≡ b → filter_map (opened_as pool) (cond b (x ∷ []) []) ≡ option_to_list (opened_as pool x)
new-case pool x true e = elim (opened_as pool x) as (λ o. cons_option o [] ≡ option_to_list o) [ None ↦ refl | Some t ↦ refl ]
new-case pool x false e = rw (opens_none pool x.time x.event e) refl

-- The open transactions of the pool after an entry of the same connection.
abbrev pool_kept : Pool → List Transaction → Entry → List Transaction
pool_kept pool opened entry = filter (λ transaction. not (is_closed_by pool entry.event transaction)) opened ++ option_to_list (opened_as pool entry)

opened-push : (pool : Pool) (entries : List Entry) (entry : Entry) → filter_map (opened_as pool) (open_entries (entries ++ entry ∷ [])) ≡ pool_kept pool (filter_map (opened_as pool) (open_entries entries)) entry
opened-push pool entries entry =
    let kept = filter (λ other. not (closes other.event entry.event)) (open_entries entries) in
    let more = cond (opens entry.event) (entry ∷ []) [] in
    ap (filter_map (opened_as pool)) (open_entries-push entries entry)
    ∙ filter_map-append (opened_as pool) kept more
    ∙ ap (λ l. l ++ filter_map (opened_as pool) more) (filter_map-kept pool entry.event (open_entries entries))
    ∙ ap (λ l. filter (λ transaction. not (is_closed_by pool entry.event transaction)) (filter_map (opened_as pool) (open_entries entries)) ++ l) (new-case pool entry (opens entry.event) refl)

up_opened : (pool : Pool) (time : ℕ) (event : Event) → is_up event ≡ true → filter_map (opened_as pool) (open_entries (record { time = time; event = event } ∷ [])) ≡ []
up_opened pool time Up u = refl
up_opened pool time event u = absurd (let d : false ≡ true = u in cc)

opened-case : (pool : Pool) (connection : List Entry) (entry : Entry) (b : Bool) → is_up entry.event ≡ b → filter_map (opened_as pool) (open_entries (cond b (entry ∷ []) (connection ++ entry ∷ []))) ≡ cond b [] (pool_kept pool (filter_map (opened_as pool) (open_entries connection)) entry)
opened-case pool connection entry true u = up_opened pool entry.time entry.event u
opened-case pool connection entry false u = opened-push pool connection entry

pub pool-push : (pool : Pool) (log : List Entry) (entry : Entry) → open_of pool (log ++ entry ∷ []) ≡ pool_after pool (open_of pool log) entry
pool-push pool log entry =
    ap (λ entries. filter_map (opened_as pool) (open_entries entries)) (connection-push log entry) ∙ opened-case pool (connection_of log) entry (is_up entry.event) refl

-- The view of a log with one more entry.
pub view-push : (settings : Parameters) (log : List Entry) (entry : Entry) → view_of settings (log ++ entry ∷ []) ≡ view_after (view_of settings log) entry
view-push settings log entry =
    let e1 = phase-push log entry in
    let e2 = up_time-push log entry in
    let e3 = ap (λ (x : Entry). x.time) (last-push log entry) in
    let e4 = pool-push SentData log entry in
    let e5 = pool-push SentControl log entry in
    let e6 = pool-push TakenData log entry in
    let e7 = pool-push TakenControl log entry in
    rw (e1, e2, e3, e4, e5, e6, e7) refl
