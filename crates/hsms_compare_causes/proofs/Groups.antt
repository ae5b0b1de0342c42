-- The next entry of a group, and what a search along a group has passed.
use Rattle.std.proofs.Common.{◌≡◌, ◌∙◌, ◌<◌, ◌≤◌, ◌+◌, ◌-◌, ℕ, zero, suc, Bool, true, false, List, [], ◌∷◌, Option, Some, None, length, drop, get_or, nat_eq, refl, set, sym, ap, subst, inl, inr, arith, eqb-true}
use Rattle.std.specs.Prelude.{◌||◌, ◌==◌, not, IsTrue, is_some, nat_le, nat_lt, if◌then◌else◌}
use Rattle.std.specs.List.{list_any}
use Rattle.std.proofs.lemmas.Bool.{and_parts, cases_eq, cases_lt, cases_order, eq-eqb, leb-false, leb-true, lt-ltb, ltb-false, ltb-true}
use Rattle.std.proofs.lemmas.List.{drop_more, drop_all, get_or-drop, get_or-set_other, get_or-set_same, length-drop, length-set}
use Rattle.indexmap.specs.IndexMap.{IndexMap, get}
use Rattle.std.specs.Map.{lookup}
use Rattle.std.proofs.lemmas.List.Folds.{list_any_at}
use Rattle.hsms_machine.specs.declared.entry.Entry.{Entry}
use Rattle.hsms_machine.specs.declared.entry.Event.TheVariants.{Sent, Taken, Discarded, Up, T3, Cut, Down}
use Rattle.hsms_machine.specs.declared.entry.Event.{Event}
use Rattle.hsms_frame.specs.Header.{kind_of}
use Rattle.hsms_frame.specs.declared.header.Header.{Header}
use Rattle.hsms_machine.proofs.Mapped.{concludes_only}
use Rattle.hsms_machine.specs.Message.{is_control_request, is_data_request, is_reject_kind}
use Rattle.hsms_machine.specs.Transaction.{closes_sent, closes_taken, concludes}
use Rattle.hsms_machine.specs.Entry.{entry_at}
use Rattle.hsms_machine.specs.Session.{ends_session}
use Rattle.hsms_compare_causes.specs.declared.group.Group.{Group}
use Rattle.hsms_compare_causes.specs.declared.group.Group.TheVariants.{System, Ends}
use Rattle.hsms_compare_causes.specs.InnerGroups.{AreNextFrom, IsLater, IsNext, IsReached, IsReachedAt, first_if, is_in, is_system, later_if, latest_of, leads, next_at, no_entries, remaining, system_of}
use Rattle.hsms_compare_causes.specs.declared.later_entries.LaterEntries.{LaterEntries}
use Rattle.hsms_compare_causes.specs.declared.later_entries.NextEntries.{NextEntries}
use Rattle.hsms_compare_causes.specs.Events.{answers_by, ends_connection, is_answer}
use Rattle.hsms_compare_causes.specs.OwnOutcome.{is_cut_after, is_later, session_of, unclosed, unclosed_by}
use Rattle.hsms_compare_causes.specs.declared.own_outcome.OwnOutcome.{OwnOutcome}
use Rattle.hsms_compare_causes.specs.declared.wanted.Wanted.TheVariants.{Cut as CutAfter}
use Rattle.hsms_compare_causes.specs.InnerSearch.{is_wanted}
use Rattle.hsms_compare_causes.specs.Search.{FirstFrom, NoneFrom}

-- ---- the first entry from an index on

not_there : (test : Entry → Bool) (log : List Entry) (i p : ℕ) → test (entry_at log i) ≡ false → p ≡ i → IsTrue (test (entry_at log p)) → ⊥
not_there test log i p fails same passes =
    let t : true ≡ false = sym passes ∙ ap (λ (k : ℕ). test (entry_at log k)) same ∙ fails in
    absurd (cc)

first_by : (test : Entry → Bool) (log : List Entry) (i : ℕ) (b : Bool) (later : Option ℕ) → test (entry_at log i) ≡ b → i < length log → FirstFrom test log (i + 1) later → FirstFrom test log i (first_if b i later)
first_by test log i true later passes lt found = record {
  from = omega arith;
  there = lt;
  passes = passes;
  first = λ p le before _. omega arith;
}
first_by test log i false None fails lt none = λ p le within passes.
    elim (cases_eq p i) [
      | inl same ↦ not_there test log i p fails same passes
      | inr other ↦ none p (omega arith) within passes
    ]
first_by test log i false (Some k) fails lt found = record {
  from = omega (arith, found.from);
  there = found.there;
  passes = found.passes;
  first = λ p le before passes.
      elim (cases_eq p i) [
        | inl same ↦ not_there test log i p fails same passes
        | inr other ↦ found.first p (omega arith) before passes
      ];
}

pub first_earlier : (test : Entry → Bool) (log : List Entry) (i : ℕ) (b : Bool) (later found : Option ℕ) → b ≡ test (entry_at log i) → found ≡ first_if b i later → i < length log → FirstFrom test log (i + 1) later → FirstFrom test log i found
first_earlier test log i b later found b_is is lt first =
    let P : Option ℕ → Type 0 = λ x. FirstFrom test log i x in
    subst P (sym is) (first_by test log i b later (sym b_is) lt first)

pub none_later : (test : Entry → Bool) (log : List Entry) → FirstFrom test log (length log) None
none_later test log = λ p le lt _. omega arith

pub none_of_system : {S : Type 0} (log : List Entry) (map : IndexMap ℕ ℕ S) (s : ℕ) → map.entries ≡ [] → FirstFrom (is_in (System s)) log (length log) (get nat_eq map s)
none_of_system log map s none =
    let P : List (ℕ × ℕ) → Type 0 = λ es. FirstFrom (is_in (System s)) log (length log) (lookup (nat_eq s) es) in
    subst P (sym none) (none_later (is_in (System s)) log)

abbrev no_entry : Entry
no_entry = record { time = 0; event = Up }

is_false : (b : Bool) → (IsTrue b → ⊥) → b ≡ false
is_false true fails = absurd (fails refl)
is_false false fails = refl

neither : (a b : Bool) → a ≡ false → b ≡ false → (a || b) ≡ false
neither a b a_is b_is = ap (λ x. x || b) a_is ∙ b_is

none_any : (test : Entry → Bool) (log : List Entry) (m start : ℕ) → start + m ≡ length log → NoneFrom test log start → list_any test (drop start log) ≡ false
none_any test log zero start e none = ap (λ (xs : List Entry). list_any test xs) (drop_all start log (omega arith))
none_any test log (suc m) start e none =
    ap (λ (xs : List Entry). list_any test xs) (drop_more log start no_entry (omega arith))
    ∙ neither (test (entry_at log start)) (list_any test (drop (start + 1) log)) (is_false (test (entry_at log start)) (λ passes. none start (omega arith) (omega arith) passes))
    (none_any test log m (start + 1) (omega arith) (λ p le lt passes. none p (omega arith) lt passes))

-- Some entry passes the test if there is a first one.
pub any_from : (test : Entry → Bool) (log : List Entry) (start : ℕ) (found : Option ℕ) → FirstFrom test log start found → list_any test (drop start log) ≡ is_some found
any_from test log start None none =
    elim (cases_lt start (length log)) [
      | inl lt ↦ none_any test log (length log - start) start (omega arith) none
      | inr le ↦ ap (λ (xs : List Entry). list_any test xs) (drop_all start log le)
    ]
any_from test log start (Some k) found =
    let at : start + (k - start) ≡ k = omega (arith, found.from) in
    let lt : k - start < length (drop start log) = omega (arith, length-drop start log, found.from, found.there) in
    list_any_at test (drop start log) (k - start) no_entry lt
    (ap test (get_or-drop start log (k - start) no_entry) ∙ ap (λ (n : ℕ). test (entry_at log n)) at ∙ found.passes)

-- ---- along a group

leads_on : (group : Group) (entry : Entry) → IsTrue (is_in group entry) → IsTrue (leads group entry.event)
leads_on (System s) entry is = is
leads_on Ends entry is = refl

module _ (test : Entry → Bool) (group : Group) (log : List Entry) (start : ℕ) (sub : (entry : Entry) → IsTrue (test entry) → IsTrue (is_in group entry)) where
  pub reached_first : (at : Option ℕ) → FirstFrom (is_in group) log start at → IsReached test group log start at
  reached_first None none = λ p le lt passes. none p le lt (sub (entry_at log p) passes)
  reached_first (Some k) found = record {
    from = found.from;
    there = found.there;
    leading = leads_on group (entry_at log k) found.passes;
    first = λ p le before passes. found.first p le before (sub (entry_at log p) passes);
  }

  pub reached_next : (k : ℕ) (at : Option ℕ) → IsReachedAt test group log start k → test (entry_at log k) ≡ false → FirstFrom (is_in group) log (k + 1) at → IsReached test group log start at
  reached_next k None here fails none = λ p le lt passes.
      elim (cases_order p k) [
        | inl same ↦ not_there test log k p fails same passes
        | inr (inl before) ↦ here.first p le before passes
        | inr (inr after) ↦ none p (omega arith) lt (sub (entry_at log p) passes)
      ]
  reached_next k (Some m) here fails found = record {
    from = omega (arith, here.from, found.from);
    there = found.there;
    leading = leads_on group (entry_at log m) found.passes;
    first = λ p le before passes.
        elim (cases_order p k) [
          | inl same ↦ not_there test log k p fails same passes
          | inr (inl earlier) ↦ here.first p le earlier passes
          | inr (inr after) ↦ found.first p (omega arith) before (sub (entry_at log p) passes)
        ];
  }

-- ---- the session

session_tail : (b : Bool) (entries : List Entry) (i : ℕ) (d : Entry) → i < length (if b then [] else session_of entries) → ((lt : i < length (session_of entries)) → get_or (session_of entries) i d ≡ get_or entries i d) → get_or (if b then [] else session_of entries) i d ≡ get_or entries i d
session_tail true entries i d lt same = absurd (let n : i < 0 = lt in omega arith)
session_tail false entries i d lt same = same lt

-- The entries of the session are the first ones of the log.
pub session_at : (log : List Entry) (i : ℕ) (d : Entry) → i < length (session_of log) → get_or (session_of log) i d ≡ get_or log i d
session_at [] i d lt = refl
session_at (entry ∷ entries) zero d lt = refl
session_at (entry ∷ entries) (suc i) d lt = session_tail (ends_session entry.event) entries i d (omega arith) (session_at entries i d)

session_within-tail : (b : Bool) (entries : List Entry) → length (session_of entries) ≤ length entries → length (if b then [] else session_of entries) ≤ length entries
session_within-tail true entries le = omega arith
session_within-tail false entries le = le

pub session_within : (log : List Entry) → length (session_of log) ≤ length log
session_within [] = omega arith
session_within (entry ∷ entries) = let le = session_within-tail (ends_session entry.event) entries (session_within entries) in omega arith

-- ---- the latest time

latest_with : (log : List Entry) (i : ℕ) (b : Bool) → b ≡ nat_lt i (length (session_of log)) → latest_of (drop i (session_of log)) ≡ later_if b (latest_of (drop (i + 1) (session_of log))) (entry_at log i).time
latest_with log i true is =
    let lt : i < length (session_of log) = ltb-true i (length (session_of log)) (sym is) in
    ap (λ (xs : List Entry). latest_of xs) (drop_more (session_of log) i no_entry lt)
    ∙ ap (λ (e : Entry). later_if true (latest_of (drop (i + 1) (session_of log))) e.time) (session_at log i no_entry lt)
latest_with log i false is =
    let le : length (session_of log) ≤ i = ltb-false i (length (session_of log)) (sym is) in
    ap (λ (xs : List Entry). latest_of xs) (drop_all i (session_of log) le)
    ∙ sym (ap (λ (xs : List Entry). latest_of xs) (drop_all (i + 1) (session_of log) (omega arith)))

pub latest_earlier : (log : List Entry) (i t latest : ℕ) (b : Bool) (entry : Entry) → entry ≡ entry_at log i → b ≡ nat_lt i (length (session_of log)) → t ≡ latest_of (drop (i + 1) (session_of log)) → latest ≡ later_if b t entry.time → latest ≡ latest_of (drop i (session_of log))
latest_earlier log i t latest b entry is b_is t_is latest_is =
    latest_is
    ∙ ap (λ (x : ℕ). later_if b x entry.time) t_is
    ∙ ap (λ (e : Entry). later_if b (latest_of (drop (i + 1) (session_of log))) e.time) is
    ∙ sym (latest_with log i b b_is)

either_left : (a b : Bool) → (b ≡ true → a ≡ true) → (a || b) ≡ a
either_left true b h = refl
either_left false true h = sym (h refl)
either_left false false h = refl

either_right : (a b : Bool) → (a ≡ true → b ≡ true) → (a || b) ≡ b
either_right true b h = sym (h refl)
either_right false b h = refl

later_by : (since limit s t : ℕ) (b : Bool) → nat_le s t ≡ b → (nat_lt limit (t - since) || nat_lt limit (s - since)) ≡ nat_lt limit ((if b then t else s) - since)
later_by since limit s t true is =
    let le : s ≤ t = leb-true s t is in
    either_left (nat_lt limit (t - since)) (nat_lt limit (s - since)) (λ h. lt-ltb limit (t - since) (omega (arith, ltb-true limit (s - since) h)))
later_by since limit s t false is =
    let lt : t < s = leb-false s t is in
    either_right (nat_lt limit (t - since)) (nat_lt limit (s - since)) (λ h. lt-ltb limit (s - since) (omega (arith, ltb-true limit (t - since) h)))

-- Some entry is later if the latest one is.
pub any_later : (since limit : ℕ) (log : List Entry) → list_any (is_later since limit) log ≡ nat_lt limit (latest_of log - since)
any_later since limit [] = sym (is_false (nat_lt limit (0 - since)) (λ h. (let lt : limit < 0 - since = ltb-true limit (0 - since) h in omega arith)))
any_later since limit (entry ∷ entries) =
    ap (λ (b : Bool). nat_lt limit (entry.time - since) || b) (any_later since limit entries)
    ∙ later_by since limit (latest_of entries) entry.time (nat_le (latest_of entries) entry.time) refl

-- ---- what a search leaves

pub fewer_remain : (test : Entry → Bool) (log : List Entry) (k : ℕ) (at : Option ℕ) → k < length log → FirstFrom test log (k + 1) at → remaining (length log) at < length log - k
fewer_remain test log k None lt none = omega arith
fewer_remain test log k (Some m) lt found = omega (arith, found.from, found.there)

-- ---- what is known of later entries

pub earlier : (log : List Entry) (i : ℕ) (before after : LaterEntries) (entry : Entry) (system : Option ℕ) (is_end b : Bool) → system ≡ system_of entry.event → is_end ≡ ends_connection entry.event
    → ((s : ℕ) → get nat_eq after.systems s ≡ first_if (is_system system s) i (get nat_eq before.systems s)) → after.end ≡ first_if is_end i before.end → after.latest ≡ later_if b before.latest entry.time
    → IsLater log (i + 1) before → i < length log → entry ≡ entry_at log i → b ≡ nat_lt i (length (session_of log)) → IsLater log i after
earlier log i before after entry system is_end b system_is_of is_end_of systems end latest known lt is b_is = record {
  systems_so = λ s. first_earlier (is_in (System s)) log i (is_system system s) (get nat_eq before.systems s) (get nat_eq after.systems s) (ap (λ o. is_system o s) system_is_of ∙ ap (λ (e : Entry). is_system (system_of e.event) s) is) (systems s) lt (known.systems_so s);
  end_so = first_earlier (is_in Ends) log i is_end before.end after.end (is_end_of ∙ ap (λ (e : Entry). ends_connection e.event) is) end lt known.end_so;
  latest_so = latest_earlier log i before.latest after.latest b entry is b_is known.latest_so latest;
}

pub later_as : (log : List Entry) (i k : ℕ) (later : LaterEntries) → i ≡ k → IsLater log i later → IsLater log k later
later_as log i k later e known =
    let P : ℕ → Type 0 = λ x. IsLater log x later in
    subst P e known

pub no_latest : (log : List Entry) (i : ℕ) → length log ≤ i → 0 ≡ latest_of (drop i (session_of log))
no_latest log i le = sym (ap (λ (xs : List Entry). latest_of xs) (drop_all i (session_of log) (omega (arith, session_within log))))

pub none_next : (log : List Entry) (nexts : List NextEntries) (i : ℕ) → length nexts ≡ length log → length log ≤ i → AreNextFrom log i nexts
none_next log nexts i is le = record { count_so = is; each_so = λ k from lt. absurd (omega arith) }

pub next_more : (log : List Entry) (i index : ℕ) (nexts : List NextEntries) (next : NextEntries) → index < length log → i ≡ index + 1 → AreNextFrom log i nexts → IsNext log index next → AreNextFrom log index (set nexts index next)
next_more log i index nexts next lt is are now = record {
  count_so = length-set nexts index next ∙ are.count_so;
  each_so = λ k from within.
      elim (cases_eq k index) [
        | inl same ↦
            let P : ℕ → Type 0 = λ x. IsNext log x (next_at (set nexts index next) x) in
            let Q : NextEntries → Type 0 = λ x. IsNext log index x in
            subst P (sym same) (subst Q (sym (get_or-set_same nexts index next no_entries (omega (arith, are.count_so)))) now)
        | inr other ↦
            let Q : NextEntries → Type 0 = λ x. IsNext log k x in
            subst Q (sym (get_or-set_other nexts index k next no_entries other)) (are.each_so k (omega arith) within)
      ];
}

pub next_before : (log : List Entry) (i : ℕ) (nexts : List NextEntries) (next : NextEntries) → i < length log → AreNextFrom log (length log - i) nexts → IsNext log (length log - 1 - i) next → AreNextFrom log (length log - (i + 1)) (set nexts (length log - 1 - i) next)
next_before log i nexts next lt are now =
    let P : ℕ → Type 0 = λ x. AreNextFrom log x (set nexts (length log - 1 - i) next) in
    let same : length log - 1 - i ≡ length log - (i + 1) = omega arith in
    subst P same (next_more log (length log - i) (length log - 1 - i) nexts next (omega arith) (omega arith) are now)

-- ---- what is searched for is of one group

never : false ≡ true → ⊥
never h = absurd (cc)

concluded : (request other : Header) → concludes request other ≡ true → nat_eq other.system request.system ≡ true
concluded request other h =
    let e = concludes_only other (record { time = 0; header = request }) h in
    eq-eqb other.system request.system (sym e)

pub closing_system : (request : Header) (event : Event) → IsTrue (closes_sent request event) → IsTrue (is_system (system_of event) request.system)
closing_system request (Sent frame) h = absurd (never h)
closing_system request (Taken frame) h = concluded request frame.header h
closing_system request (Discarded frame) h = absurd (never h)
closing_system request Up h = absurd (never h)
closing_system request (T3 system) h = eq-eqb system request.system (sym (eqb-true request.system system (and_parts (is_data_request request) (request.system == system) h).1))
closing_system request (Cut cause) h = absurd (never h)
closing_system request Down h = absurd (never h)

pub conclusion_system : (request : Header) (event : Event) → IsTrue (closes_taken request event) → IsTrue (is_system (system_of event) request.system)
conclusion_system request (Sent frame) h = concluded request frame.header h
conclusion_system request (Taken frame) h = absurd (never h)
conclusion_system request (Discarded frame) h = absurd (never h)
conclusion_system request Up h = absurd (never h)
conclusion_system request (T3 system) h = absurd (never h)
conclusion_system request (Cut cause) h = absurd (never h)
conclusion_system request Down h = absurd (never h)

answering : (request other : Header) → is_answer request other ≡ true → nat_eq other.system request.system ≡ true
answering request other h = concluded request other (and_parts (concludes request other) (not (is_reject_kind (kind_of other))) h).0

pub reply_system : (request : Header) (event : Event) → IsTrue (answers_by request event) → IsTrue (is_system (system_of event) request.system)
reply_system request (Sent frame) h = absurd (never h)
reply_system request (Taken frame) h = answering request frame.header h
reply_system request (Discarded frame) h = answering request frame.header h
reply_system request Up h = absurd (never h)
reply_system request (T3 system) h = absurd (never h)
reply_system request (Cut cause) h = absurd (never h)
reply_system request Down h = absurd (never h)

-- ---- a request that no entry closes

pub unclosed_so : (log : List Entry) (more : Bool) (j : ℕ) (request : Header) (limit since latest : ℕ) (control late : Bool) (cut : Option ℕ) (outcome : OwnOutcome) → since ≡ (entry_at log j).time → control ≡ is_control_request request
    → FirstFrom (is_wanted (CutAfter since limit)) log (j + 1) cut → latest ≡ latest_of (drop (j + 1) (session_of log)) → late ≡ nat_lt limit (latest - since) → outcome ≡ unclosed_by more control (is_some cut) late → outcome ≡ unclosed log more j request limit
unclosed_so log more j request limit since latest control late cut outcome since_is control_is first latest_is late_is is =
    let rest : List Entry = drop (j + 1) log in
    let session : List Entry = drop (j + 1) (session_of log) in
    let cut_is : is_some cut ≡ list_any (is_cut_after since limit) rest = sym (any_from (is_wanted (CutAfter since limit)) log (j + 1) cut first) in
    let is_late : late ≡ list_any (is_later since limit) session = late_is ∙ ap (λ (n : ℕ). nat_lt limit (n - since)) latest_is ∙ sym (any_later since limit session) in
    is
    ∙ ap (λ (b : Bool). unclosed_by more b (is_some cut) late) control_is
    ∙ ap (λ (b : Bool). unclosed_by more (is_control_request request) b late) cut_is
    ∙ ap (λ (b : Bool). unclosed_by more (is_control_request request) (list_any (is_cut_after since limit) rest) b) is_late
    ∙ ap (λ (t : ℕ). unclosed_by more (is_control_request request) (list_any (is_cut_after t limit) rest) (list_any (is_later t limit) session)) since_is
