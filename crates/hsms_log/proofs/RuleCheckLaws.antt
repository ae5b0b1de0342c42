-- How the state of an audit changes with a line.
use Rattle.std.proofs.Common.{◌≡◌, ◌+◌, ◌++◌, ℕ, List, [], ◌∷◌, length, Bool, Some, None, Ok, Err, refl, sym, ap, ◌∙◌, subst, arith, append_assoc, length-append, zero-add}
use Rattle.std.proofs.lemmas.List.{append-nil}
use Rattle.std.proofs.lemmas.List.Sums.{sum_by-append}
use Rattle.std.specs.Prelude.{Option, Result, IfOk, option_to_list, count_by, if◌then◌else◌, MatchOption}
use Rattle.hsms_machine.specs.declared.entry.Entry.{Entry}
use Rattle.hsms_machine.specs.declared.rule.Rule.{Rule}
use Rattle.hsms_machine.specs.Settings.{Parameters}
use Rattle.hsms_machine.specs.Transaction.{SentData}
use Rattle.hsms_machine.specs.Run.{Broken as IsFirstBroken}
use Rattle.hsms_machine.specs.declared.view.View.{View}
use Rattle.hsms_machine.specs.View.{open_of, waiting_of, HasView, ForEachRun}
use Rattle.hsms_log.specs.declared.audit_state.Session.{Session}
use Rattle.hsms_log.specs.declared.verdict.Why.{Why}
use Rattle.hsms_log.specs.declared.verdict.Why.TheVariants.{Unreadable, Broken}
use Rattle.hsms_log.specs.Counters.{Counters}
use Rattle.hsms_log.specs.LineFormat.{EncodesSettings, Carries}
use Rattle.hsms_log.specs.Log.{CarryLog, EncodesLog}
use Rattle.hsms_log.specs.Verdict.{FailsAfter, LineFails, is_sent, is_taken, is_discarded, is_expired}
use Rattle.hsms_log.specs.declared.audit_state.LineChecker.{LineChecker}
use Rattle.hsms_log.specs.AuditState.{Counts, Tracks, Follows}
use Rattle.hsms_log.specs.InnerAuditState.{IsChecked, counted}

pub carry_more : (max : ℕ) (lines : List (List ℕ)) (log : List Entry) (line : List ℕ) (carried : Option Entry) → CarryLog max lines log → Carries max line carried
    → CarryLog max (lines ++ line ∷ []) (log ++ option_to_list carried)
carry_more max [] log line carried h k =
    (carried, [], k, refl, ap (λ l. l ++ option_to_list carried) h ∙ sym (append-nil (option_to_list carried)))
carry_more max (first ∷ lines) log line carried h k = (
  h.0,
  h.1 ++ option_to_list carried,
  h.2,
  carry_more max lines h.1 line carried h.3 k,
  ap (λ l. l ++ option_to_list carried) h.4 ∙ append_assoc (option_to_list h.0) h.1 (option_to_list carried),
)

pub encode_more : (lines : List (List ℕ)) (s : Parameters) (log : List Entry) (line : List ℕ) (carried : Option Entry) → EncodesLog lines s log
    → Carries s.max line carried → EncodesLog (lines ++ line ∷ []) s (log ++ option_to_list carried)
encode_more [] s log line carried h k = absurd h
encode_more (first ∷ others) s log line carried h k = (h.0, carry_more s.max others log line carried h.1 k)

-- What holds for every run that the tracker may have seen holds for the known run.
known : (s : Parameters) (view : View) (log : List Entry) (Holds : Parameters → List Entry → Type 0) → ForEachRun view (Holds view.settings) → HasView s log view → Holds s log
known s view log Holds each has =
    let same : s ≡ view.settings = ap (λ (v : View). v.settings) has.seen in
    let P : Parameters → Type 0 = λ p. HasView p log view in
    let Q : Parameters → Type 0 = λ p. Holds p log in
    subst Q (sym same) (each log (subst P same has))

-- A line without an entry.
pub tracks_nothing : (session : Session) (old new : Counters) (before : List (List ℕ)) (line : List ℕ) → Carries session.settings.max line None
    → new ≡ record old { lines = old.lines + 1 } → Tracks session old before → Tracks session new (before ++ line ∷ [])
tracks_nothing session old new before line carries is (log, encoded_bytes, has, counts) =
    let P : List Entry → Type 0 = λ l. EncodesLog (before ++ line ∷ []) session.settings l in
    let more : EncodesLog (before ++ line ∷ []) session.settings log =
    subst P (append-nil log) (encode_more before session.settings log line None encoded_bytes carries) in
    let Q : Counters → Type 0 = λ t. Counts t log in
    let kept : Counts (record old { lines = old.lines + 1 }) log = record { entries = counts.entries; sent = counts.sent; taken = counts.taken; discarded = counts.discarded; expired = counts.expired } in
    (log, more, has, subst Q (sym is) kept)

count_more : (p : Entry → Bool) (log : List Entry) (entry : Entry) → count_by p (log ++ entry ∷ []) ≡ count_by p log + (if p entry then 1 else 0)
count_more p log entry =
    let f : Entry → ℕ = λ e. if p e then 1 else 0 in
    sum_by-append f log (entry ∷ []) ∙ ap (λ n. count_by p log + n) (zero-add (f entry))

counts_more : (old : Counters) (log : List Entry) (entry : Entry) → Counts old log → Counts (counted old entry) (log ++ entry ∷ [])
counts_more old log entry counts = record {
  entries = omega (arith, counts.entries, length-append log (entry ∷ []));
  sent = ap (λ n. n + (if is_sent entry.event then 1 else 0)) counts.sent ∙ sym (count_more (λ e. is_sent e.event) log entry);
  taken = ap (λ n. n + (if is_taken entry.event then 1 else 0)) counts.taken ∙ sym (count_more (λ e. is_taken e.event) log entry);
  discarded = ap (λ n. n + (if is_discarded entry.event then 1 else 0)) counts.discarded ∙ sym (count_more (λ e. is_discarded e.event) log entry);
  expired = ap (λ n. n + (if is_expired entry.event then 1 else 0)) counts.expired ∙ sym (count_more (λ e. is_expired e.event) log entry);
}

-- A line with a valid entry.
pub tracks_entry : (session : Session) (next : View) (old new : Counters) (before : List (List ℕ)) (line : List ℕ) (entry : Entry) → Carries session.settings.max line (Some entry)
    → ForEachRun session.tracker (λ log. HasView session.tracker.settings (log ++ entry ∷ []) next)
    → new ≡ counted old entry → Tracks session old before → Tracks (record { settings = session.settings; tracker = next }) new (before ++ line ∷ [])
tracks_entry session next old new before line entry carries after is (log, encoded_bytes, has, counts) =
    let more = encode_more before session.settings log line (Some entry) encoded_bytes carries in
    let next_has = known session.settings session.tracker log (λ s l. HasView s (l ++ entry ∷ []) next) after has in
    let Q : Counters → Type 0 = λ t. Counts t (log ++ entry ∷ []) in
    (log ++ entry ∷ [], more, next_has, subst Q (sym is) (counts_more old log entry counts))

-- A line that is unreadable fails.
pub unreadable_fails : (session : Session) (tally : Counters) (before : List (List ℕ)) (line : List ℕ)
    → ((carried : Option Entry) → Carries session.settings.max line carried → ⊥) → Tracks session tally before → FailsAfter before line Unreadable
unreadable_fails session tally [] line none (log, encoded_bytes, has, counts) = absurd encoded_bytes
unreadable_fails session tally (first ∷ others) line none (log, encoded_bytes, has, counts) =
    (session.settings, log, record { encoded_bytes = encoded_bytes; run = has.run }, none)

-- A line whose entry breaks a rule fails.
pub broken_fails : (session : Session) (tally : Counters) (before : List (List ℕ)) (line : List ℕ) (entry : Entry) (rule : Rule)
    → Carries session.settings.max line (Some entry) → ForEachRun session.tracker (λ log. IsFirstBroken session.tracker.settings log entry (Some rule))
    → Tracks session tally before → FailsAfter before line (Broken rule)
broken_fails session tally [] line entry rule carries breaks (log, encoded_bytes, has, counts) = absurd encoded_bytes
broken_fails session tally (first ∷ others) line entry rule carries breaks (log, encoded_bytes, has, counts) = (
  session.settings,
  log,
  record { encoded_bytes = encoded_bytes; run = has.run },
  (entry, carries, known session.settings session.tracker log (λ s l. IsFirstBroken s l entry (Some rule)) breaks has),
)

-- The first line, if it encodes settings.
pub first_follows : (line_checker : LineChecker) (session : Session) (tally : Counters) (before : List (List ℕ)) (line : List ℕ) → line_checker.session ≡ None
    → EncodesSettings line session.settings → HasView session.settings [] session.tracker → tally ≡ record line_checker.tally { lines = line_checker.tally.lines + 1 } → Follows line_checker before
    → Follows (record line_checker { session = Some session; tally = tally }) (before ++ line ∷ [])
first_follows line_checker session tally before line none encoded_bytes has tally_is follows =
    let P : Option Session → Type 0 = λ o. MatchOption o ((before ≡ []) × Counts line_checker.tally []) (λ t. Tracks t line_checker.tally before) in
    let state = subst P none follows.state in
    let counts : Counts line_checker.tally [] = state.1 in
    let Q : Counters → Type 0 = λ t. (t.lines ≡ length (before ++ line ∷ [])) × Counts t [] in
    let size : length (before ++ line ∷ []) ≡ length before + 1 = length-append before (line ∷ []) in
    let number : line_checker.tally.lines ≡ length before = follows.number in
    let kept : Counts (record line_checker.tally { lines = line_checker.tally.lines + 1 }) [] = record { entries = counts.entries; sent = counts.sent; taken = counts.taken; discarded = counts.discarded; expired = counts.expired } in
    let counted = subst Q (sym tally_is) (omega (arith, size, number), kept) in
    let tracks : Tracks session tally (line ∷ []) = ([], (encoded_bytes, refl), has, counted.1) in
    let S : List (List ℕ) → Type 0 = λ lines. Tracks session tally lines in
    record { number = counted.0; state = subst S (ap (λ l. l ++ line ∷ []) (sym state.0)) tracks }

-- A checker that has read the settings tracks the lines that it follows.
tracked : (line_checker : LineChecker) (session : Session) (before : List (List ℕ)) → line_checker.session ≡ Some session → Follows line_checker before → Tracks session line_checker.tally before
tracked line_checker session before some follows =
    let P : Option Session → Type 0 = λ o. MatchOption o ((before ≡ []) × Counts line_checker.tally []) (λ s. Tracks s line_checker.tally before) in
    subst P some follows.state

-- So a check of a line by the tracked session is a check after the lines that the checker follows.
pub checked_follows : {E : Type 0} (r : Result (Option Why) E) (old new : LineChecker) (session later : Session) (line : List ℕ)
    → old.session ≡ Some session → new.session ≡ Some later
    → IfOk r (IsChecked old.tally.lines new.tally.lines (Tracks session old.tally) (Tracks later new.tally) line)
    → IfOk r (IsChecked old.tally.lines new.tally.lines (Follows old) (Follows new) line)
checked_follows (Ok None) old new session later line some some' check_result =
    let P : Option Session → List (List ℕ) → Type 0 = λ o lines. MatchOption o ((lines ≡ []) × Counts new.tally []) (λ s. Tracks s new.tally lines) in (
      check_result.0,
      λ before follows.
          let size : length (before ++ line ∷ []) ≡ length before + 1 = length-append before (line ∷ []) in
          let lines : new.tally.lines ≡ old.tally.lines + 1 = check_result.0 in
          let number = follows.number in
          let Q : Option Session → Type 0 = λ o. P o (before ++ line ∷ []) in
          record { number = omega (arith, size, number, lines); state = subst Q (sym some') (check_result.1 before (tracked old session before some follows)) },
    )
checked_follows (Ok (Some why)) old new session later line some some' check_result = (check_result.0, λ before follows. check_result.1 before (tracked old session before some follows))
checked_follows (Err e) old new session later line some some' check_result = tt

-- The number of open sent primaries, as the tracker returns it.
pub waiting_is : (s : Parameters) (log : List Entry) (view : View) → HasView s log view → waiting_of view ≡ length (open_of SentData log)
waiting_is s log view has = sym (ap (λ (v : View). length v.sent_data) has.seen)

-- One more line, and the number of lines.
pub line_fails : (line_checker : LineChecker) (before done : List (List ℕ)) (line : List ℕ) (after : List (List ℕ)) (all : List (List ℕ)) (n : ℕ) (why : Why)
    → all ≡ done ++ line ∷ after → n ≡ line_checker.tally.lines → Follows line_checker (before ++ done) → FailsAfter (before ++ done) line why
    → LineFails (before ++ all) (n + 1) why
line_fails line_checker before done line after all n why all_is n_is follows fails = (
  before ++ done,
  line,
  after,
  ap (λ l. before ++ l) all_is ∙ sym (append_assoc before done (line ∷ after)),
  ap (λ k. k + 1) (n_is ∙ follows.number),
  fails,
)
