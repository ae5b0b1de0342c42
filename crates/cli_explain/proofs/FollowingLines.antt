-- How the state after the lines of a log changes with a line.
use Rattle.std.proofs.Common.{◌≡◌, ◌<◌, ◌+◌, ◌-◌, ◌^◌, ◌++◌, inl, inr, min, ℕ, List, [], ◌∷◌, length, Bool, true, false, Some, None, refl, sym, ap, ◌∙◌, subst, arith, append_assoc, length-append, zero-add}
use Rattle.std.proofs.lemmas.List.{append-nil}
use Rattle.std.proofs.lemmas.List.Sums.{sum_by-append}
use Rattle.std.specs.Prelude.{Option, count_by, if◌then◌else◌, MatchOption}
use Rattle.hsms_machine.specs.declared.entry.Entry.{Entry}
use Rattle.hsms_machine.specs.Settings.{Parameters}
use Rattle.hsms_machine.specs.OpeningLines.{at_place}
use Rattle.hsms_machine.specs.Run.{IsRun}
use Rattle.hsms_log.specs.declared.verdict.Why.{Why}
use Rattle.hsms_log.specs.declared.verdict.Why.TheVariants.{Unreadable, Broken}
use Rattle.hsms_log.specs.declared.verdict.Summary.{Summary}
use Rattle.hsms_log.specs.Log.{EncodesLog}
use Rattle.hsms_log.specs.LineFormat.{EncodesSettings, Carries, line_limit, settings_limit}
use Rattle.hsms_log.specs.Verdict.{FailsRun, FailsAfter, LineFails, is_sent, is_taken, is_discarded, is_expired}
use Rattle.hsms_log.proofs.RuleCheckLaws.{encode_more}
use Rattle.explain_session.specs.declared.context.Known.{Known}
use Rattle.explain_statistics.specs.declared.failure_counts.Failed.{Failed}
use Rattle.explain_statistics.specs.declared.failure_counts.Tally.{Tally}
use Rattle.explain_lines.specs.declared.explained_line.Carried.{Carried}
use Rattle.explain_lines.specs.declared.explained_line.Carried.TheVariants as carried
use Rattle.explain_lines.specs.Counted.{counted}
use Rattle.explain_statistics.specs.EntryCounts.{counts_of, one_more, with_entry}
use Rattle.explain_statistics.specs.InnerEntryCounts.{with_carried}
use Rattle.explain_session.specs.Clock.{steady}
use Rattle.explain_session.specs.InnerRepairedLines.{clock_after_line}
use Rattle.explain_session.specs.RepairedSession.{CurrentState, HasProgress}
use Rattle.explain_statistics.specs.FirstFailure.{failed_at}
use Rattle.explain_statistics.specs.InnerFirstFailure.{FailsFirst}
use Rattle.cli_explain.specs.InnerLinesProcessed.{IsShown, Tracks, TracksOrFails, BeginsOrFails}
use Rattle.explain_lines.specs.AnnotatedFailure.{either}
use Rattle.explain_session.specs.InnerEntryFailure.{LineFailsBy}
use Rattle.explain_lines.specs.CarriedLine.{IsCarried}
use Rattle.hsms_log.specs.Step.{entry_by}
use Rattle.explain_session.specs.declared.clock.Clock.{Clock}
use Rattle.explain_session.proofs.Clocks.{steady_line}

-- ---- annotations

-- ---- counts

pub counted-more : (n : ℕ) → counted (counted n + 1) ≡ counted (n + 1)
counted-more n = omega arith

one_step : (so : Bool) (n m : ℕ) → m ≡ n + (if so then 1 else 0) → one_more (counted n) so ≡ counted m
one_step true n m is = omega (arith, is)
one_step false n m is = omega (arith, is)

kind_more : (p : Entry → Bool) (log : List Entry) (entry : Entry) → one_more (counted (count_by p log)) (p entry) ≡ counted (count_by p (log ++ entry ∷ []))
kind_more p log entry =
    let f : Entry → ℕ = λ e. if p e then 1 else 0 in
    one_step (p entry) (count_by p log) (count_by p (log ++ entry ∷ []))
    (sum_by-append f log (entry ∷ []) ∙ ap (λ n. count_by p log + n) (zero-add (f entry)))

size_more : (log : List Entry) (entry : Entry) → counted (counted (length log) + 1) ≡ counted (length (log ++ entry ∷ []))
size_more log entry = counted-more (length log) ∙ ap counted (sym (length-append log (entry ∷ [])))

pub counts_more : (log : List Entry) (entry : Entry) → with_entry (counts_of log) entry ≡ counts_of (log ++ entry ∷ [])
counts_more log entry =
    let all = size_more log entry in
    let sent = kind_more (λ e. is_sent e.event) log entry in
    let taken = kind_more (λ e. is_taken e.event) log entry in
    let discarded = kind_more (λ e. is_discarded e.event) log entry in
    let expired = kind_more (λ e. is_expired e.event) log entry in
    cc (all, sent, taken, discarded, expired)

-- ---- the first failure

onward : (lines more : List (List ℕ)) (n : ℕ) (why : Why) → LineFails lines n why → LineFails (lines ++ more) n why
onward lines more n why (before, line, after, split, number, fails) =
    (before, line, after ++ more, ap (λ l. l ++ more) split ∙ append_assoc before (line ∷ after) more, number, fails)

long_carries : (max : ℕ) (line : List ℕ) (carried : Option Entry) → line_limit max < length line → Carries max line carried → ⊥
long_carries max line None over h = let fits = h.0 in omega (arith, fits, over)
long_carries max line (Some entry) over h = let fits = h.0 in omega (arith, fits, over)

pub fails_more : (lines : List (List ℕ)) (line : List ℕ) (failed : Failed) → FailsFirst lines failed → FailsFirst (lines ++ line ∷ []) failed
fails_more lines line failed (n, is, few, fails) =
    let size = length-append lines (line ∷ []) in
    (n, is, omega (arith, few, size), onward lines (line ∷ []) n failed.why fails)

-- The next line fails after lines that do not.
pub fails_next : (before : List (List ℕ)) (line : List ℕ) (number : ℕ) (why : Why) → number ≡ counted (length before + 1) → FailsAfter before line why
    → FailsFirst (before ++ line ∷ []) (record { line = number; why = why })
fails_next before line number why is fails =
    let size = length-append before (line ∷ []) in
    (length before + 1, is, omega (arith, size), (before, line, [], refl, refl, fails))

fails_after : (s : Parameters) (log : List Entry) (before : List (List ℕ)) (line : List ℕ) (why : Why) → EncodesLog before s log → IsRun s log
    → FailsRun s log line why → FailsAfter before line why
fails_after s log [] line why encoded_bytes run fails = absurd encoded_bytes
fails_after s log (first ∷ others) line why encoded_bytes run fails = (s, log, record { encoded_bytes = encoded_bytes; run = run }, fails)

-- ---- the shown part of a line

pub carried_shown : (max : ℕ) (line shown : List ℕ) (what : Carried) → IsShown (line_limit max) line shown → IsCarried max shown what → IsCarried max line what
carried_shown max line shown what (inl same) is = let P : List ℕ → Type 0 = λ l. IsCarried max l what in subst P (sym same) is
carried_shown max line shown (carried.Entry step text) (inr long) is = absurd (long_carries max shown (Some (entry_by step text.now)) long.1 is)
carried_shown max line shown carried.Nothing (inr long) is = absurd (long_carries max shown None long.1 is)
carried_shown max line shown (carried.Unreadable reasoned) (inr long) is = λ entry. long_carries max line entry long.0

pub encoded_shown : (line shown : List ℕ) (s : Parameters) → IsShown settings_limit line shown → EncodesSettings shown s → EncodesSettings line s
encoded_shown line shown s (inl same) is = let P : List ℕ → Type 0 = λ l. EncodesSettings l s in subst P (sym same) is
encoded_shown line shown s (inr long) is = let fits = is.fits in let over = long.1 in absurd (omega (arith, fits, over))

pub unspelled_shown : (line shown : List ℕ) → IsShown settings_limit line shown → ((s : Parameters) → EncodesSettings shown s → ⊥)
    → (s : Parameters) → EncodesSettings line s → ⊥
unspelled_shown line shown (inl same) none s is = let P : List ℕ → Type 0 = λ l. EncodesSettings l s in none s (subst P same is)
unspelled_shown line shown (inr long) none s is = let fits = is.fits in let over = long.0 in omega (arith, fits, over)

-- ---- a line after the first

abbrev pub next_progress : CurrentState → CurrentState
next_progress repaired_session = record repaired_session { line = min (repaired_session.line + 1) (2 ^ 64 - 1) }

at_next : (s : Parameters) (log placed : List Entry) (repaired_session : CurrentState) → HasProgress s log placed repaired_session → HasProgress s log placed (next_progress repaired_session)
at_next s log placed repaired_session has = record { run = has.run; lines = has.lines; times = has.times }

-- The facts of a line: how it was checked, and what is counted.
pub record LineFacts (old new : Known) (mid : CurrentState) (entries counts : Summary) (line : List ℕ) (what : Carried) : Type 0 where
  pub mid_is : mid ≡ next_progress old.repaired_session
  pub carries : IsCarried old.settings.max line what
  pub same : new.settings ≡ old.settings
  pub number : new.repaired_session.line ≡ mid.line
  pub counted_so : counts ≡ with_carried entries what
  pub clocks : new.clock ≡ clock_after_line old.settings.t3 mid old.clock what

number_of : (old new : Known) (mid : CurrentState) (entries counts : Summary) (before : List (List ℕ)) (line : List ℕ) (what : Carried)
    → LineFacts old new mid entries counts line what → old.repaired_session.line ≡ counted (length before) → new.repaired_session.line ≡ counted (length before + 1)
number_of old new mid entries counts before line what facts number =
    facts.number ∙ ap (λ (c : CurrentState). c.line) facts.mid_is ∙ ap (λ n. counted (n + 1)) number ∙ counted-more (length before)

mid_has : (old new : Known) (mid : CurrentState) (entries counts : Summary) (line : List ℕ) (what : Carried) (log placed : List Entry)
    → LineFacts old new mid entries counts line what → HasProgress old.settings log placed old.repaired_session → HasProgress old.settings log placed mid
mid_has old new mid entries counts line what log placed facts has =
    let P : CurrentState → Type 0 = λ c. HasProgress old.settings log placed c in
    subst P (sym facts.mid_is) (at_next old.settings log placed old.repaired_session has)

-- If nothing fails, the log is still checked after the line.
can_continue : (old new : Known) (mid : CurrentState) (entries counts : Summary) (before : List (List ℕ)) (line : List ℕ) (what : Carried)
    → LineFacts old new mid entries counts line what → LineFailsBy mid what new.repaired_session None → Tracks old entries before
    → Tracks new counts (before ++ line ∷ [])
can_continue old new mid entries counts before line (carried.Entry step text) facts (is_valid, leads) (log, placed, encoded_bytes, has, number, so_far, still) =
    let entry = entry_by step text.now in
    let what = carried.Entry step text in
    let at_mid = mid_has old new mid entries counts line what log placed facts has in
    let later = leads old.settings log placed at_mid in
    let next = log ++ entry ∷ [] in
    let places = placed ++ at_place mid.line entry ∷ [] in
    let P : Parameters → Type 0 = λ s. EncodesLog (before ++ line ∷ []) s next × HasProgress s next places new.repaired_session in
    let both = subst P (sym facts.same) (encode_more before old.settings log line (Some entry) encoded_bytes facts.carries, later) in
    let size = length-append before (line ∷ []) in (
      next,
      places,
      both.0,
      both.1,
      number_of old new mid entries counts before line (carried.Entry step text) facts number ∙ ap counted (sym size),
      facts.counted_so ∙ ap (λ c. with_entry c entry) so_far ∙ counts_more log entry,
      facts.clocks ∙ ap (λ (c : Clock). clock_after_line old.settings.t3 mid c what) still
          ∙ steady_line old.settings log placed mid entry at_mid (is_valid old.settings log placed at_mid),
    )
can_continue old new mid entries counts before line carried.Nothing facts (none, same) (log, placed, encoded_bytes, has, number, so_far, still) =
    let S : List Entry → Type 0 = λ l. EncodesLog (before ++ line ∷ []) old.settings l in
    let C : CurrentState → Type 0 = λ c. HasProgress old.settings log placed c in
    let more = subst S (append-nil log) (encode_more before old.settings log line None encoded_bytes facts.carries) in
    let later = subst C (sym same) (mid_has old new mid entries counts line carried.Nothing log placed facts has) in
    let P : Parameters → Type 0 = λ s. EncodesLog (before ++ line ∷ []) s log × HasProgress s log placed new.repaired_session in
    let both = subst P (sym facts.same) (more, later) in
    let size = length-append before (line ∷ []) in (
      log,
      placed,
      both.0,
      both.1,
      number_of old new mid entries counts before line carried.Nothing facts number ∙ ap counted (sym size),
      facts.counted_so ∙ so_far,
      facts.clocks ∙ still,
    )
can_continue old new mid entries counts before line (carried.Unreadable reasoned) facts some tracks = absurd cc

-- If the line fails, it fails after the lines before it.
fails_so : (old new : Known) (mid : CurrentState) (entries counts : Summary) (before : List (List ℕ)) (line : List ℕ) (what : Carried) (why : Why)
    → LineFacts old new mid entries counts line what → LineFailsBy mid what new.repaired_session (Some why) → Tracks old entries before
    → FailsAfter before line why
fails_so old new mid entries counts before line (carried.Entry step text) Unreadable facts fails tracks = absurd fails
fails_so old new mid entries counts before line (carried.Entry step text) (Broken rule) facts fails (log, placed, encoded_bytes, has, number, so_far, still) =
    let mid_is = mid_has old new mid entries counts line (carried.Entry step text) log placed facts has in
    fails_after old.settings log before line (Broken rule) encoded_bytes has.run.run (entry_by step text.now, facts.carries, fails old.settings log placed mid_is)
fails_so old new mid entries counts before line carried.Nothing why facts (some, same) tracks = absurd cc
fails_so old new mid entries counts before line (carried.Unreadable reasoned) why facts some (log, placed, encoded_bytes, has, number, so_far, still) =
    let is : why ≡ Unreadable = cc some in
    let P : Why → Type 0 = λ w. FailsAfter before line w in
    subst P (sym is) (fails_after old.settings log before line Unreadable encoded_bytes has.run.run facts.carries)

follows_so : (old new : Known) (mid : CurrentState) (entries counts : Summary) (before : List (List ℕ)) (line : List ℕ) (what : Carried) (first : Option Failed) (why : Option Why)
    → LineFacts old new mid entries counts line what → (old.clock ≡ steady → LineFailsBy mid what new.repaired_session why)
    → MatchOption first (Tracks old entries before) (FailsFirst before)
    → MatchOption (either first (failed_at new.repaired_session.line why)) (Tracks new counts (before ++ line ∷ [])) (FailsFirst (before ++ line ∷ []))
follows_so old new mid entries counts before line what (Some failed) why facts fails after = fails_more before line failed after
follows_so old new mid entries counts before line what None None facts fails after =
    can_continue old new mid entries counts before line what facts (fails after.6) after
follows_so old new mid entries counts before line what None (Some why) facts fails after =
    fails_next before line new.repaired_session.line why
    (number_of old new mid entries counts before line what facts after.4)
    (fails_so old new mid entries counts before line what why facts (fails after.6) after)

-- A line after the first.
pub later_follows : (old new : Known) (mid : CurrentState) (tally next : Tally) (before : List (List ℕ)) (line shown : List ℕ) (what : Carried) (number : ℕ) (why : Option Why)
    → mid ≡ next_progress old.repaired_session → IsShown (line_limit old.settings.max) line shown → IsCarried old.settings.max shown what
    → new.settings ≡ old.settings → new.repaired_session.line ≡ mid.line → number ≡ new.repaired_session.line → next.entries ≡ with_carried tally.entries what
    → next.first ≡ either tally.first (failed_at number why) → (old.clock ≡ steady → LineFailsBy mid what new.repaired_session why)
    → new.clock ≡ clock_after_line old.settings.t3 mid old.clock what → TracksOrFails old tally before → TracksOrFails new next (before ++ line ∷ [])
later_follows old new mid tally next before line shown what number why mid_is is_shown is_carried settings line_is number_is entries first fails clocks after =
    let facts : LineFacts old new mid tally.entries next.entries line what = record {
      mid_is = mid_is;
      carries = carried_shown old.settings.max line shown what is_shown is_carried;
      same = settings;
      number = line_is;
      counted_so = entries;
      clocks = clocks;
    } in
    let lines = before ++ line ∷ [] in
    let P : Option Failed → Type 0 = λ f. MatchOption f (Tracks new next.entries lines) (FailsFirst lines) in
    let Q : ℕ → Type 0 = λ n. MatchOption (either tally.first (failed_at n why)) (Tracks new next.entries lines) (FailsFirst lines) in
    subst P (sym first) (subst Q (sym number_is) (follows_so old new mid tally.entries next.entries before line what tally.first why facts fails after))

-- ---- a line of a log that is not checked

unjudged_first : (known : Known) (tally : Tally) (line : List ℕ) → EncodesSettings line known.settings → HasProgress known.settings [] [] known.repaired_session
    → known.repaired_session.line ≡ 1 → tally.entries ≡ counts_of [] → known.clock ≡ steady → Tracks known tally.entries (line ∷ [])
unjudged_first known tally line encoded_bytes has number entries still = ([], [], (encoded_bytes, refl), has, number, entries, still)

-- The first line, if it encodes settings.
pub first_follows : (known : Known) (tally next : Tally) (so_far : ℕ) (before : List (List ℕ)) (line shown : List ℕ) (settings : Parameters) (first : Option Failed)
    → tally.first ≡ first → next.first ≡ either tally.first None → next.entries ≡ tally.entries
    → IsShown settings_limit line shown → EncodesSettings shown settings → known.settings ≡ settings → HasProgress settings [] [] known.repaired_session
    → known.repaired_session.line ≡ 1 → known.clock ≡ steady
    → MatchOption first ((before ≡ []) × (so_far ≡ 0) × (tally.entries ≡ counts_of [])) (FailsFirst before) → TracksOrFails known next (before ++ line ∷ [])
first_follows known tally next so_far before line shown settings (Some failed) first next_is entries is_shown encoded_bytes same has number still after =
    let lines = before ++ line ∷ [] in
    let P : Option Failed → Type 0 = λ f. MatchOption f (Tracks known next.entries lines) (FailsFirst lines) in
    let is : next.first ≡ Some failed = next_is ∙ ap (λ f. either f None) first in
    subst P (sym is) (fails_more before line failed after)
first_follows known tally next so_far before line shown settings None first next_is entries is_shown encoded_bytes same has number still (none, zero_is, none_yet) =
    let lines = before ++ line ∷ [] in
    let P : Option Failed → Type 0 = λ f. MatchOption f (Tracks known next.entries lines) (FailsFirst lines) in
    let is : next.first ≡ None = next_is ∙ ap (λ f. either f None) first in
    let S : Parameters → Type 0 = λ s. EncodesSettings line s × HasProgress s [] [] known.repaired_session in
    let both = subst S (sym same) (encoded_shown line shown settings is_shown encoded_bytes, has) in
    let L : List (List ℕ) → Type 0 = λ l. Tracks known next.entries (l ++ line ∷ []) in
    subst P (sym is) (subst L (sym none) (unjudged_first known next line both.0 both.1 number (entries ∙ none_yet) still))

-- The first line, if it encodes no settings.
pub first_fails : (tally next : Tally) (so_far number : ℕ) (before : List (List ℕ)) (line shown : List ℕ) (first : Option Failed)
    → tally.first ≡ first → next.first ≡ either tally.first (Some (record { line = 1; why = Unreadable }))
    → IsShown settings_limit line shown → ((s : Parameters) → EncodesSettings shown s → ⊥)
    → MatchOption first ((before ≡ []) × (so_far ≡ 0) × (tally.entries ≡ counts_of [])) (FailsFirst before) → BeginsOrFails number next (before ++ line ∷ [])
first_fails tally next so_far number before line shown (Some failed) first next_is is_shown none after =
    let lines = before ++ line ∷ [] in
    let P : Option Failed → Type 0 = λ f. MatchOption f ((lines ≡ []) × (number ≡ 0) × (next.entries ≡ counts_of [])) (FailsFirst lines) in
    let is : next.first ≡ Some failed = next_is ∙ ap (λ f. either f (Some (record { line = 1; why = Unreadable }))) first in
    subst P (sym is) (fails_more before line failed after)
first_fails tally next so_far number before line shown None first next_is is_shown none (no_line, zero_is, none_yet) =
    let lines = before ++ line ∷ [] in
    let P : Option Failed → Type 0 = λ f. MatchOption f ((lines ≡ []) × (number ≡ 0) × (next.entries ≡ counts_of [])) (FailsFirst lines) in
    let is : next.first ≡ Some (record { line = 1; why = Unreadable }) = next_is ∙ ap (λ f. either f (Some (record { line = 1; why = Unreadable }))) first in
    let L : List (List ℕ) → Type 0 = λ l. FailsFirst (l ++ line ∷ []) (record { line = 1; why = Unreadable }) in
    subst P (sym is) (subst L (sym no_line) (fails_next [] line 1 Unreadable refl (unspelled_shown line shown is_shown none, refl)))

-- A line after an unreadable first line.
pub further_fails : (tally next : Tally) (so_far number : ℕ) (before : List (List ℕ)) (line : List ℕ) (first : Option Failed)
    → tally.first ≡ first → next.first ≡ either tally.first None → 0 < so_far
    → MatchOption first ((before ≡ []) × (so_far ≡ 0) × (tally.entries ≡ counts_of [])) (FailsFirst before) → BeginsOrFails number next (before ++ line ∷ [])
further_fails tally next so_far number before line (Some failed) first next_is more after =
    let lines = before ++ line ∷ [] in
    let P : Option Failed → Type 0 = λ f. MatchOption f ((lines ≡ []) × (number ≡ 0) × (next.entries ≡ counts_of [])) (FailsFirst lines) in
    let is : next.first ≡ Some failed = next_is ∙ ap (λ f. either f None) first in
    subst P (sym is) (fails_more before line failed after)
further_fails tally next so_far number before line None first next_is more (no_line, zero_is, none_yet) = absurd (omega (arith, more, zero_is))
