-- A text that encodes no settings of version 2 is audited as a text of version 1.
use Rattle.std.proofs.Common.{◌≡◌, ◌≢◌, ◌++◌, inl, inr, ℕ, List, [], ◌∷◌, length, Some, sym, ap, ◌∙◌, subst, arith}
use Rattle.std.specs.Prelude.{◌↔◌, codes, decimal}
use Rattle.std.specs.List.{filter_map, join_with_byte}
use Rattle.std.proofs.lemmas.Fmt.{decimal_digit}
use Rattle.hsms_machine.specs.declared.entry.Entry.{Entry}
use Rattle.hsms_machine.specs.Settings.{Parameters}
use Rattle.hsms_machine.specs.Transaction.{SentData, opened_as}
use Rattle.hsms_machine.specs.Run.{IsRun}
use Rattle.hsms_machine.specs.View.{open_entries}
use Rattle.hsms_machine.specs.Laws.{VersionOneKeepsRuns, VersionOneKeepsAnswers, VersionOneIsOneConnection}
use Rattle.hsms_log.specs.declared.verdict.Why.{Why}
use Rattle.hsms_log.specs.declared.verdict.Why.TheVariants.{Unreadable, Broken}
use Rattle.hsms_log.specs.declared.verdict.Summary.{Summary}
use Rattle.hsms_log.specs.declared.verdict.Verdict.{Verdict}
use Rattle.hsms_log.specs.declared.verdict.Verdict.TheVariants.{Pass, Fail}
use Rattle.hsms_log.specs.LineFormat.{EncodesSettings, settings_line, role_word, link_word}
use Rattle.hsms_log.specs.Log.{EncodesLog}
use Rattle.hsms_log.specs.Verdict.{EncodesRun, FailsRun, FailsAfter, LinesAudited, summary_of}
use Rattle.hsms_log.specs.VersionOne.{settings_line_of_one, EncodesSettingsOfOne, EncodesLogOfOne, EncodesRunOfOne, FailsRunOfOne, FailsAfterOfOne, LinesAuditedOfOne, EncodesNoVersionTwo, summary_of_one}

-- What the laws of the session machine state about version 1.
pub record OneLaws : Type 0 where
  pub runs : VersionOneKeepsRuns
  pub answers : VersionOneKeepsAnswers
  pub whole : VersionOneIsOneConnection

-- ---- the first line

line_of_one : (s : Parameters) → s.version ≡ 1 → settings_line s ≡ settings_line_of_one s
unfolding settings_line settings_line_of_one
line_of_one s one =
    ap (λ w. join_with_byte 32 (codes "hsms-log" ∷ w ∷ role_word s.role ∷ link_word s.link ∷ decimal s.device
    ∷ decimal s.t3 ∷ decimal s.t6 ∷ decimal s.t7 ∷ decimal s.t8 ∷ decimal s.max ∷ decimal s.depth ∷ []))
    (ap decimal one ∙ decimal_digit 1 (omega arith))

encodes_of_one : (line : List ℕ) (s : Parameters) → s.version ≡ 1 → EncodesSettings line s → EncodesSettingsOfOne line s
encodes_of_one line s one h = record { version = one; within = h.within; fits = h.fits; encoded_bytes = h.encoded_bytes ∙ line_of_one s one }

encodes_from_one : (line : List ℕ) (s : Parameters) → EncodesSettingsOfOne line s → EncodesSettings line s
encodes_from_one line s h = record { within = h.within; fits = h.fits; encoded_bytes = h.encoded_bytes ∙ sym (line_of_one s h.version) }

version_is : (line : List ℕ) (s : Parameters) → ((t : Parameters) → EncodesSettings line t → t.version ≢ 2) → EncodesSettings line s → s.version ≡ 1
version_is line s never h =
    let least = h.within.least_version in
    let greatest = h.within.greatest_version in
    let other = never s h in
    omega (arith, least, greatest, other)

-- ---- runs

log_of_one : (lines : List (List ℕ)) (s : Parameters) (log : List Entry) → EncodesNoVersionTwo lines → EncodesLog lines s log
    → (s.version ≡ 1) × EncodesLogOfOne lines s log
log_of_one [] s log never h = absurd h
log_of_one (first ∷ others) s log never h =
    let one = version_is first s never h.0 in (one, (encodes_of_one first s one h.0, h.1))

log_from_one : (lines : List (List ℕ)) (s : Parameters) (log : List Entry) → EncodesLogOfOne lines s log → (s.version ≡ 1) × EncodesLog lines s log
log_from_one [] s log h = absurd h
log_from_one (first ∷ others) s log h = (h.0.version, (encodes_from_one first s h.0, h.1))

run_of_one : (laws : OneLaws) (lines : List (List ℕ)) (s : Parameters) (log : List Entry) → EncodesNoVersionTwo lines → EncodesRun lines s log
    → (s.version ≡ 1) × EncodesRunOfOne lines s log
run_of_one laws lines s log never h =
    let encoded_bytes = log_of_one lines s log never h.encoded_bytes in
    (encoded_bytes.0, record { encoded_bytes = encoded_bytes.1; run = (laws.runs s log encoded_bytes.0).0 h.run })

run_from_one : (laws : OneLaws) (lines : List (List ℕ)) (s : Parameters) (log : List Entry) → EncodesRunOfOne lines s log → (s.version ≡ 1) × EncodesRun lines s log
run_from_one laws lines s log h =
    let encoded_bytes = log_from_one lines s log h.encoded_bytes in
    (encoded_bytes.0, record { encoded_bytes = encoded_bytes.1; run = (laws.runs s log encoded_bytes.0).1 h.run })

summary_is : (laws : OneLaws) (s : Parameters) (log : List Entry) → s.version ≡ 1 → IsRun s log → summary_of log ≡ summary_of_one log
summary_is laws s log one run =
    let F : List Entry → Summary = λ l. record (summary_of log) { waiting = length (filter_map (opened_as SentData) (open_entries l)) } in
    ap F (laws.whole s log one run)

-- ---- failures

fails_of_one : (laws : OneLaws) (s : Parameters) (log : List Entry) (line : List ℕ) (why : Why) → s.version ≡ 1 → IsRun s log
    → FailsRun s log line why → FailsRunOfOne s log line why
fails_of_one laws s log line Unreadable one run fails = fails
fails_of_one laws s log line (Broken rule) one run (entry, carries, breaks) =
    (entry, carries, (laws.answers s log entry (Some rule) one run).0 breaks)

fails_from_one : (laws : OneLaws) (s : Parameters) (log : List Entry) (line : List ℕ) (why : Why) → s.version ≡ 1 → IsRun s log
    → FailsRunOfOne s log line why → FailsRun s log line why
fails_from_one laws s log line Unreadable one run fails = fails
fails_from_one laws s log line (Broken rule) one run (entry, carries, breaks) =
    (entry, carries, (laws.answers s log entry (Some rule) one run).1 breaks)

after_of_one : (laws : OneLaws) (before : List (List ℕ)) (line : List ℕ) (after : List (List ℕ)) (why : Why) → EncodesNoVersionTwo (before ++ line ∷ after)
    → FailsAfter before line why → FailsAfterOfOne before line why
after_of_one laws [] line after why never fails = (λ s h. fails.0 s (encodes_from_one line s h), fails.1)
after_of_one laws (first ∷ others) line after why never (s, log, encoded_bytes, fails) =
    let run = run_of_one laws (first ∷ others) s log never encoded_bytes in
    (s, log, run.1, fails_of_one laws s log line why run.0 encoded_bytes.run fails)

after_from_one : (laws : OneLaws) (before : List (List ℕ)) (line : List ℕ) (after : List (List ℕ)) (why : Why) → EncodesNoVersionTwo (before ++ line ∷ after)
    → FailsAfterOfOne before line why → FailsAfter before line why
after_from_one laws [] line after why never fails =
    (λ s h. fails.0 s (encodes_of_one line s (version_is line s never h) h), fails.1)
after_from_one laws (first ∷ others) line after why never (s, log, encoded_bytes, fails) =
    let run = run_from_one laws (first ∷ others) s log encoded_bytes in
    (s, log, run.1, fails_from_one laws s log line why run.0 run.1.run fails)

-- ---- verdicts

audited_of_one : (laws : OneLaws) (lines : List (List ℕ)) (verdict : Verdict) → EncodesNoVersionTwo lines → LinesAudited lines verdict → LinesAuditedOfOne lines verdict
audited_of_one laws lines (Pass summary) never (s, log, encoded_bytes, is) =
    let run = run_of_one laws lines s log never encoded_bytes in
    (s, log, run.1, is ∙ summary_is laws s log run.0 encoded_bytes.run)
audited_of_one laws lines (Fail n why) never (inl (before, line, after, split, number, fails)) =
    let P : List (List ℕ) → Type 0 = λ l. EncodesNoVersionTwo l in
    inl (before, line, after, split, number, after_of_one laws before line after why (subst P split never) fails)
audited_of_one laws lines (Fail n why) never (inr none) = inr none

audited_from_one : (laws : OneLaws) (lines : List (List ℕ)) (verdict : Verdict) → EncodesNoVersionTwo lines → LinesAuditedOfOne lines verdict → LinesAudited lines verdict
audited_from_one laws lines (Pass summary) never (s, log, encoded_bytes, is) =
    let run = run_from_one laws lines s log encoded_bytes in
    (s, log, run.1, is ∙ sym (summary_is laws s log run.0 run.1.run))
audited_from_one laws lines (Fail n why) never (inl (before, line, after, split, number, fails)) =
    let P : List (List ℕ) → Type 0 = λ l. EncodesNoVersionTwo l in
    inl (before, line, after, split, number, after_from_one laws before line after why (subst P split never) fails)
audited_from_one laws lines (Fail n why) never (inr none) = inr none

-- The verdict is the same.
pub same_verdicts : (laws : OneLaws) (lines : List (List ℕ)) (verdict : Verdict) → EncodesNoVersionTwo lines → LinesAudited lines verdict ↔ LinesAuditedOfOne lines verdict
same_verdicts laws lines verdict never = (audited_of_one laws lines verdict never, audited_from_one laws lines verdict never)
