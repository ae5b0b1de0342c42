-- The verdict on the processed lines.
use Rattle.std.proofs.Common.{◌≡◌, ◌≤◌, ◌^◌, inl, inr, ℕ, List, [], ◌∷◌, length, Some, None, refl, sym, ap, ◌∙◌, subst, arith, length-append}
use Rattle.std.proofs.lemmas.List.Sums.{count_by-le-length}
use Rattle.std.specs.Prelude.{Option, option_to_list, count_by, MatchOption}
use Rattle.hsms_machine.specs.declared.entry.Entry.{Entry}
use Rattle.hsms_machine.specs.Settings.{Parameters}
use Rattle.hsms_machine.specs.Transaction.{SentData}
use Rattle.hsms_machine.specs.View.{open_of, waiting_of}
use Rattle.hsms_log.specs.declared.verdict.Summary.{Summary}
use Rattle.hsms_log.specs.Log.{CarryLog, EncodesLog}
use Rattle.hsms_log.specs.Verdict.{LineFails, LinesAudited, summary_of, is_sent, is_taken, is_discarded, is_expired}
use Rattle.hsms_log.proofs.RuleCheckLaws.{waiting_is}
use Rattle.explain_session.specs.declared.context.Known.{Known}
use Rattle.explain_statistics.specs.declared.failure_counts.Failed.{Failed}
use Rattle.explain_lines.specs.Counted.{counted}
use Rattle.explain_statistics.specs.EntryCounts.{counts_of}
use Rattle.explain_statistics.specs.FirstFailure.{unjudged_by, verdict_by}
use Rattle.explain_statistics.specs.InnerFirstFailure.{FailsFirst}
use Rattle.cli_explain.specs.InnerLinesProcessed.{Tracks}

-- ---- counts that are exact

one_carried : (carried : Option Entry) → length (option_to_list carried) ≤ 1
one_carried None = omega arith
one_carried (Some entry) = omega arith

carry_size : (max : ℕ) (lines : List (List ℕ)) (log : List Entry) → CarryLog max lines log → length log ≤ length lines
carry_size max [] log is = omega (arith, ap length is)
carry_size max (line ∷ lines) log (carried, later, carries, more, is) =
    let size = length-append (option_to_list carried) later in
    omega (arith, ap length is, size, one_carried carried, carry_size max lines later more)

encoding_size : (lines : List (List ℕ)) (s : Parameters) (log : List Entry) → EncodesLog lines s log → length log ≤ length lines
encoding_size [] s log encoded_bytes = absurd encoded_bytes
encoding_size (first ∷ others) s log (settings, carry) = let few = carry_size s.max others log carry in omega (arith, few)

exact : (n most : ℕ) → n ≤ most → most ≤ 2 ^ 63 → counted n ≡ n
exact n most few small = omega (arith, few, small)

summary_is : (log : List Entry) (most waiting : ℕ) → length log ≤ most → most ≤ 2 ^ 63 → waiting ≡ length (open_of SentData log)
    → record (counts_of log) { waiting = waiting } ≡ summary_of log
summary_is log most waiting few small waits =
    let all = exact (length log) most few small in
    let sent_few = count_by-le-length (λ (e : Entry). is_sent e.event) log in
    let taken_few = count_by-le-length (λ (e : Entry). is_taken e.event) log in
    let discarded_few = count_by-le-length (λ (e : Entry). is_discarded e.event) log in
    let expired_few = count_by-le-length (λ (e : Entry). is_expired e.event) log in
    let sent = exact (count_by (λ (e : Entry). is_sent e.event) log) (length log) sent_few (omega (arith, few, small)) in
    let taken = exact (count_by (λ (e : Entry). is_taken e.event) log) (length log) taken_few (omega (arith, few, small)) in
    let discarded = exact (count_by (λ (e : Entry). is_discarded e.event) log) (length log) discarded_few (omega (arith, few, small)) in
    let expired = exact (count_by (λ (e : Entry). is_expired e.event) log) (length log) expired_few (omega (arith, few, small)) in
    cc (all, sent, taken, discarded, expired, waits)

-- ---- the verdict

fails_exact : (lines : List (List ℕ)) (failed : Failed) → length lines ≤ 2 ^ 63 → FailsFirst lines failed → LineFails lines failed.line failed.why
fails_exact lines failed small (n, is, few, fails) =
    let P : ℕ → Type 0 = λ k. LineFails lines k failed.why in
    subst P (sym (is ∙ exact n (length lines) few small)) fails

pub checked_verdict : (known : Known) (entries : Summary) (lines : List (List ℕ)) (waiting : ℕ) (first : Option Failed)
    → waiting ≡ waiting_of known.repaired_session.tracker → length lines ≤ 2 ^ 63 → MatchOption first (Tracks known entries lines) (FailsFirst lines)
    → LinesAudited lines (verdict_by first entries waiting)
checked_verdict known entries lines waiting (Some failed) waits small after = inl (fails_exact lines failed small after)
checked_verdict known entries lines waiting None waits small (log, placed, encoded_bytes, has, number, so_far, still) =
    let few = encoding_size lines known.settings log encoded_bytes in
    let open_is = waits ∙ waiting_is known.settings log known.repaired_session.tracker has.run in (
      known.settings,
      log,
      record { encoded_bytes = encoded_bytes; run = has.run.run },
      ap (λ (s : Summary). record s { waiting = waiting }) so_far ∙ summary_is log (length lines) waiting few small open_is,
    )

pub unjudged_verdict : (so_far : ℕ) (entries : Summary) (lines : List (List ℕ)) (first : Option Failed) → length lines ≤ 2 ^ 63
    → MatchOption first ((lines ≡ []) × (so_far ≡ 0) × (entries ≡ counts_of [])) (FailsFirst lines) → LinesAudited lines (unjudged_by first)
unjudged_verdict so_far entries lines (Some failed) small after = inl (fails_exact lines failed small after)
unjudged_verdict so_far entries lines None small (none, zero_is, none_yet) = inr (none, refl, refl)
