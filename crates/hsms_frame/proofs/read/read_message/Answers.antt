use Rattle.std.proofs.Common.{arith, ℕ, List, drop, Some, Err, subst, ap, ◌∙◌}
use Rattle.std.proofs.lemmas.Result.{err_from_is_err_and}
use Rattle.std.proofs.lemmas.List.{length-drop}
use Rattle.hsms_frame.specs.Frame.{IsOctets}
use Rattle.hsms_frame.proofs.FramedMessages.{subsequent}
use Rattle.hsms_frame.proofs.Counted.{whole_as_long, whole_as_none, whole_as_short, whole_as_some, whole_fails, whole_stops, whole_then}
use Rattle.hsms_frame.proofs.Determined.{one_result_recorded}
use Rattle.hsms_frame.proofs.ReadResults.{subsequent-drop, cut_at_length, cut_at_header, cut_at_text, too_short, too_long, read_whole}
use Rattle.hsms_frame.proofs.read.read_message.Goals as goal

pub returns-in_err-length-clause-answer : goal.returns-in_err-length-clause-answer
returns-in_err-length-clause-answer g c = λ input known_input.
    let p = err_from_is_err_and c.from_residual.result c.from_residual.ensures.1 in
    rw (p.1, p.2) (cut_at_length _ _ _ _ (c.in_err-length.ensures.answer input known_input))

pub returns-in_default-clause-answer : goal.returns-in_default-clause-answer
returns-in_default-clause-answer g c = λ input known_input. rw c.in_default.is at (c.in_ok-length.ensures.answer input known_input)

pub returns-then-length-clause-answer : goal.returns-then-length-clause-answer
returns-then-length-clause-answer g c = λ input known_input.
    let a = rw c.in-Some.is at (c.in_ok-length.ensures.answer input known_input) in
    (too_short input _ a.0 (c.from.ensures ∙ a.1) (omega arith), a.3)

pub returns-in_err-read_all-clause-answer : goal.returns-in_err-read_all-clause-answer
returns-in_err-read_all-clause-answer g c = λ input known_input.
    let a = rw c.in-Some.is at (c.in_ok-length.ensures.answer input known_input) in
    let p = err_from_is_err_and c.from_residual-in_err-read_all.result c.from_residual-in_err-read_all.ensures.1 in
    rw (p.1, p.2) (cut_at_header {T = Unit {0}} (λ _. c.read_all.new.into) _ _ _ _ a.0 (omega (arith, a.1)) a.2
    (λ ample. c.in_err-read_all.ensures.memory (ap Err ample)) (c.in_err-read_all.ensures.answer (drop 4 input) a.3))

pub returns-then-length-max-clause-answer : goal.returns-then-length-max-clause-answer
returns-then-length-max-clause-answer g c = λ input known_input.
    let a = rw c.in-Some.is at (c.in_ok-length.ensures.answer input known_input) in
    let b = c.in_ok-read_all.ensures.answer (drop 4 input) a.3 in (
      too_long _ input _ _ (omega (arith, a.0, b.0, length-drop 4 input)) (c.from-then-length-max.ensures ∙ a.1)
          (c.of-header.ensures.encoded_bytes ∙ b.1) c.of-header.ensures.fits (omega arith) (omega arith),
      b.3 ∙ ap Some (subsequent-drop input),
    )

pub returns-in_err-text-clause-answer : goal.returns-in_err-text-clause-answer
returns-in_err-text-clause-answer g c = λ input known_input.
    let a = rw c.in-Some.is at (c.in_ok-length.ensures.answer input known_input) in
    let b = c.in_ok-read_all.ensures.answer (drop 4 input) a.3 in
    let P : List ℕ → Type 0 = λ xs. IsOctets xs in
    let p = err_from_is_err_and c.from_residual-in_err-text.result c.from_residual-in_err-text.ensures.1 in
    rw (p.1, p.2) (cut_at_text (λ t. t) _ input _ _ _ (omega (arith, a.0, b.0, length-drop 4 input)) a.1 (omega arith) (omega arith) a.2
    (subst P b.1 b.2) (c.in_err-text.ensures.answer (subsequent input) b.3))

pub returns-clause-answer : goal.returns-clause-answer
returns-clause-answer g c = λ input known_input.
    let a = rw c.in-Some.is at (c.in_ok-length.ensures.answer input known_input) in
    let b = c.in_ok-read_all.ensures.answer (drop 4 input) a.3 in
    read_whole _ input _ _ _ _ (omega (arith, a.0, b.0, length-drop 4 input)) a.1 (omega arith) (omega arith) (omega arith) a.2
    (c.of-header.ensures.encoded_bytes ∙ b.1) c.of-header.ensures.fits (c.in_ok-text.ensures.answer (subsequent input) b.3)

pub returns-in_err-length-clause-only : goal.returns-in_err-length-clause-only
returns-in_err-length-clause-only g c = one_result_recorded _ _ _ _ (returns-in_err-length-clause-answer g c)

pub returns-in_default-clause-only : goal.returns-in_default-clause-only
returns-in_default-clause-only g c = one_result_recorded _ _ _ _ (returns-in_default-clause-answer g c)

pub returns-then-length-clause-only : goal.returns-then-length-clause-only
returns-then-length-clause-only g c = one_result_recorded _ _ _ _ (returns-then-length-clause-answer g c)

pub returns-in_err-read_all-clause-only : goal.returns-in_err-read_all-clause-only
returns-in_err-read_all-clause-only g c = one_result_recorded _ _ _ _ (returns-in_err-read_all-clause-answer g c)

pub returns-then-length-max-clause-only : goal.returns-then-length-max-clause-only
returns-then-length-max-clause-only g c = one_result_recorded _ _ _ _ (returns-then-length-max-clause-answer g c)

pub returns-in_err-text-clause-only : goal.returns-in_err-text-clause-only
returns-in_err-text-clause-only g c = one_result_recorded _ _ _ _ (returns-in_err-text-clause-answer g c)

pub returns-clause-only : goal.returns-clause-only
returns-clause-only g c = one_result_recorded _ _ _ _ (returns-clause-answer g c)

pub returns-in_err-length-clause-counts : goal.returns-in_err-length-clause-counts
returns-in_err-length-clause-counts g c = whole_fails _ _ _ _ c.from_residual.ensures.1 c.in_err-length.ensures.counts

pub returns-in_default-clause-counts : goal.returns-in_default-clause-counts
returns-in_default-clause-counts g c = whole_as_none _ _ (rw c.in_default.is at c.in_ok-length.ensures.counts)

pub returns-then-length-clause-counts : goal.returns-then-length-clause-counts
returns-then-length-clause-counts g c = whole_as_short _ _ _ _ (rw c.in-Some.is at c.in_ok-length.ensures.counts)

pub returns-in_err-read_all-clause-counts : goal.returns-in_err-read_all-clause-counts
returns-in_err-read_all-clause-counts g c =
    whole_stops _ _ _ _ _ _ c.from_residual-in_err-read_all.ensures.1 (rw c.in-Some.is at c.in_ok-length.ensures.counts) c.in_err-read_all.ensures.counts

pub returns-then-length-max-clause-counts : goal.returns-then-length-max-clause-counts
returns-then-length-max-clause-counts g c =
    whole_as_long _ _ _ _ _ (whole_then _ _ _ _ _ (rw c.in-Some.is at c.in_ok-length.ensures.counts) c.in_ok-read_all.ensures.counts)

pub returns-in_err-text-clause-counts : goal.returns-in_err-text-clause-counts
returns-in_err-text-clause-counts g c =
    let first = whole_then _ _ _ _ _ (rw c.in-Some.is at c.in_ok-length.ensures.counts) c.in_ok-read_all.ensures.counts in
    whole_stops _ _ _ _ _ _ c.from_residual-in_err-text.ensures.1 first c.in_err-text.ensures.counts

pub returns-clause-counts : goal.returns-clause-counts
returns-clause-counts g c =
    let first = whole_then _ _ _ _ _ (rw c.in-Some.is at c.in_ok-length.ensures.counts) c.in_ok-read_all.ensures.counts in
    whole_as_some _ _ _ _ (whole_then _ _ _ _ _ first c.in_ok-text.ensures.counts)
