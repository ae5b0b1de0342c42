use Rattle.std.proofs.Common.{take, drop, refl, sym}
use Rattle.hsms_machine.proofs.Runs.{on_err}
use Rattle.hsms_log.specs.LineContent.{EncodesFramesOnly}
use Rattle.hsms_log.proofs.EntryLaws.{entry_unread}
use Rattle.hsms_log.proofs.FrameLines.{frame_found, frame_short, frame_unmarked, frame_unread, frame_marked}
use Rattle.hsms_log.proofs.reading.frame_at_front.Goals as goal

pub returns-clause-found : goal.returns-clause-found
returns-clause-found c =
    let encoded_bytes = rw c.in-Some-2.is at c.in_ok-header.ensures.found in
    frame_found c.args.line.now c.in-Some.text.now c.in-Some-mark_at.digits.now c.in-Some.time c.in-Some-mark_at.mark c.in-Some-2.header
    (drop 10 (take c.in-Some-2.length c.read_octets.new.octets.items)) (sym c.in-Some.ensures) c.in-Some-mark_at.ensures.found encoded_bytes

pub returns-then-line-lt-SHORTEST-clause-none : goal.returns-then-line-lt-SHORTEST-clause-none
returns-then-line-lt-SHORTEST-clause-none c = λ e. frame_short c.args.line.now c.if-line-lt-SHORTEST.true

pub returns-in_default-clause-none : goal.returns-in_default-clause-none
returns-in_default-clause-none c = λ e entry encoded_bytes framed. entry_unread c.args.line.now (sym c.in_default.ensures) entry encoded_bytes

pub returns-in_default-mark_at-clause-none : goal.returns-in_default-mark_at-clause-none
returns-in_default-mark_at-clause-none c =
    λ e. frame_unmarked c.args.line.now c.in-Some.text.now c.in-Some.time (sym c.in-Some.ensures) c.in_default-mark_at.ensures.none

pub returns-in_default-2-clause-none : goal.returns-in_default-2-clause-none
returns-in_default-2-clause-none c =
    let none = rw c.in_default-2.is at c.in_ok-header.ensures.none in
    λ e. frame_unread c.args.line.now c.in-Some.text.now c.in-Some-mark_at.digits.now c.in-Some.time c.in-Some-mark_at.mark
    (sym c.in-Some.ensures) c.in-Some-mark_at.ensures.found (none refl)

pub returns-in_err-header-clause-memory : goal.returns-in_err-header-clause-memory
returns-in_err-header-clause-memory c =
    let marked : EncodesFramesOnly c.args.line.now =
    frame_marked c.args.line.now c.in-Some.text.now c.in-Some-mark_at.digits.now c.in-Some.time c.in-Some-mark_at.mark
    (sym c.in-Some.ensures) c.in-Some-mark_at.ensures.found in
    on_err (EncodesFramesOnly c.args.line.now) c.from_residual.result marked
