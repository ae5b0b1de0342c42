use Rattle.std.proofs.Common.{[], sym}
use Rattle.hsms_log.specs.Step.{event_of}
use Rattle.hsms_log.proofs.EntryLaws.{entry_found, entry_unread, event_after}
use Rattle.hsms_log.proofs.reading.read_plain_line.Goals as goal

pub returns-in_err-time-clause-none : goal.returns-in_err-time-clause-none
returns-in_err-time-clause-none c =
    rw c.from_residual.ensures (λ entry encoded_bytes. absurd (entry_unread c.args.line.now (sym c.in_err-time.ensures) entry encoded_bytes))

pub returns-in_err-what-clause-none : goal.returns-in_err-what-clause-none
returns-in_err-what-clause-none c =
    rw c.from_residual-in_err-what.ensures
    (λ entry encoded_bytes. let both = event_after c.args.line.now c.in_ok-time.text.now c.in_ok-time.time (sym c.in_ok-time.ensures) entry encoded_bytes in
    c.in_err-what.ensures.none entry.event both.0 both.1)

pub returns-clause-found : goal.returns-clause-found
returns-clause-found c =
    entry_found c.args.line.now c.in_ok-time.text.now c.in_ok-time.time (event_of c.in_ok-what.what []) (sym c.in_ok-time.ensures)
    c.in_ok-what.ensures.found.0 c.in_ok-what.ensures.found.1
