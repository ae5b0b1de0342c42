use Rattle.std.proofs.Common.{[]}
use Rattle.hsms_log.proofs.AuditInvariants.{audited_onward}
use Rattle.hsms_log.proofs.line_reader.audit_text.Goals as goal

pub returns-in-Some : goal.returns-in-Some
returns-in-Some c =
    let fails = rw c.in-Some.is at c.in_ok-failure.ensures.fails in
    audited_onward c.args.text.now c.in-Some.failure (fails [] c.new-reader.ensures.consistent)
