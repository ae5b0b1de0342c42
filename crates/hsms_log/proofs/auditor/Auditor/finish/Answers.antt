use Rattle.hsms_log.proofs.Auditors.{found_audits}
use Rattle.hsms_log.proofs.auditor.Auditor.finish.Goals as goal

pub returns-in-Some : goal.returns-in-Some
returns-in-Some c = λ text reception. found_audits c.args.self.found c.in-Some.verdict c.args.self.reader text c.in-Some.is reception
