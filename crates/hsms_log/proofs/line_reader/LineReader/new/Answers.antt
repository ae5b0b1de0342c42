use Rattle.hsms_log.proofs.AuditInvariants.{begins}
use Rattle.hsms_log.proofs.line_reader.LineReader.new.Goals as goal

pub returns-clause-consistent : goal.returns-clause-consistent
returns-clause-consistent c = begins c.new.result c.new-2.result.items c.new-2.ensures.items c.new.ensures
