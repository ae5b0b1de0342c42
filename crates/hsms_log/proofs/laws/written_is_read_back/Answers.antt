use Rattle.hsms_log.proofs.Written.{entry_read_back, settings_read_back}
use Rattle.hsms_log.proofs.laws.written_is_read_back.Goals as goal

pub returns-clause-entries : goal.returns-clause-entries
returns-clause-entries c = entry_read_back

pub returns-clause-settings : goal.returns-clause-settings
returns-clause-settings c = settings_read_back
