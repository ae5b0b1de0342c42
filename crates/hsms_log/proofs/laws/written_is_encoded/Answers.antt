use Rattle.hsms_log.proofs.Written.{entry_written, settings_written}
use Rattle.hsms_log.proofs.laws.written_is_encoded.Goals as goal

pub returns-clause-entries : goal.returns-clause-entries
returns-clause-entries c = entry_written

pub returns-clause-settings : goal.returns-clause-settings
returns-clause-settings c = settings_written
