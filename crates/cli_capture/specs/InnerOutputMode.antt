-- What only contracts of private functions use, besides the definitions of `OutputMode`.
use Rattle.std.specs.Prelude.{◌≡◌}
use Rattle.hsms_machine.specs.Settings.{Parameters}
use Rattle.capture_log.specs.declared.written_log.WrittenLog.{WrittenLog}
use Rattle.cli_capture.specs.declared.report.OutputMode.{OutputMode}
use Rattle.cli_capture.specs.declared.report.OutputMode.TheVariants.{Log, Verdicts}
use Rattle.cli_capture.specs.declared.report.Report.{Report}
use Rattle.cli_capture.specs.OutputMode.{Way, to_verdicts, to_log}

-- the log of an end by these settings is told, or verdicts are
abbrev pub TellsTo : Way → OutputMode → Type 0
TellsTo to_verdicts manner = manner ≡ Verdicts
TellsTo (to_log settings side) manner = (j : WrittenLog) × (manner ≡ Log j) × (j.settings ≡ settings) × (j.side ≡ side)

pub record IsReport (how : Way) (a p : Parameters) (report : Report) : Type 0 where
  pub manner_is : TellsTo how report.manner
  pub active : report.active ≡ a
  pub passive : report.passive ≡ p
