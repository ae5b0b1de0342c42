-- What is told where verdicts are.
use Rattle.std.proofs.Common.{◌≡◌, Option, Some, sym, subst}
use Rattle.std.specs.Prelude.{Result, Ok, Err, OnOk}
use Rattle.capture_log.specs.declared.both_logs.BothLogs.{BothLogs}
use Rattle.capture_log.specs.declared.socket_pair.Pair.{Pair}
use Rattle.cli_capture.specs.declared.report.OutputMode.{OutputMode}
use Rattle.cli_capture.specs.declared.report.OutputMode.TheVariants.{Verdicts}
use Rattle.cli_capture.specs.declared.report.Report.{Report}
use Rattle.capture_errors.specs.declared.incomplete.Shortfall.{Shortfall}
use Rattle.cli_capture.specs.InnerReport.{TellsBy, TellsVerdicts}

pub emits_by : {E : Type 0} (result : Result (Unit {0}) E) (manner : OutputMode) (pair : Pair) (shortfall : Option Shortfall)
    → (found : Option BothLogs) (ends : BothLogs) (old new : Report) → manner ≡ Verdicts → found ≡ Some ends
    → OnOk result (TellsVerdicts pair shortfall (Some ends) old new) → OnOk result (TellsBy manner pair shortfall found old new)
emits_by (Ok done) manner pair shortfall found ends old new emitted is emits =
    subst (λ m. TellsBy m pair shortfall found old new) (sym emitted)
    (subst (λ f. TellsVerdicts pair shortfall f old new) (sym is) emits)
emits_by (Err fault) manner pair shortfall found ends old new emitted is emits = emits
