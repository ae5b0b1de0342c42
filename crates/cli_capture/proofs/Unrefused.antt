-- Where verdicts are told, nothing is refused before the end.
use Rattle.std.proofs.Common.{◌≡◌, ◌∙◌, sym, subst}
use Rattle.std.specs.Prelude.{Result, Ok, Err, IfErr}
use Rattle.capture_log.specs.declared.written_log.WrittenLog.{WrittenLog}
use Rattle.capture_log.specs.declared.stop.Stop.{Stop}
use Rattle.capture_log.specs.declared.stop.Stop.TheVariants as stop
use Rattle.capture_log.specs.Stop.{IsNoRefusal}
use Rattle.cli_capture.specs.declared.report.OutputMode.TheVariants.{Log, Verdicts}
use Rattle.cli_capture.specs.declared.report.Report.{Report}
use Rattle.cli_capture.specs.InnerLogRejection.{InLog}
use Rattle.cli_capture.specs.InnerReport.{StopsUnrefused, Emits}
use Rattle.cli_capture.specs.InnerStopError.{IsRefused}
use Rattle.cli_capture.proofs.Tellings.{log_tells, ok_then, tells_nothing, tells_then}

-- ---- what stops isn't a refusal

pub memory_stops : (r : Report) → StopsUnrefused r stop.Memory
unfolding StopsUnrefused
memory_stops r = λ verdicts. tt

pub is_memory_stops : (r : Report) (st : Stop) → st ≡ stop.Memory → StopsUnrefused r st
unfolding StopsUnrefused
is_memory_stops r st is = λ verdicts. subst IsNoRefusal (sym is) tt

pub quiet_stops : (r : Report) (st : Stop) → IsNoRefusal st → StopsUnrefused r st
unfolding StopsUnrefused
quiet_stops r st none = λ verdicts. none

pub log_stops : (r : Report) (st : Stop) (journal : WrittenLog) → r.manner ≡ Log journal → StopsUnrefused r st
unfolding StopsUnrefused
log_stops r st journal is verdicts = let none : ⊥ = cc in absurd none

-- behind what is told
pub stops_then : (a b : Report) (st : Stop) → Emits a b → StopsUnrefused b st → StopsUnrefused a st
unfolding Emits StopsUnrefused
stops_then a b st first second = λ verdicts. second (first.0 verdicts).1.manner

-- ---- the same of what is answered

pub err_memory : {T : Type 0} (result : Result T Stop) (r : Report) → IfErr result (λ st. st ≡ stop.Memory) → IfErr result (StopsUnrefused r)
err_memory (Ok done) r is = tt
err_memory (Err st) r is = is_memory_stops r st is

pub err_quiet : {T : Type 0} (result : Result T Stop) (r : Report) → IfErr result IsNoRefusal → IfErr result (StopsUnrefused r)
err_quiet (Ok done) r none = tt
err_quiet (Err st) r none = quiet_stops r st none

pub err_log : {T : Type 0} (result : Result T Stop) (r : Report) (journal : WrittenLog) → r.manner ≡ Log journal → IfErr result (StopsUnrefused r)
err_log (Ok done) r journal is = tt
err_log (Err st) r journal is = log_stops r st journal is

pub err_then : {T : Type 0} (result : Result T Stop) (a b : Report) → Emits a b → IfErr result (StopsUnrefused b) → IfErr result (StopsUnrefused a)
err_then (Ok done) a b first second = tt
err_then (Err st) a b first second = stops_then a b st first second

-- ---- the same where the log of an end is told

pub memory_in_log : (old : Report) (IsSo : WrittenLog → Type 0) → InLog stop.Memory old IsSo
unfolding InLog
memory_in_log old IsSo refused = absurd refused

pub is_memory_in_log : (st : Stop) (old : Report) (IsSo : WrittenLog → Type 0) → st ≡ stop.Memory → InLog st old IsSo
unfolding InLog
is_memory_in_log st old IsSo is refused = let none : ⊥ = subst IsRefused is refused in absurd none

pub quiet_in_log : (st : Stop) (old : Report) (IsSo : WrittenLog → Type 0) → IsNoRefusal st → InLog st old IsSo
unfolding InLog
quiet_in_log (stop.Refused words) old IsSo none refused = absurd none
quiet_in_log stop.Memory old IsSo none refused = absurd refused

pub verdicts_in_log : (st : Stop) (old : Report) (IsSo : WrittenLog → Type 0) → old.manner ≡ Verdicts → InLog st old IsSo
unfolding InLog
verdicts_in_log st old IsSo is refused j log = absurd (let same : Verdicts ≡ Log j = sym is ∙ log in cc)

-- of what is answered
pub err_map : {T : Type 0} {P Q : Stop → Type 0} (result : Result T Stop) → ((st : Stop) → P st → Q st) → IfErr result P → IfErr result Q
err_map (Ok done) f given = tt
err_map (Err st) f given = f st given

pub ruleset unrefused_steps = (memory_stops, is_memory_stops, quiet_stops, stops_then, err_memory, err_quiet, err_then, memory_in_log, is_memory_in_log, quiet_in_log)

pub ruleset telling_steps = (tells_nothing, tells_then, ok_then, log_tells, memory_stops, is_memory_stops, quiet_stops, stops_then, err_memory, err_quiet, err_then, err_log, memory_in_log, is_memory_in_log, quiet_in_log)
