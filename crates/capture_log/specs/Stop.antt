-- Why nothing more is told of a capture.
use Rattle.capture_log.specs.declared.stop.Stop.{Stop}
use Rattle.capture_log.specs.declared.stop.Stop.TheVariants as stop

-- nothing that comes is refused: memory is wanting
abbrev pub IsNoRefusal : Stop → Type 0
IsNoRefusal (stop.Refused words) = ⊥
IsNoRefusal stop.Memory = Unit {0}
