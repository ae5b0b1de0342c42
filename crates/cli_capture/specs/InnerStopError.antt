-- What only contracts of private functions use, besides the definitions of `StopError`.
use Rattle.capture_log.specs.declared.stop.Stop.{Stop}
use Rattle.capture_log.specs.declared.stop.Stop.TheVariants as stop

-- what comes is refused
abbrev pub IsRefused : Stop → Type 0
IsRefused (stop.Refused rejection) = Unit {0}
IsRefused stop.Memory = ⊥
