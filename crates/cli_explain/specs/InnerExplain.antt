-- What only contracts of private functions use, besides the definitions of `Explain`.
use Rattle.std.specs.Prelude.{◌≡◌, codes}
use Rattle.cli_options.specs.declared.fault.ToolFault.{ToolFault}
use Rattle.cli_options.specs.declared.fault.ToolFault.TheVariants.{Refused, Device, Memory}

-- An error of the output: a write or an allocation failed.
abbrev pub IsOfExplaining : ToolFault → Type 0
IsOfExplaining (Device word) = word.now ≡ codes "Write"
IsOfExplaining (Refused words) = ⊥
IsOfExplaining Memory = Unit {0}
