-- What only contracts of private functions use, besides the definitions of `IoErrors`.
use Rattle.std.specs.Prelude.{◌≡◌, ℕ, List}
use Rattle.cli_options.specs.declared.fault.ToolFault.{ToolFault}
use Rattle.cli_options.specs.declared.fault.ToolFault.TheVariants.{Refused, Device, Memory}

-- Holds if an I/O error has this name.
abbrev pub HasWord : List ℕ → ToolFault → Type 0
HasWord word (Device given) = given.now ≡ word
HasWord word (Refused _) = Unit {0}
HasWord word Memory = Unit {0}
