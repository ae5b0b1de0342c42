-- What only contracts of private functions use, besides the definitions of `ServeOptions`.
use Rattle.std.specs.Prelude.{◌≡◌, ℕ, List, Some}
use Rattle.clap.specs.Words.{Row}
use Rattle.cli_options.specs.OptionValues.{number_in}
use Rattle.cli_options.specs.ServeOptions.{linktest_number, first_system_number, turns_number}

-- ---- what they request

-- Holds if the matches have these numbers of a service: its first system bytes, its turns, and its link test time.
abbrev pub HasOwnNumbers : List Row → ℕ → ℕ → ℕ → Type 0
HasOwnNumbers rows first_system turns linktest =
    (number_in first_system_number rows ≡ Some first_system) × (number_in turns_number rows ≡ Some turns)
    × (number_in linktest_number rows ≡ Some linktest)
