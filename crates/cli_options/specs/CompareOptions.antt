-- The operands of `hsms compare`.
use Rattle.std.specs.Prelude.{◌==◌, Bool, List, [], ◌∷◌, codes, length, unwrap_or}
use Rattle.clap.specs.Words.{Row, Rule, all_of}
use Rattle.cli_options.specs.OptionValues.{operands}

abbrev pub compare_rules : List Rule
compare_rules = operands (codes "FILE") ∷ []

-- True if two files are named.
abbrev pub has_two_files : List Row → Bool
has_two_files rows = length (unwrap_or (all_of (codes "FILE") rows) []) == 2
