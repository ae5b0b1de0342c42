-- Which lines of a log `hsms explain` shows and in which format, by its options.
use Rattle.std.specs.Prelude.{◌≡◌, ◌≤◌, ◌==◌, ◌&&◌, ◌||◌, not, ℕ, Bool, true, false, nat_le, List, [], ◌∷◌, codes, Option, Some, None, is_some, unwrap_or}
use Rattle.std.specs.Option.{option_map_or}
use Rattle.std.specs.Str.{bytes_eq}
use Rattle.clap.specs.Words.{Row, Rule, Text, first_of}
use Rattle.cli_options.specs.declared.explain_options.Excerpt.{Excerpt}
use Rattle.cli_options.specs.declared.explain_options.Lines.{Lines}
use Rattle.cli_options.specs.declared.explain_options.Lines.TheVariants.{All, Failures}
use Rattle.cli_options.specs.declared.explain_options.OutputFormat.{OutputFormat}
use Rattle.cli_options.specs.declared.explain_options.OutputFormat.TheVariants.{Text as TextForm, Json, Html}
use Rattle.cli_options.specs.OptionValues.{IsFlag, Number, flag_in, flag_option, number_in, operand, option_of, text_option}

-- The number of lines that are shown around a failing one.
abbrev pub around_number : Number
around_number = record { name = codes "around"; least = 0; greatest = 1000; left_out = Some 5 }

-- The first line that may be shown.
abbrev pub from_number : Number
from_number = record { name = codes "from"; least = 1; greatest = 4294967295; left_out = Some 1 }

-- The last line that may be shown.
abbrev pub to_number : Number
to_number = record { name = codes "to"; least = 1; greatest = 4294967295; left_out = Some 4294967295 }

abbrev pub explain_rules : List Rule
explain_rules =
    operand (codes "FILE") ∷ text_option (codes "only") ∷ option_of around_number ∷ option_of from_number ∷ option_of to_number
    ∷ text_option (codes "format") ∷ flag_option (codes "utc") ∷ flag_option (codes "lists") ∷ flag_option (codes "all") ∷ []

-- The text of the option `only`, if any, that requests these lines.
abbrev pub only_word : Lines → Option Text
only_word All = None
only_word Failures = Some (codes "failures")

-- The name of a format.
abbrev pub output_format_word : OutputFormat → Option Text
output_format_word TextForm = Some (codes "text")
output_format_word Json = Some (codes "json")
output_format_word Html = Some (codes "html")

-- Holds if the format is the one that the option `format` names, by default text.
abbrev pub HasFormat : List Row → OutputFormat → Type 0
HasFormat rows output_form = Some (unwrap_or (first_of (codes "format") rows) (codes "text")) ≡ output_format_word output_form

-- True if the matches request a page.
abbrev pub is_page : List Row → Bool
is_page rows = option_map_or (bytes_eq (codes "html")) (first_of (codes "format") rows) false

-- True if `around` and `all`, if they are given, have an effect: lines around failures are shown with failures alone, or
-- on a page that does not show every line.
abbrev pub are_effective : Bool → Bool → Bool → Bool → Bool
are_effective around only page all = (not around || (only || (page && not all))) && (not all || page)

abbrev pub have_effect : List Row → Bool
have_effect rows =
    are_effective (is_some (first_of (codes "around") rows)) (is_some (first_of (codes "only") rows)) (is_page rows)
    (flag_in (codes "all") rows)

-- Holds if the matches request this excerpt.
abbrev pub HasExcerpt : List Row → Excerpt → Type 0
HasExcerpt rows excerpt =
    (first_of (codes "only") rows ≡ only_word excerpt.lines) × (number_in around_number rows ≡ Some excerpt.around)
    × (number_in from_number rows ≡ Some excerpt.from) × (number_in to_number rows ≡ Some excerpt.to)
    × HasFormat rows excerpt.form × IsFlag (codes "utc") rows excerpt.utc × IsFlag (codes "lists") rows excerpt.lists
    × IsFlag (codes "all") rows excerpt.every × (have_effect rows ≡ true)

-- True if the line with this number is between the first and the last one that may be shown. The maximum number is no
-- limit.
abbrev pub is_between : Excerpt → ℕ → Bool
is_between excerpt number =
    nat_le excerpt.from number && ((excerpt.to == 4294967295) || nat_le number excerpt.to)

-- Holds if its numbers are within their limits.
abbrev pub IsExcerptWithinLimits : Excerpt → Type 0
IsExcerptWithinLimits excerpt = (excerpt.around ≤ 1000) × (1 ≤ excerpt.from) × (1 ≤ excerpt.to)
