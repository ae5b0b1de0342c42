-- What only contracts of private functions use, besides the definitions of `Request`.
use Rattle.std.specs.Prelude.{◌≡◌, ◌⊎◌}
use Rattle.clap.specs.declared.error.kind.ErrorKind.{ErrorKind}
use Rattle.clap.specs.declared.error.kind.ErrorKind.TheVariants.{DisplayHelp, DisplayVersion}
use Rattle.cli_options.specs.declared.request.Request.{Request}
use Rattle.cli_options.specs.declared.request.Request.TheVariants as request
use Rattle.cli_options.specs.declared.request.Task.{Task}
use Rattle.cli_options.specs.declared.request.Task.TheVariants as asked

-- ---- what is requested

-- Holds for the kinds of error that call for a text: help, or the version.
abbrev pub CallsForText : ErrorKind → Type 0
CallsForText kind = (kind ≡ DisplayHelp) ⊎ (kind ≡ DisplayVersion)

-- Holds if a text is printed.
abbrev pub IsHelpText : Task → Type 0
IsHelpText (asked.Help text) = Unit {0}
IsHelpText asked.Audit = ⊥
IsHelpText (asked.Show s) = ⊥
IsHelpText (asked.Encode e) = ⊥

abbrev pub IsHelp : Request → Type 0
IsHelp (request.Task task) = IsHelpText task
IsHelp (request.Report report) = ⊥
IsHelp (request.Explain excerpt) = ⊥
IsHelp request.Compare = ⊥
IsHelp (request.Capture capturing) = ⊥
IsHelp (request.Serve service) = ⊥
