-- What the words of a command line request, as `clap` reads them.
use Rattle.std.specs.Prelude.{◌≡◌, ◌≢◌, ◌≤◌, ◌⊎◌, true, false, List, [], ◌∷◌, codes, map, Bool, IsTrue, Option, Some, None, unwrap_or}
use Rattle.clap.specs.Words.{App, IsAmong, Row, Shape, Text, all_of, fault_of, new_app, subcommand_of}
use Rattle.clap.specs.declared.error.kind.ErrorKind.TheVariants.{DisplayHelp, DisplayVersion}
use Rattle.cli_options.specs.declared.request.CommandLine.{CommandLine}
use Rattle.cli_options.specs.declared.request.Form.{Form}
use Rattle.cli_options.specs.declared.request.Form.TheVariants as form
use Rattle.cli_options.specs.declared.request.Request.{Request}
use Rattle.cli_options.specs.declared.request.Request.TheVariants as request
use Rattle.cli_options.specs.declared.request.Task.{Task}
use Rattle.cli_options.specs.declared.request.Task.TheVariants as asked
use Rattle.cli_options.specs.AuditOptions.{HasReportForm, audit_rules}
use Rattle.cli_options.specs.CaptureOptions.{HasCapturing, IsCapturingWithinLimits, capture_rules}
use Rattle.cli_options.specs.OptionValues.{IsFlag, depth_number, device_number, flag_in, flag_option, max_number, number_in, operands, option_of, system_number}
use Rattle.cli_options.specs.CompareOptions.{compare_rules, has_two_files}
use Rattle.cli_options.specs.ExplainOptions.{HasExcerpt, IsExcerptWithinLimits, explain_rules}
use Rattle.cli_options.specs.ServeOptions.{AsksToServe, serve_rules}

-- ---- the command that is described for `clap`

-- A command with this name, and nothing else.
abbrev pub named : Text → Shape
named name = (new_app name).top

abbrev pub show_command : Shape
show_command = record (named (codes "show")) {
  rules =
      operands (codes "FILE") ∷ option_of max_number ∷ option_of depth_number ∷ flag_option (codes "hex")
      ∷ flag_option (codes "bare") ∷ [];
}

abbrev pub audit_command : Shape
audit_command = record (named (codes "audit")) { rules = audit_rules }

abbrev pub explain_command : Shape
explain_command = record (named (codes "explain")) { rules = explain_rules }

abbrev pub capture_command : Shape
capture_command = record (named (codes "capture")) { rules = capture_rules }

abbrev pub compare_command : Shape
compare_command = record (named (codes "compare")) { rules = compare_rules }

abbrev pub encode_command : Shape
encode_command = record (named (codes "encode")) {
  rules =
      operands (codes "FILE") ∷ option_of device_number ∷ option_of system_number ∷ option_of max_number
      ∷ option_of depth_number ∷ flag_option (codes "hex") ∷ [];
}

abbrev pub serve_command : Shape
serve_command = record (named (codes "serve")) { rules = serve_rules }

-- The command, which requires one of the seven subcommands, and has a version.
abbrev pub command_line : App
command_line = record {
  top = record (named (codes "hsms")) { is_leaf = false; subcommand_required = true; has_version = true };
  subs =
      show_command ∷ audit_command ∷ explain_command ∷ compare_command ∷ capture_command ∷ encode_command ∷ serve_command
      ∷ [];
}

-- ---- what is requested

-- The form of the messages that are shown, by the flags `hex` and `bare`. The second one requires the first.
abbrev pub form_by : Bool → Bool → Option Form
form_by false false = Some form.Octets
form_by true false = Some form.Lines
form_by true true = Some form.BareLines
form_by false true = None

abbrev pub form_in : List Row → Option Form
form_in rows = form_by (flag_in (codes "hex") rows) (flag_in (codes "bare") rows)

-- True if the four length bytes are left out.
abbrev pub is_bare : Form → Bool
is_bare form.Octets = false
is_bare form.Lines = false
is_bare form.BareLines = true

-- Holds if a subcommand with this name and these matches requests this task.
abbrev pub AsksForTask : Text → List Row → Task → Type 0
AsksForTask name rows (asked.Help text) = ⊥
AsksForTask name rows asked.Audit = (name ≡ codes "audit") × HasReportForm rows None
AsksForTask name rows (asked.Show s) =
    (name ≡ codes "show") × (number_in max_number rows ≡ Some s.max) × (number_in depth_number rows ≡ Some s.depth)
    × (form_in rows ≡ Some s.form)
AsksForTask name rows (asked.Encode e) =
    (name ≡ codes "encode") × (number_in device_number rows ≡ Some e.device) × (number_in system_number rows ≡ Some e.system)
    × (number_in max_number rows ≡ Some e.max) × (number_in depth_number rows ≡ Some e.depth) × IsFlag (codes "hex") rows e.hex

-- Holds if a subcommand with this name and these matches requests this.
abbrev pub AsksFor : Text → List Row → Request → Type 0
AsksFor name rows (request.Task task) = AsksForTask name rows task
AsksFor name rows (request.Report report) = (name ≡ codes "audit") × HasReportForm rows (Some report)
AsksFor name rows (request.Explain excerpt) = (name ≡ codes "explain") × HasExcerpt rows excerpt
AsksFor name rows request.Compare = (name ≡ codes "compare") × IsTrue (has_two_files rows)
AsksFor name rows (request.Capture capturing) = (name ≡ codes "capture") × HasCapturing rows capturing
AsksFor name rows (request.Serve service) = (name ≡ codes "serve") × AsksToServe rows service

-- Holds if the matches of a parse request this.
abbrev pub AsksBy : Option (Text × List Row) → Request → Type 0
AsksBy entered request = (name : Text) × (rows : List Row) × (entered ≡ Some (name, rows)) × AsksFor name rows request

-- Holds if the words are those of a subcommand, and request this.
abbrev pub ParsesWork : List Text → Request → Type 0
ParsesWork words request = (fault_of command_line words ≡ []) × AsksBy (subcommand_of command_line words) request

-- Holds if the words request this task, or may call for help or for the version.
abbrev pub ParsesTask : List Text → Task → Type 0
ParsesTask words (asked.Help text) = IsAmong DisplayHelp (fault_of command_line words) ⊎ IsAmong DisplayVersion (fault_of command_line words)
ParsesTask words asked.Audit = ParsesWork words (request.Task asked.Audit)
ParsesTask words (asked.Show s) = ParsesWork words (request.Task (asked.Show s))
ParsesTask words (asked.Encode e) = ParsesWork words (request.Task (asked.Encode e))

-- Holds if the words request this, or may call for help or for the version.
abbrev pub EncodesTo : List Text → Request → Type 0
EncodesTo words (request.Task task) = ParsesTask words task
EncodesTo words (request.Report report) = ParsesWork words (request.Report report)
EncodesTo words (request.Explain excerpt) = ParsesWork words (request.Explain excerpt)
EncodesTo words request.Compare = ParsesWork words request.Compare
EncodesTo words (request.Capture capturing) = ParsesWork words (request.Capture capturing)
EncodesTo words (request.Serve service) = ParsesWork words (request.Serve service)

-- ---- the input

-- What a command line has besides its request: the names of files, and whether the flag `quiet` is given.
pub record Operands : Type 0 where
  pub names : List Text
  pub quiet : Bool

abbrev pub no_operands : Operands
no_operands = record { names = []; quiet = false }

-- Those of a subcommand with these matches.
abbrev pub operands_in : List Row → Operands
operands_in rows = record { names = unwrap_or (all_of (codes "FILE") rows) []; quiet = flag_in (codes "quiet") rows }

-- Those of the matches of a parse.
abbrev pub operands_by : Option (Text × List Row) → Operands
operands_by None = no_operands
operands_by (Some entered) = operands_in entered.1

-- Those of the words, if they request a task. Help has none.
abbrev pub task_operands : List Text → Task → Operands
task_operands words (asked.Help text) = no_operands
task_operands words asked.Audit = operands_by (subcommand_of command_line words)
task_operands words (asked.Show s) = operands_by (subcommand_of command_line words)
task_operands words (asked.Encode e) = operands_by (subcommand_of command_line words)

-- Those of the words, if they request this.
abbrev pub operands_for : List Text → Request → Operands
operands_for words (request.Task task) = task_operands words task
operands_for words (request.Report report) = operands_by (subcommand_of command_line words)
operands_for words (request.Explain excerpt) = operands_by (subcommand_of command_line words)
operands_for words request.Compare = operands_by (subcommand_of command_line words)
operands_for words (request.Capture capturing) = operands_by (subcommand_of command_line words)
operands_for words (request.Serve service) = operands_by (subcommand_of command_line words)

abbrev pub operands_of : CommandLine → Operands
operands_of line = record { names = map (λ name. name.now) line.files.items; quiet = line.quiet }

-- Holds if a command line has the operands of the words.
abbrev pub HasOperands : List Text → CommandLine → Type 0
HasOperands words line = operands_of line ≡ operands_for words line.request

-- Holds if the words request no work, and it is unknown whether they call for help alone, or for the version alone.
abbrev pub ParsesNothing : List Text → Type 0
ParsesNothing words =
    (fault_of command_line words ≢ DisplayHelp ∷ []) × (fault_of command_line words ≢ DisplayVersion ∷ [])
    × ((request : Request) → ParsesWork words request → ⊥)

-- Holds if each number of a task is within its limits.
abbrev pub IsTaskWithinLimits : Task → Type 0
IsTaskWithinLimits (asked.Help text) = Unit {0}
IsTaskWithinLimits asked.Audit = Unit {0}
IsTaskWithinLimits (asked.Show s) = (256 ≤ s.max) × (s.max ≤ 33554432) × (1 ≤ s.depth) × (s.depth ≤ 100)
IsTaskWithinLimits (asked.Encode e) =
    (e.device ≤ 32767) × (256 ≤ e.max) × (e.max ≤ 33554432) × (1 ≤ e.depth) × (e.depth ≤ 100)

-- Holds if each number of a request is within its limits. Those of settings are by their type.
abbrev pub IsWithinLimits : Request → Type 0
IsWithinLimits (request.Task task) = IsTaskWithinLimits task
IsWithinLimits (request.Report report) = Unit {0}
IsWithinLimits (request.Explain excerpt) = IsExcerptWithinLimits excerpt
IsWithinLimits request.Compare = Unit {0}
IsWithinLimits (request.Capture capturing) = IsCapturingWithinLimits capturing
IsWithinLimits (request.Serve service) = service.port ≤ 65535
