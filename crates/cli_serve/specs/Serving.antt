-- With what `hsms serve` serves a connection, and how it reports the result.
use Rattle.std.specs.Prelude.{◌≡◌, ◌==◌, ◌||◌, not, ℕ, Bool, true, List, [], codes, Option, Some, None, Result, Ok, Err, if◌then◌else◌}
use Rattle.secs_text.specs.declared.message.Message.{Message}
use Rattle.secs_text.specs.Content.{Content}
use Rattle.hsms_endpoint.specs.Answer.{Answered}
use Rattle.hsms_endpoint.specs.Desk.{equipment_answer, host_answer}
use Rattle.hsms_endpoint.specs.EndState.{initial_state}
use Rattle.hsms_frame.specs.Io.{SinkState}
use Rattle.hsms_machine.specs.declared.settings.Role.TheVariants as role
use Rattle.hsms_machine.specs.Settings.{several_of}
use Rattle.hsms_ends.specs.declared.fault.ServeFault.{ServeFault}
use Rattle.hsms_ends.specs.declared.fault.ServeFault.TheVariants as serve
use Rattle.hsms_ends.specs.declared.reconnect.ServedAgain.{ServedAgain}
use Rattle.hsms_ends.specs.declared.serving.ServedScript.{ServedScript}
use Rattle.hsms_ends.specs.declared.step.Step.{Step}
use Rattle.hsms_ends.specs.Link.{LinkState}
use Rattle.hsms_ends.specs.Reconnect.{ServesAgain}
use Rattle.hsms_ends.specs.ScriptedDesk.{IsGrouped, scripted_answer}
use Rattle.hsms_ends.specs.Serving.{ServesTesting, is_complete}
use Rattle.cli_serve.specs.declared.handler_choice.ChosenHandler.{ChosenHandler}
use Rattle.cli_serve.specs.declared.handler_choice.ChosenHandler.TheVariants.{Host, Equipment}
use Rattle.cli_options.specs.declared.fault.ToolFault.{ToolFault}
use Rattle.cli_options.specs.declared.fault.ToolFault.TheVariants.{Refused, Device, Memory}
use Rattle.cli_options.specs.declared.serve_options.Service.{Service}

-- What a message handler answers.
abbrev pub own_answer : ChosenHandler → ℕ → Content → Answered
own_answer (Host desk) before message = scripted_answer desk.replies host_answer before message
own_answer (Equipment desk) before message =
    scripted_answer desk.replies (equipment_answer desk.own.mdln.items desk.own.softrev.items) before message

-- Holds for the message handler of a service with these replies: a host's, or equipment's with its model and software
-- revision.
abbrev pub IsHandlerOf : Service → List Message → ChosenHandler → Type 0
IsHandlerOf service replies (Host desk) = (service.settings.role ≡ role.Host) × IsGrouped replies desk.replies
IsHandlerOf service replies (Equipment desk) =
    (service.settings.role ≡ role.Equipment) × (desk.own.mdln.items ≡ service.mdln.now)
    × (desk.own.softrev.items ≡ service.softrev.now) × IsGrouped replies desk.replies

-- The name of an I/O error, or of an error that ends the serving.
abbrev pub IsWordOf : ServeFault → List ℕ → Type 0
IsWordOf serve.Link word = word ≡ codes "Link"
IsWordOf serve.Log word = word ≡ codes "Log"
IsWordOf serve.Turns word = word ≡ codes "Turns"
IsWordOf serve.Memory word = ⊥

-- The command's error for an error of serving.
abbrev pub ReturnsServeFault : ServeFault → ToolFault → Type 0
ReturnsServeFault fault (Refused words) = ⊥
ReturnsServeFault fault (Device word) = IsWordOf fault word.now
ReturnsServeFault fault Memory = fault ≡ serve.Memory

-- The command's result of serving. With `all_sent`, it is true if each step of the script was sent and none refused.
abbrev pub ReturnsServed : Bool → Result ServedScript ServeFault → Result Bool ToolFault → Type 0
ReturnsServed all_sent (Ok served) (Ok well) = well ≡ (not all_sent || is_complete served)
ReturnsServed all_sent (Ok served) (Err link_state) = ⊥
ReturnsServed all_sent (Err fault) (Ok well) = ⊥
ReturnsServed all_sent (Err fault) (Err link_state) = ReturnsServeFault fault link_state

-- The result is true or false, unless an expected connection is missing.
abbrev pub ReturnsMissing : Bool → Option ServeFault → Result Bool ToolFault → Type 0
ReturnsMissing is_well None (Ok well) = well ≡ is_well
ReturnsMissing is_well None (Err link_state) = ⊥
ReturnsMissing is_well (Some fault) (Ok well) = ⊥
ReturnsMissing is_well (Some fault) (Err link_state) = ReturnsServeFault fault link_state

-- The command's result of serving connections one after another.
abbrev pub ReturnsServedAgain : Bool → Result ServedAgain ServeFault → Option ServeFault → Result Bool ToolFault → Type 0
ReturnsServedAgain all_sent (Ok served) wanting link_state = ReturnsMissing (not all_sent || served.complete) wanting link_state
ReturnsServedAgain all_sent (Err fault) wanting link_state = ReturnsMissing true (Some fault) link_state

-- The idle time after which the link is tested; 0 for never.
abbrev pub pause_for : ℕ → Option ℕ
pause_for linktest = if linktest == 0 then None else Some linktest

-- Holds if a new end served a connection with this message handler, as the service requests.
abbrev pub ServesTo : Service → ChosenHandler → List Step → Result ServedScript ServeFault → SinkState → SinkState → LinkState → LinkState → Type 0
ServesTo service desk script result log log' link link' =
    ServesTesting own_answer (pause_for service.linktest) (record { desk = desk; known = initial_state service.settings service.first_system }) script service.turns result log log' link link'

-- Holds if new ends served connections one after another with this message handler, as the service requests. With
-- `once`, only the first connection uses the script.
abbrev pub ServesAgainTo : {D : Type 0} → (D → ℕ → Content → Answered) → Service → D → List Step → Result ServedAgain ServeFault → SinkState → SinkState → LinkState → LinkState → Type 0
ServesAgainTo answers service desk script result log log' link link' =
    ServesAgain answers (pause_for service.linktest) desk (several_of service.settings) service.first_system script
    (if service.repeat.once then [] else script) service.turns service.repeat.connections result log log' link link'
