-- What an endpoint does at once after a received frame (SEMI E37, section 7; SEMI E5 for stream 9; the table is
-- project-specific).
use Rattle.std.specs.Prelude.{ℕ, Bool, true, false, ◌&&◌, List, [], ◌∷◌, ◌++◌, Option, Some, None, if◌then◌else◌}
use Rattle.hsms_frame.specs.declared.header.Header.{Header}
use Rattle.hsms_frame.specs.declared.kinds.Kind.{Kind}
use Rattle.hsms_frame.specs.declared.kinds.Kind.TheVariants.{Primary, SelectReq, SelectRsp, LinktestReq, LinktestRsp, Separate}
use Rattle.hsms_frame.specs.Header.{kind_of, wait_of}
use Rattle.hsms_machine.specs.declared.settings.Role.{Role}
use Rattle.hsms_machine.specs.declared.settings.Role.TheVariants.{Host, Equipment}
use Rattle.hsms_machine.specs.declared.entry.Event.TheVariants.{Sent, Down}
use Rattle.hsms_machine.specs.declared.rule.Rule.{Rule}
use Rattle.hsms_machine.specs.declared.rule.Rule.TheVariants.{PType, SType, Session, NotSelected, Text, NoTransaction}
use Rattle.hsms_machine.specs.Settings.{Parameters}
use Rattle.hsms_machine.specs.Message.{is_data}
use Rattle.hsms_endpoint.specs.Answer.{Answered, replies, quiet, no_stream, no_function, illegal}
use Rattle.hsms_endpoint.specs.Frame.{select_rsp, linktest_rsp, reject_req, reply_of, abort_of, warning}
use Rattle.hsms_endpoint.specs.Action.{Act, logs, asks}

abbrev pub is_equipment : Role → Bool
is_equipment Equipment = true
is_equipment Host = false

-- Equipment reports an error by stream 9; a host does not.
abbrev pub warns : Parameters → ℕ → Header → List Act
warns settings function header =
    if is_equipment settings.role then asks (warning settings function header) ∷ [] else []

-- A primary that requests a reply and gets none is aborted.
abbrev pub aborts : Parameters → Header → List Act
aborts settings primary = if wait_of primary then logs (Sent (abort_of settings primary)) ∷ [] else []

-- The acts for an accepted primary, by the handler's answer.
abbrev pub answers_primary : Parameters → Header → Answered → List Act
answers_primary settings primary (replies item) =
    if wait_of primary then logs (Sent (reply_of settings primary item)) ∷ [] else []
answers_primary settings primary quiet = aborts settings primary
answers_primary settings primary no_stream = warns settings 3 primary ++ aborts settings primary
answers_primary settings primary no_function = warns settings 5 primary ++ aborts settings primary
answers_primary settings primary illegal = warns settings 7 primary ++ aborts settings primary

-- The acts for an accepted frame, by its kind and, for a Select.req, by whether the session was selected before.
abbrev pub answers_taken : Parameters → Bool → Kind → Header → Answered → List Act
answers_taken settings selected SelectReq header answer = logs (Sent (select_rsp header (if selected then 1 else 0))) ∷ []
answers_taken settings selected LinktestReq header answer = logs (Sent (linktest_rsp header)) ∷ []
answers_taken settings selected Primary header answer = answers_primary settings header answer
answers_taken settings selected Separate header answer = logs Down ∷ []
answers_taken settings selected _ header answer = []

abbrev pub is_control_response : Kind → Bool
is_control_response SelectRsp = true
is_control_response LinktestRsp = true
is_control_response _ = false

abbrev pub rejects : Header → ℕ → List Act
rejects header reason = logs (Sent (reject_req header reason)) ∷ []

-- The acts for a discarded frame, by the rule that it would break if it were accepted.
abbrev pub answers_discarded : Parameters → Bool → Header → Rule → List Act
answers_discarded settings selected header PType = rejects header 2
answers_discarded settings selected header SType = rejects header 1
answers_discarded settings selected header NotSelected = rejects header 4
answers_discarded settings selected header NoTransaction =
    if is_control_response (kind_of header) then rejects header 3 else []
answers_discarded settings selected header Session =
    if is_data header && selected then warns settings 1 header else []
answers_discarded settings selected header Text = warns settings 7 header
answers_discarded settings selected header _ = []

-- The acts that follow a received frame. They depend on the settings, its header, and whether the session was
-- selected before it. They also depend on the rule that it would break as an accepted frame. The handler's answer
-- matters only for an accepted primary.
abbrev pub reaction : Parameters → Bool → Header → Option Rule → Answered → List Act
reaction settings selected header None answer = answers_taken settings selected (kind_of header) header answer
reaction settings selected header (Some rule) answer = answers_discarded settings selected header rule
