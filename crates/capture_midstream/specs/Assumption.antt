-- What is supposed to stand before a capture, by the first message that decides it (SEMI E37, section 7.4).
use Rattle.std.specs.Prelude.{◌==◌, ℕ, Bool, if◌then◌else◌, List, Option, Some, None}
use Rattle.hsms_frame.specs.declared.header.Header.{Header}
use Rattle.hsms_frame.specs.declared.kinds.Kind.{Kind}
use Rattle.hsms_frame.specs.declared.kinds.Kind.TheVariants.{Primary, Reply, SelectRsp}
use Rattle.hsms_frame.specs.Header.{kind_of}
use Rattle.capture_midstream.specs.declared.assumption.Assumption.{Assumption}
use Rattle.capture_midstream.specs.declared.assumption.Assumption.TheVariants.{Selected, Asked, Nothing}
use Rattle.capture_midstream.specs.Requests.{is_asked}

-- A Select.rsp with status 1 answers a further Select.req of a session that was selected. Any other one answers the
-- Select.req of one that wasn't: where that isn't in the capture it is supposed.
abbrev pub by_status : ℕ → Bool → ℕ → Assumption
by_status status asked system = if status == 1 then Selected else (if asked then Nothing else Asked system)

-- data flows only while the session is selected
abbrev pub by_kind : Kind → Assumption → Option Assumption
by_kind Primary response = Some Selected
by_kind Reply response = Some Selected
by_kind SelectRsp response = Some response
by_kind _ response = None

-- what a message decides, where the other end sent these messages before it
abbrev pub assumed_by : Header → List Header → Option Assumption
assumed_by message said = by_kind (kind_of message) (by_status message.byte3 (is_asked message said) message.system)
