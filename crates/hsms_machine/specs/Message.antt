-- Properties of a message by its header (SEMI E37, section 8, message format; SEMI E37.1 for the session ID and the
-- endpoints that may select).
use Rattle.std.specs.Prelude.{ℕ, ◌==◌, Bool, true, false, ◌&&◌, ◌||◌, not}
use Rattle.hsms_frame.specs.Header.{kind_of, stream_of, wait_of}
use Rattle.hsms_frame.specs.declared.header.Header.{Header}
use Rattle.hsms_frame.specs.declared.kinds.Kind.{Kind}
use Rattle.hsms_frame.specs.declared.kinds.Kind.TheVariants.{Primary, Reply, SelectReq, SelectRsp, LinktestReq, LinktestRsp, Reject, Separate, OtherSType, OtherPType}
use Rattle.hsms_machine.specs.declared.settings.Role.{Role}
use Rattle.hsms_machine.specs.declared.settings.Role.TheVariants.{Host, Equipment}
use Rattle.hsms_machine.specs.declared.settings.Side.{Side}
use Rattle.hsms_machine.specs.declared.settings.Side.TheVariants.{Active, Passive}
use Rattle.hsms_machine.specs.declared.direction.Flow.{Flow}
use Rattle.hsms_machine.specs.declared.direction.Flow.TheVariants.{Outgoing, Incoming}
use Rattle.hsms_machine.specs.Settings.{Parameters}

-- ---- by kind

abbrev pub is_data_kind : Kind → Bool
is_data_kind Primary = true
is_data_kind Reply = true
is_data_kind _ = false

abbrev pub is_control_kind : Kind → Bool
is_control_kind Primary = false
is_control_kind Reply = false
is_control_kind OtherSType = false
is_control_kind OtherPType = false
is_control_kind _ = true

abbrev pub is_response_kind : Kind → Bool
is_response_kind Reply = true
is_response_kind SelectRsp = true
is_response_kind LinktestRsp = true
is_response_kind _ = false

abbrev pub is_select_response : Kind → Bool
is_select_response SelectRsp = true
is_select_response _ = false

abbrev pub is_separate_kind : Kind → Bool
is_separate_kind Separate = true
is_separate_kind _ = false

abbrev pub is_reject_kind : Kind → Bool
is_reject_kind Reject = true
is_reject_kind _ = false

-- True if a primary has the W bit, so it opens a data transaction.
abbrev pub opens_data : Kind → Bool → Bool
opens_data Primary wait = wait
opens_data _ wait = false

-- True for a Select.req or a Linktest.req, which opens a control transaction.
abbrev pub opens_control : Kind → Bool
opens_control SelectReq = true
opens_control LinktestReq = true
opens_control _ = false

-- True if a message of the kind may have the session ID: the device ID for data, FFFF for control, any for a Reject.
abbrev pub is_session : Kind → ℕ → ℕ → Bool
is_session Primary device session = session == device
is_session Reply device session = session == device
is_session SelectReq device session = session == 65535
is_session SelectRsp device session = session == 65535
is_session LinktestReq device session = session == 65535
is_session LinktestRsp device session = session == 65535
is_session Separate device session = session == 65535
is_session _ device session = true

-- True if the message comes from the active endpoint.
abbrev pub is_from_active : Side → Flow → Bool
is_from_active Active Outgoing = true
is_from_active Active Incoming = false
is_from_active Passive Outgoing = false
is_from_active Passive Incoming = true

-- True if the message comes from equipment.
abbrev pub is_from_equipment : Role → Flow → Bool
is_from_equipment Equipment Outgoing = true
is_from_equipment Equipment Incoming = false
is_from_equipment Host Outgoing = false
is_from_equipment Host Incoming = true

-- True if the endpoint that sends the message may send it.
abbrev pub is_direction : Kind → Bool → Bool → Bool → Bool
is_direction SelectReq from_active from_equipment nine = from_active
is_direction SelectRsp from_active from_equipment nine = not from_active
is_direction Primary from_active from_equipment nine = not nine || from_equipment
is_direction _ from_active from_equipment nine = true

-- True unless a reply or a primary of stream 9 has the W bit.
abbrev pub is_wait : Kind → Bool → Bool → Bool
is_wait Primary wait nine = not (wait && nine)
is_wait Reply wait nine = not wait
is_wait _ wait nine = true

-- ---- of a header

unfoldable pub is_data : Header → Bool
is_data header = is_data_kind (kind_of header)

unfoldable pub is_control : Header → Bool
is_control header = is_control_kind (kind_of header)

-- True for a reply, a Select.rsp or a Linktest.rsp.
unfoldable pub is_response : Header → Bool
is_response header = is_response_kind (kind_of header)

-- True for a Select.rsp with status 0.
unfoldable pub establishes : Header → Bool
establishes header = is_select_response (kind_of header) && (header.byte3 == 0)

unfoldable pub separates : Header → Bool
separates header = is_separate_kind (kind_of header)

unfoldable pub is_data_request : Header → Bool
is_data_request header = opens_data (kind_of header) (wait_of header)

unfoldable pub is_control_request : Header → Bool
is_control_request header = opens_control (kind_of header)

-- True if the message opens a transaction.
abbrev pub is_request : Header → Bool
is_request header = is_data_request header || is_control_request header

unfoldable pub has_right_session : Parameters → Header → Bool
has_right_session settings header = is_session (kind_of header) settings.device header.session

unfoldable pub has_right_direction : Parameters → Flow → Header → Bool
has_right_direction settings flow header =
    is_direction (kind_of header) (is_from_active settings.link flow) (is_from_equipment settings.role flow) (stream_of header == 9)

unfoldable pub has_right_wait : Header → Bool
has_right_wait header = is_wait (kind_of header) (wait_of header) (stream_of header == 9)
