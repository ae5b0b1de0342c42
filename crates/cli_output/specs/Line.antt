-- The line that shows a message, and the line of its bytes.
use Rattle.std.specs.Prelude.{◌≡◌, ◌⊎◌, ℕ, List, [], ◌∷◌, ◌++◌, ◌==◌, if◌then◌else◌, length, codes, decimal, Option}
use Rattle.std.specs.Int.{w16, w32, to_be_bytes}
use Rattle.hex.specs.Hex.{encode_lower}
use Rattle.secs_item.specs.Item.{Value}
use Rattle.secs_item.specs.Encoding.{IsTextOf}
use Rattle.secs_text.specs.Printed.{printed}
use Rattle.hsms_frame.specs.declared.header.Header.{Header}
use Rattle.hsms_frame.specs.declared.kinds.Kind.{Kind}
use Rattle.hsms_frame.specs.declared.kinds.Kind.TheVariants.{Primary, Reply, SelectReq, SelectRsp, LinktestReq, LinktestRsp, Reject, Separate, OtherSType, OtherPType}
use Rattle.hsms_frame.specs.Frame.{Frame}
use Rattle.hsms_frame.specs.Header.{kind_of, stream_of, function_of, wait_of}

-- The name of a kind of message.
abbrev pub name_of : Kind → List ℕ
name_of Primary = codes "data"
name_of Reply = codes "data"
name_of SelectReq = codes "select.req"
name_of SelectRsp = codes "select.rsp"
name_of LinktestReq = codes "linktest.req"
name_of LinktestRsp = codes "linktest.rsp"
name_of Reject = codes "reject"
name_of Separate = codes "separate"
name_of OtherSType = codes "other-stype"
name_of OtherPType = codes "other-ptype"

-- Session ID and system bytes, in hexadecimal.
abbrev pub address_of : Header → List ℕ
address_of h = codes " " ++ encode_lower (to_be_bytes w16 h.session) ++ codes " " ++ encode_lower (to_be_bytes w32 h.system)

-- Stream and function, and the W bit if it is set.
abbrev pub message_name_of : Header → List ℕ
message_name_of h =
    codes " S" ++ decimal (stream_of h) ++ codes "F" ++ decimal (function_of h) ++ (if wait_of h then codes " W" else [])

-- ---- data

-- The line of a message whose text is readable: in notation.
abbrev pub readable_line : Header → Option Value → List ℕ
readable_line h item =
    codes "data" ++ address_of h ++ codes " "
    ++ printed (record { stream = stream_of h; function = function_of h; wait = wait_of h; item = item }) ++ 10 ∷ []

-- The line of a message whose text is not readable: its text in hexadecimal.
abbrev pub unreadable_line : Frame → List ℕ
unreadable_line f =
    codes "data" ++ address_of f.header ++ message_name_of f.header ++ codes " ! " ++ encode_lower f.text ++ 10 ∷ []

-- The line of a data message: its text is empty or one item within the depth, or it is not readable.
abbrev pub DataLine : ℕ → Frame → List ℕ → Type 0
DataLine depth f line =
    ((item : Option Value) × IsTextOf depth f.text item × (line ≡ readable_line f.header item))
    ⊎ (((item : Option Value) → IsTextOf depth f.text item → ⊥) × (line ≡ unreadable_line f))

-- ---- other messages

-- What a kind of message has in its other header bytes.
abbrev pub detail_of : Kind → Header → List ℕ
detail_of Primary h = []
detail_of Reply h = []
detail_of SelectReq h = []
detail_of SelectRsp h = codes " " ++ decimal h.byte3
detail_of LinktestReq h = []
detail_of LinktestRsp h = []
detail_of Reject h = codes " " ++ decimal h.byte2 ++ codes " " ++ decimal h.byte3
detail_of Separate h = []
detail_of OtherSType h = codes " " ++ decimal h.stype
detail_of OtherPType h = codes " " ++ decimal h.ptype

-- An unexpected text, in hexadecimal.
abbrev pub text_of : List ℕ → List ℕ
text_of text = if length text == 0 then [] else codes " ! " ++ encode_lower text

abbrev pub control_line : Kind → Frame → List ℕ
control_line kind f = name_of kind ++ address_of f.header ++ detail_of kind f.header ++ text_of f.text ++ 10 ∷ []

-- ---- all messages

abbrev pub LineOfKind : Kind → ℕ → Frame → List ℕ → Type 0
LineOfKind Primary depth f line = DataLine depth f line
LineOfKind Reply depth f line = DataLine depth f line
LineOfKind SelectReq depth f line = line ≡ control_line SelectReq f
LineOfKind SelectRsp depth f line = line ≡ control_line SelectRsp f
LineOfKind LinktestReq depth f line = line ≡ control_line LinktestReq f
LineOfKind LinktestRsp depth f line = line ≡ control_line LinktestRsp f
LineOfKind Reject depth f line = line ≡ control_line Reject f
LineOfKind Separate depth f line = line ≡ control_line Separate f
LineOfKind OtherSType depth f line = line ≡ control_line OtherSType f
LineOfKind OtherPType depth f line = line ≡ control_line OtherPType f

-- The line of a message, with its end, if lists may be nested this deep.
abbrev pub LineOf : ℕ → Frame → List ℕ → Type 0
LineOf depth f line = LineOfKind (kind_of f.header) depth f line

-- ---- bytes

-- The line of bytes: the digits of each, and the end of the line.
abbrev pub hex_line : List ℕ → List ℕ
hex_line octets = encode_lower octets ++ 10 ∷ []
