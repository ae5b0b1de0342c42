-- The header of a message (SEMI E37, section 8.2).
use Rattle.std.specs.Prelude.{◌<◌, ◌^◌, ◌%◌, ◌++◌, ◌==◌, if◌then◌else◌, ℕ, List, [], ◌∷◌, Bool, nat_le}
use Rattle.std.specs.Int.{w16, w32, to_be_bytes}
use Rattle.hsms_frame.specs.declared.header.Header.{Header}
use Rattle.hsms_frame.specs.declared.kinds.Kind.{Kind}
use Rattle.hsms_frame.specs.declared.kinds.Kind.TheVariants.{Primary, Reply, SelectReq, SelectRsp, LinktestReq, LinktestRsp, Reject, Separate, OtherSType, OtherPType}

-- The ten bytes: session ID, byte 2, byte 3, PType, SType, system bytes.
abbrev pub header_octets : Header → List ℕ
header_octets h =
    to_be_bytes w16 h.session ++ (h.byte2 ∷ h.byte3 ∷ h.ptype ∷ h.stype ∷ []) ++ to_be_bytes w32 h.system

-- Holds if each number of a header is within its range.
pub record IsHeader (h : Header) : Type 0 where
  pub session : h.session < 2 ^ 16
  pub byte2 : h.byte2 < 2 ^ 8
  pub byte3 : h.byte3 < 2 ^ 8
  pub ptype : h.ptype < 2 ^ 8
  pub stype : h.stype < 2 ^ 8
  pub system : h.system < 2 ^ 32

-- The stream of a data message.
abbrev pub stream_of : Header → ℕ
stream_of h = h.byte2 % 128

-- The function of a data message.
abbrev pub function_of : Header → ℕ
function_of h = h.byte3

-- The W bit of a data message.
abbrev pub wait_of : Header → Bool
wait_of h = nat_le 128 h.byte2

-- The kind of a message by its SType (SEMI E37, section 8.2.6), at PType 0.
abbrev pub kind_by_stype : ℕ → ℕ → Kind
kind_by_stype stype function =
    if stype == 0 then (if function % 2 == 1 then Primary else Reply)
    else if stype == 1 then SelectReq
    else if stype == 2 then SelectRsp
    else if stype == 5 then LinktestReq
    else if stype == 6 then LinktestRsp
    else if stype == 7 then Reject
    else if stype == 9 then Separate
    else OtherSType

-- The kind of a message.
abbrev pub kind_of : Header → Kind
kind_of h = if h.ptype == 0 then kind_by_stype h.stype h.byte3 else OtherPType
