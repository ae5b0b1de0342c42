-- What stands at the front of octets: a message of the session, a part of one, or something else.
use Rattle.std.specs.Prelude.{◌≡◌, ◌≤◌, ◌<◌, ◌+◌, ◌-◌, ◌==◌, ◌&&◌, ◌||◌, ◌⊎◌, if◌then◌else◌, ℕ, Bool, true, false, nat_le, nat_lt, List, length, take, drop, get_or, Option, Some, None}
use Rattle.std.specs.Int.{w16, w32, from_be_bytes}
use Rattle.secs_item.specs.Encoding.{IsText}
use Rattle.hsms_frame.specs.declared.header.Header.{Header}
use Rattle.hsms_frame.specs.declared.kinds.Kind.{Kind}
use Rattle.hsms_frame.specs.declared.kinds.Kind.TheVariants.{Primary, Reply, SelectReq, SelectRsp, LinktestReq, LinktestRsp, Reject, Separate, OtherSType, OtherPType}
use Rattle.hsms_frame.specs.Frame.{length_field}
use Rattle.hsms_frame.specs.Header.{kind_of}
use Rattle.capture_midstream.specs.declared.session_filter.Session.{Session}
use Rattle.capture_midstream.specs.declared.message_check.Found.{Found}
use Rattle.capture_midstream.specs.declared.message_check.Found.TheVariants.{Missing, Begun, Whole, Other}

-- data is of the session's device; a control message has no text, and the session ID ffff, but a Reject.req any
abbrev pub has_kind : Kind → Session → Header → ℕ → Bool
has_kind Primary s h count = h.session == s.device
has_kind Reply s h count = h.session == s.device
has_kind SelectReq s h count = (count == 10) && (h.session == 65535)
has_kind SelectRsp s h count = (count == 10) && (h.session == 65535)
has_kind LinktestReq s h count = (count == 10) && (h.session == 65535)
has_kind LinktestRsp s h count = (count == 10) && (h.session == 65535)
has_kind Reject s h count = count == 10
has_kind Separate s h count = (count == 10) && (h.session == 65535)
has_kind OtherSType s h count = false
has_kind OtherPType s h count = false

-- a message of the session may have this header, and so many octets of header and text
unfoldable pub is_of : Session → Header → ℕ → Bool
is_of s h count = nat_le 10 count && (nat_le count s.max && has_kind (kind_of h) s h count)

-- the header that ten octets spell
abbrev pub header_of : List ℕ → Header
header_of octets = record {
  session = from_be_bytes w16 (take 2 octets);
  byte2 = get_or octets 2 0;
  byte3 = get_or octets 3 0;
  ptype = get_or octets 4 0;
  stype = get_or octets 5 0;
  system = from_be_bytes w32 (drop 6 octets);
}

-- the header of a message, behind the four octets of its length; none where header and text have fewer than ten octets, or
-- more than this
abbrev pub header_within : ℕ → List ℕ → Option Header
header_within most octets =
    if nat_lt (length octets) 14 || nat_lt (most + 4) (length octets) then None else Some (header_of (take 10 (drop 4 octets)))

-- the header behind the four octets of the length is one of the session
abbrev pub has_header : Session → List ℕ → Bool
has_header s octets = is_of s (header_of (take 10 (drop 4 octets))) (length_field octets)

-- what stands behind the header, as far as the length counts it
abbrev pub text_at : List ℕ → List ℕ
text_at octets = take (length_field octets - 10) (drop 10 (drop 4 octets))

-- What stands at the front. What isn't there says nothing: fewer than fourteen octets, or a text that isn't whole.
abbrev pub FrontAs : Session → List ℕ → Found → Type 0
FrontAs s octets Missing = length octets < 14
FrontAs s octets Begun =
    (14 ≤ length octets) × (has_header s octets ≡ true) × (length octets < 4 + length_field octets)
FrontAs s octets (Whole size) =
    (14 ≤ length octets) × (has_header s octets ≡ true) × (size ≡ 4 + length_field octets) × (size ≤ length octets)
    × IsText s.depth (text_at octets)
FrontAs s octets Other =
    (14 ≤ length octets)
    × ((has_header s octets ≡ false) ⊎ ((4 + length_field octets ≤ length octets) × (IsText s.depth (text_at octets) → ⊥)))
