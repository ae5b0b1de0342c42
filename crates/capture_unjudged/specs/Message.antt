-- Segments that are one HSMS message (SEMI E37, section 8).
use Rattle.std.specs.Prelude.{◌≡◌, ◌≤◌, ◌==◌, ◌&&◌, ◌||◌, ℕ, Bool, true, false, nat_le, nat_lt, List, length, take, drop}
use Rattle.secs_item.specs.Encoding.{IsText}
use Rattle.hsms_frame.specs.declared.header.Header.{Header}
use Rattle.hsms_frame.specs.declared.kinds.Kind.{Kind}
use Rattle.hsms_frame.specs.declared.kinds.Kind.TheVariants.{Primary, Reply, SelectReq, SelectRsp, LinktestReq, LinktestRsp, Reject, Separate, OtherSType, OtherPType}
use Rattle.hsms_frame.specs.Frame.{length_field}
use Rattle.hsms_frame.specs.Header.{kind_of, stream_of}
use Rattle.capture_midstream.specs.MessageCheck.{header_of}
use Rattle.hsms_machine.specs.Settings.{Parameters}

-- True if a length field counts this many bytes, at most `max`.
abbrev pub is_length : ℕ → ℕ → ℕ → Bool
is_length field count max = (count == field) && nat_le field max

-- True if a data message has a device ID and a stream. One without a text has system bytes, so that a few zeros after a
-- length are not a data message.
abbrev pub may_be_data : Header → ℕ → Bool
may_be_data h count = nat_le h.session 32767 && (nat_lt 0 (stream_of h) && (nat_lt 0 count || nat_lt 0 h.system))

-- True if a control message has the session ID ffff, and no text.
abbrev pub is_bare : Header → ℕ → Bool
is_bare h count = (count == 0) && (h.session == 65535)

abbrev pub may_by : Kind → Header → ℕ → Bool
may_by Primary h count = may_be_data h count
may_by Reply h count = may_be_data h count
may_by SelectReq h count = is_bare h count
may_by SelectRsp h count = is_bare h count
may_by LinktestReq h count = is_bare h count
may_by LinktestRsp h count = is_bare h count
may_by Reject h count = is_bare h count
may_by Separate h count = is_bare h count
may_by OtherSType h count = false
may_by OtherPType h count = false

-- True if a message with this header may have a text of `count` bytes.
abbrev pub may_have : Header → ℕ → Bool
may_have h count = may_by (kind_of h) h count

-- The bytes after the length field, and those after the header.
abbrev pub counted_in : List ℕ → List ℕ
counted_in octets = drop 4 octets

abbrev pub text_in : List ℕ → List ℕ
text_in octets = drop 10 (counted_in octets)

-- Holds if the bytes are one message with this header: the length, the header, and a text that is empty or one item.
pub record IsMessage (s : Parameters) (octets : List ℕ) (h : Header) : Type 0 where
  pub there : 14 ≤ length octets
  pub length_is : is_length (length_field octets) (length (counted_in octets)) s.max ≡ true
  pub header_is : h ≡ header_of (take 10 (counted_in octets))
  pub kind : may_have h (length (text_in octets)) ≡ true
  pub text : IsText s.depth (text_in octets)
