-- Failure kinds: what similar failures have in common, as a number.
use Rattle.std.specs.Prelude.{◌≡◌, ◌+◌, ◌*◌, ◌^◌, ℕ}
use Rattle.hsms_frame.specs.Header.{IsHeader, kind_of}
use Rattle.hsms_frame.specs.declared.header.Header.{Header}
use Rattle.hsms_frame.specs.declared.kinds.Kind.{Kind}
use Rattle.hsms_frame.specs.declared.kinds.Kind.TheVariants.{Primary, Reply, SelectReq, SelectRsp, LinktestReq, LinktestRsp, Reject, Separate, OtherSType, OtherPType}
use Rattle.hsms_machine.specs.declared.entry.Cause.{Cause}
use Rattle.hsms_machine.specs.declared.entry.Cause.TheVariants.{T6, T7, T8, Length}
use Rattle.hsms_machine.specs.declared.entry.Mark.{Mark}
use Rattle.hsms_machine.specs.declared.entry.Mark.TheVariants.{Sent, Taken, Discarded}
use Rattle.hsms_machine.specs.declared.rule.Rule.{Rule}
use Rattle.hsms_machine.specs.Rule.{rule_number}
use Rattle.hsms_log.specs.declared.step.What.{What}
use Rattle.hsms_log.specs.declared.step.What.TheVariants.{Up, Frame, T3, Cut, Down}

abbrev pub kind_number : Kind → ℕ
kind_number Primary = 0
kind_number Reply = 1
kind_number SelectReq = 2
kind_number SelectRsp = 3
kind_number LinktestReq = 4
kind_number LinktestRsp = 5
kind_number Reject = 6
kind_number Separate = 7
kind_number OtherSType = 8
kind_number OtherPType = 9

-- For data, the stream with the W bit, and the function.
abbrev pub detail_of : Kind → Header → ℕ
detail_of Primary header = header.byte2 * 256 + header.byte3
detail_of Reply header = header.byte2 * 256 + header.byte3
detail_of kind header = 0

-- The session ID of a frame, its kind and its detail.
abbrev pub frame_number : Header → ℕ
frame_number header = (header.session * 16 + kind_number (kind_of header)) * 65536 + detail_of (kind_of header) header

abbrev pub mark_number : Mark → ℕ
mark_number Sent = 0
mark_number Taken = 1
mark_number Discarded = 2

abbrev pub cut_number : Cause → ℕ
cut_number T6 = 5
cut_number T7 = 6
cut_number T8 = 7
cut_number Length = 8

-- The number of an event; for a frame, of its direction. The frame itself has a number of its own.
abbrev pub event_number : What → ℕ
event_number (Frame mark header) = mark_number mark
event_number Up = 3
event_number (T3 system) = 4
event_number (Cut cause) = cut_number cause
event_number Down = 9

abbrev pub frame_of : What → ℕ
frame_of (Frame mark header) = frame_number header
frame_of what = 0

abbrev pub failure_kind_number : Rule → What → ℕ
failure_kind_number rule what = ((rule_number rule + 1) * 16 + event_number what) * 2 ^ 36 + frame_of what

-- Holds if the header of a frame is a header of ten bytes.
abbrev pub IsInRange : What → Type 0
IsInRange (Frame mark header) = IsHeader header
IsInRange what = Unit {0}

-- Failures of the same kind break the same rule, and have the same event and frame.
abbrev pub SortsAreApart : Type 0
SortsAreApart =
    (rule other : Rule) (what that : What) → IsInRange what → IsInRange that → failure_kind_number rule what ≡ failure_kind_number other that
    → (rule ≡ other) × (event_number what ≡ event_number that) × (frame_of what ≡ frame_of that)

-- Frames with the same number have the same session ID, kind and detail.
abbrev pub FramesAreApart : Type 0
FramesAreApart =
    (header other : Header) → IsHeader header → IsHeader other → frame_number header ≡ frame_number other
    → (header.session ≡ other.session) × (kind_of header ≡ kind_of other) × (detail_of (kind_of header) header ≡ detail_of (kind_of other) other)
