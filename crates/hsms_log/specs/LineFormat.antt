-- The bytes that encode settings and entries (project-specific log text; header and text of a message as in SEMI E37,
-- section 8). Numbers are decimal, and words have one space between them.
use Rattle.std.specs.Prelude.{◌≡◌, ◌≤◌, ◌<◌, ◌+◌, ◌*◌, ◌^◌, ◌++◌, ℕ, List, [], ◌∷◌, Option, Some, None, Ok, length, codes, decimal}
use Rattle.std.specs.List.{join_with_byte}
use Rattle.std.specs.Int.{w32, to_be_bytes}
use Rattle.std.specs.Str.Lines.{strip_carriage_return}
use Rattle.hex.specs.Hex.{decode_of, encode_lower}
use Rattle.hsms_frame.specs.Frame.{Frame, IsOctets}
use Rattle.hsms_frame.specs.Header.{header_octets, IsHeader}
use Rattle.hsms_machine.specs.declared.settings.Role.{Role}
use Rattle.hsms_machine.specs.declared.settings.Role.TheVariants.{Host, Equipment}
use Rattle.hsms_machine.specs.declared.settings.Side.{Side}
use Rattle.hsms_machine.specs.declared.settings.Side.TheVariants.{Active, Passive}
use Rattle.hsms_machine.specs.declared.entry.Entry.{Entry}
use Rattle.hsms_machine.specs.declared.entry.Event.{Event}
use Rattle.hsms_machine.specs.declared.entry.Event.TheVariants.{Up, Sent, Taken, Discarded, T3, Cut, Down}
use Rattle.hsms_machine.specs.declared.entry.Cause.{Cause}
use Rattle.hsms_machine.specs.declared.entry.Cause.TheVariants.{T6, T7, T8, Length}
use Rattle.hsms_machine.specs.Settings.{Parameters, IsWithinLimits}
use Rattle.hsms_log.specs.Lines.{HasNone}

-- The maximum length of the first line, without its end.
abbrev pub settings_limit : ℕ
settings_limit = 256

-- The maximum length of a later line, without its end.
abbrev pub line_limit : ℕ → ℕ
line_limit max = 2 * max + 64

abbrev pub role_word : Role → List ℕ
role_word Host = codes "host"
role_word Equipment = codes "equipment"

abbrev pub link_word : Side → List ℕ
link_word Active = codes "active"
link_word Passive = codes "passive"

abbrev pub settings_words : Parameters → List (List ℕ)
settings_words s =
    codes "hsms-log" ∷ decimal s.version ∷ role_word s.role ∷ link_word s.link ∷ decimal s.device
    ∷ decimal s.t3 ∷ decimal s.t6 ∷ decimal s.t7 ∷ decimal s.t8 ∷ decimal s.max ∷ decimal s.depth ∷ []

-- The only line that encodes the settings.
unfoldable pub settings_line : Parameters → List ℕ
settings_line s = join_with_byte 32 (settings_words s)

-- Holds if the line encodes the settings.
pub record EncodesSettings (line : List ℕ) (s : Parameters) : Type 0 where
  pub within : IsWithinLimits s
  pub fits : length line ≤ settings_limit
  pub encoded_bytes : line ≡ settings_line s

-- Header and text, without the length field.
unfoldable pub message_octets : Frame → List ℕ
message_octets frame = header_octets frame.header ++ frame.text

-- The four system bytes.
unfoldable pub system_octets : ℕ → List ℕ
system_octets system = to_be_bytes w32 system

-- Holds if hexadecimal digits of either case encode these bytes.
abbrev pub IsHexOf : List ℕ → List ℕ → Type 0
IsHexOf digits octets = decode_of digits ≡ Ok octets

abbrev pub cause_word : Cause → List ℕ
cause_word T6 = codes "t6"
cause_word T7 = codes "t7"
cause_word T8 = codes "t8"
cause_word Length = codes "length"

-- Holds for a mark, a space and hexadecimal digits of these bytes.
abbrev pub EncodesOctets : List ℕ → List ℕ → List ℕ → Type 0
EncodesOctets text mark octets = (digits : List ℕ) × IsHexOf digits octets × (text ≡ mark ++ 32 ∷ digits)

-- Holds if what follows the time encodes the event.
abbrev pub EncodesEvent : List ℕ → Event → Type 0
EncodesEvent text Up = text ≡ codes "up"
EncodesEvent text (Sent frame) = EncodesOctets text (codes ">") (message_octets frame)
EncodesEvent text (Taken frame) = EncodesOctets text (codes "<") (message_octets frame)
EncodesEvent text (Discarded frame) = EncodesOctets text (codes "!") (message_octets frame)
EncodesEvent text (T3 system) = EncodesOctets text (codes "t3") (system_octets system)
EncodesEvent text (Cut cause) = text ≡ codes "cut " ++ cause_word cause
EncodesEvent text Down = text ≡ codes "down"

-- Holds if each number of a message is within its range.
pub record IsMessage (frame : Frame) : Type 0 where
  pub header : IsHeader frame.header
  pub text : IsOctets frame.text

abbrev pub IsEvent : Event → Type 0
IsEvent Up = Unit {0}
IsEvent (Sent frame) = IsMessage frame
IsEvent (Taken frame) = IsMessage frame
IsEvent (Discarded frame) = IsMessage frame
IsEvent (T3 system) = system < 2 ^ 32
IsEvent (Cut cause) = Unit {0}
IsEvent Down = Unit {0}

-- Holds if each number of an entry is within its range.
pub record IsEntry (entry : Entry) : Type 0 where
  pub time : entry.time < 2 ^ 64
  pub event : IsEvent entry.event

-- Holds if the line encodes the entry: its time, a space, its event.
pub record EncodesEntry (line : List ℕ) (entry : Entry) : Type 0 where
  pub fits : IsEntry entry
  pub encoded_bytes : (text : List ℕ) × EncodesEvent text entry.event × (line ≡ decimal entry.time ++ 32 ∷ text)

-- Holds if the line is empty, or a comment.
abbrev pub IsBlank : List ℕ → Type 0
IsBlank [] = Unit {0}
IsBlank (octet ∷ octets) = octet ≡ 35

-- Holds for a comment on one line, within the limit of each line.
pub record IsComment (line : List ℕ) : Type 0 where
  pub blank : IsBlank line
  pub one : HasNone 10 line
  pub whole : strip_carriage_return line ≡ line
  pub fits : length line ≤ settings_limit

-- Holds if the line contains this entry, or none.
abbrev pub Carries : ℕ → List ℕ → Option Entry → Type 0
Carries max line None = (length line ≤ line_limit max) × IsBlank line
Carries max line (Some entry) = (length line ≤ line_limit max) × EncodesEntry line entry

-- The event as it is written.
abbrev pub event_text : Event → List ℕ
event_text Up = codes "up"
event_text (Sent frame) = codes "> " ++ encode_lower (message_octets frame)
event_text (Taken frame) = codes "< " ++ encode_lower (message_octets frame)
event_text (Discarded frame) = codes "! " ++ encode_lower (message_octets frame)
event_text (T3 system) = codes "t3 " ++ encode_lower (system_octets system)
event_text (Cut cause) = codes "cut " ++ cause_word cause
event_text Down = codes "down"

-- The entry as it is written: hexadecimal digits are in lower case.
unfoldable pub entry_line : Entry → List ℕ
entry_line entry = decimal entry.time ++ 32 ∷ event_text entry.event
