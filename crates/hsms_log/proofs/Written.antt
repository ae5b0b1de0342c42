-- What is written is read back.
use Rattle.std.proofs.Common.{◌≡◌, ◌<◌, ◌≤◌, ℕ, zero, suc, List, ◌∷◌, refl, arith}
use Rattle.hex.specs.Hex.{encode_lower}
use Rattle.hex.proofs.HexLemmas.{decode_of-encode_lower}
use Rattle.hsms_frame.specs.declared.header.Header.{Header}
use Rattle.hsms_frame.specs.Frame.{Frame, IsOctets}
use Rattle.hsms_frame.specs.Header.{header_octets, IsHeader}
use Rattle.hsms_frame.proofs.Octets.{IsOctets-append}
use Rattle.hsms_machine.specs.declared.entry.Entry.{Entry}
use Rattle.hsms_machine.specs.declared.entry.Event.{Event}
use Rattle.hsms_machine.specs.declared.entry.Event.TheVariants.{Up, Sent, Taken, Discarded, T3, Cut, Down}
use Rattle.hsms_machine.specs.Settings.{Parameters, IsWithinLimits}
use Rattle.hsms_log.specs.LineFormat.{EncodesEntry, EncodesEvent, EncodesSettings, IsEvent, IsEntry, IsMessage, message_octets, system_octets, event_text, entry_line, settings_line}
use Rattle.std.specs.Prelude.{Option, Some, length}
use Rattle.hsms_log.specs.LineFormat.{Carries, line_limit}
use Rattle.hsms_log.proofs.SettingsLaws.{settings_line-short, EncodesSettings-unique}
use Rattle.hsms_log.proofs.Uniqueness.{Carries-unique}

octets_cons : (x : ℕ) (xs : List ℕ) → x < 256 → IsOctets xs → IsOctets (x ∷ xs)
octets_cons x xs h k zero = h
octets_cons x xs h k (suc i) = k i

header_fits : (h : Header) → IsHeader h → IsOctets (header_octets h)
header_fits h f zero = omega arith
header_fits h f (suc zero) = omega arith
header_fits h f (suc (suc zero)) = omega arith
header_fits h f (suc (suc (suc zero))) = omega arith
header_fits h f (suc (suc (suc (suc zero)))) = omega arith
header_fits h f (suc (suc (suc (suc (suc zero))))) = omega arith
header_fits h f (suc (suc (suc (suc (suc (suc zero)))))) = omega arith
header_fits h f (suc (suc (suc (suc (suc (suc (suc zero))))))) = omega arith
header_fits h f (suc (suc (suc (suc (suc (suc (suc (suc zero)))))))) = omega arith
header_fits h f (suc (suc (suc (suc (suc (suc (suc (suc (suc zero))))))))) = omega arith
header_fits h f (suc (suc (suc (suc (suc (suc (suc (suc (suc (suc i)))))))))) = omega arith

pub message_fits : (frame : Frame) → IsMessage frame → IsOctets (message_octets frame)
unfolding message_octets
message_fits frame f = IsOctets-append (header_octets frame.header) frame.text (header_fits frame.header f.header) f.text

pub system_fits : (system : ℕ) → IsOctets (system_octets system)
unfolding system_octets
system_fits system zero = omega arith
system_fits system (suc zero) = omega arith
system_fits system (suc (suc zero)) = omega arith
system_fits system (suc (suc (suc zero))) = omega arith
system_fits system (suc (suc (suc (suc i)))) = omega arith

event_written : (event : Event) → IsEvent event → EncodesEvent (event_text event) event
event_written Up f = refl
event_written (Sent frame) f = (encode_lower (message_octets frame), decode_of-encode_lower (message_octets frame) (message_fits frame f), refl)
event_written (Taken frame) f = (encode_lower (message_octets frame), decode_of-encode_lower (message_octets frame) (message_fits frame f), refl)
event_written (Discarded frame) f = (encode_lower (message_octets frame), decode_of-encode_lower (message_octets frame) (message_fits frame f), refl)
event_written (T3 system) f = (encode_lower (system_octets system), decode_of-encode_lower (system_octets system) (system_fits system), refl)
event_written (Cut cause) f = refl
event_written Down f = refl

pub entry_written : (entry : Entry) → IsEntry entry → EncodesEntry (entry_line entry) entry
unfolding entry_line
entry_written entry f = record { fits = f; encoded_bytes = (event_text entry.event, event_written entry.event f.event, refl) }

pub settings_written : (s : Parameters) → IsWithinLimits s → EncodesSettings (settings_line s) s
settings_written s w = record { within = w; fits = settings_line-short s w; encoded_bytes = refl }

pub entry_read_back : (max : ℕ) (entry : Entry) → IsEntry entry → length (entry_line entry) ≤ line_limit max
    → Carries max (entry_line entry) (Some entry) × ((carried : Option Entry) → Carries max (entry_line entry) carried → carried ≡ Some entry)
entry_read_back max entry fits short =
    let carries : Carries max (entry_line entry) (Some entry) = (short, entry_written entry fits) in
    (carries, λ carried h. Carries-unique max (entry_line entry) carried (Some entry) h carries)

pub settings_read_back : (s t : Parameters) → EncodesSettings (settings_line s) t → IsWithinLimits s → t ≡ s
settings_read_back s t h within = EncodesSettings-unique (settings_line s) t s h (settings_written s within)
