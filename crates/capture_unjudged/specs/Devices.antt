-- The device IDs of the data messages in the packets of a session.
use Rattle.std.specs.Prelude.{◌≡◌, ◌⊎◌, ◌++◌, ◌==◌, ◌||◌, ℕ, Bool, true, false, List, [], ◌∷◌}
use Rattle.hsms_frame.specs.declared.header.Header.{Header}
use Rattle.hsms_frame.specs.declared.kinds.Kind.{Kind}
use Rattle.hsms_frame.specs.declared.kinds.Kind.TheVariants.{Primary, Reply}
use Rattle.hsms_frame.specs.Header.{kind_of}
use Rattle.capture_midstream.specs.declared.buffered_packet.BufferedPacket.{BufferedPacket}
use Rattle.hsms_machine.specs.Settings.{Parameters}
use Rattle.capture_unjudged.specs.Message.{IsMessage}

abbrev pub is_data : Kind → Bool
is_data Primary = true
is_data Reply = true
is_data _ = false

-- Holds if the bytes of a segment are one data message with this device ID.
abbrev pub IsDevice : Parameters → List ℕ → ℕ → Type 0
IsDevice s octets device =
    (h : Header) × IsMessage s octets h × (is_data (kind_of h) ≡ true) × (device ≡ h.session)

-- Holds if the device IDs of the packets that are one data message are appended, in order.
unfoldable pub AreDevices : Parameters → List BufferedPacket → List ℕ → List ℕ → Type 0
AreDevices s [] old new = new ≡ old
AreDevices s (g ∷ gs) old new =
    ((device : ℕ) × IsDevice s g.octets.items device × AreDevices s gs (old ++ device ∷ []) new)
    ⊎ (((device : ℕ) → IsDevice s g.octets.items device → ⊥) × AreDevices s gs old new)
