-- What looks like HSMS in a capture and is not audited.
use Rattle.std.specs.Prelude.{◌≡◌, ◌⊎◌, ◌^◌, ◌-◌, ◌+◌, ◌==◌, ◌&&◌, ◌||◌, ℕ, Bool, true, false, not, min, nat_lt, if◌then◌else◌, List, [], fold, length, Option, Some, None}
use Rattle.std.specs.List.{list_any}
use Rattle.std.specs.declared.net.ip_addr.IpAddr.{IpAddr}
use Rattle.capture_log.specs.SocketPair.{IsOfPeer, pairs_at}
use Rattle.capture_log.specs.declared.socket_pair.Pair.{Pair}
use Rattle.capture_tcp.specs.declared.packet.Side.{Side}
use Rattle.hsms_frame.specs.declared.header.Header.{Header}
use Rattle.capture_midstream.specs.declared.buffered_packet.BufferedPacket.{BufferedPacket}
use Rattle.hsms_machine.specs.Settings.{Parameters}
use Rattle.capture_pcap.specs.declared.segment.Segment.{Segment}
use Rattle.capture_unjudged.specs.Devices.{AreDevices}
use Rattle.capture_unjudged.specs.Message.{IsMessage}
use Rattle.capture_unjudged.specs.Sets.{AddsPair, with_number}
use Rattle.capture_unjudged.specs.declared.unjudged.Unjudged.{Unjudged}

-- Holds if nothing is recorded yet.
pub record IsNone (port : ℕ) (peer : Option IpAddr) (settings : Parameters) (u : Unjudged) : Type 0 where
  pub port_is : u.port ≡ port
  pub peer_is : u.peer ≡ peer
  pub settings_are : u.settings ≡ settings
  pub running : (u.running.pairs.keys ≡ []) × (u.running.has_more ≡ false)
  pub elsewhere : (u.elsewhere.pairs.keys ≡ []) × (u.elsewhere.has_more ≡ false)
  pub strange : u.strange ≡ 0
  pub devices : u.devices.lowest.items ≡ []
  pub ports : u.ports.lowest.items ≡ []
  pub incomplete : u.is_complete ≡ false

-- Holds if the bytes of a segment are one message.
abbrev pub AreOne : Parameters → List ℕ → Type 0
AreOne s octets = (h : Header) × IsMessage s octets h

-- The lower of a segment's two ports.
abbrev pub lower_port : Segment → ℕ
lower_port segment = min segment.source_port segment.target_port

abbrev pub is_at : ℕ → Segment → Bool
is_at port segment = (segment.source_port == port) || (segment.target_port == port)

-- A segment of other addresses than `--with` counts for its pair, and one of another port for its lower port.
abbrev pub PassesOf : Option (Pair × Side × Option Pair) → Segment → Unjudged → Unjudged → Type 0
PassesOf None segment old new = new ≡ old
PassesOf (Some found) segment old new =
    ((IsOfPeer old.peer found.0 → ⊥) × AddsPair found.0 old.elsewhere new.elsewhere × (new ≡ record old { elsewhere = new.elsewhere }))
    ⊎ (IsOfPeer old.peer found.0 × (is_at old.port segment ≡ true) × (new ≡ old))
    ⊎ (IsOfPeer old.peer found.0 × (is_at old.port segment ≡ false)
    × (new.ports.lowest.items ≡ with_number old.ports.lowest.items (lower_port segment)) × (new ≡ record old { ports = new.ports }))

abbrev pub Passes : Segment → List ℕ → Unjudged → Unjudged → Type 0
Passes segment octets old new =
    (AreOne old.settings octets × PassesOf (pairs_at (lower_port segment) segment) segment old new)
    ⊎ ((AreOne old.settings octets → ⊥) × (new ≡ old))

-- Holds if a segment of a midstream session counts for its pair.
abbrev pub Runs : Pair → List ℕ → Unjudged → Unjudged → Type 0
Runs pair octets old new =
    (AreOne old.settings octets × AddsPair pair old.running new.running × (new ≡ record old { running = new.running }))
    ⊎ ((AreOne old.settings octets → ⊥) × (new ≡ old))

-- True if there are data messages, and none has the device ID that is audited.
abbrev pub are_strange : ℕ → List ℕ → Bool
are_strange device devices = nat_lt 0 (length devices) && not (list_any (λ d. d == device) devices)

-- A session counts as one with other device IDs if some of its packets are data messages, and none has the device ID
-- that is audited.
abbrev pub GivesUp : List BufferedPacket → Unjudged → Unjudged → Type 0
GivesUp packets old new =
    (devices : List ℕ) × AreDevices old.settings packets [] devices
    × (((are_strange old.settings.device devices ≡ true) × (new.strange ≡ min (old.strange + 1) (2 ^ 64 - 1))
    × (new.devices.lowest.items ≡ fold with_number old.devices.lowest.items devices)
    × (new ≡ record old { strange = new.strange; devices = new.devices }))
    ⊎ ((are_strange old.settings.device devices ≡ false) × (new ≡ old)))

-- True if something is not audited that no option excludes.
abbrev pub is_refused : Bool → Unjudged → Bool
is_refused has_port u =
    nat_lt 0 (length u.running.pairs.keys)
    || (nat_lt 0 u.strange || (not has_port && nat_lt 0 (length u.ports.lowest.items)))
