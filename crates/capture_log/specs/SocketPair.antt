-- The connections that are looked at: the pair of ends that a segment belongs to, and the end that sent it.
use Rattle.std.specs.Prelude.{◌≡◌, ◌⊎◌, ◌==◌, ◌&&◌, ◌||◌, not, if◌then◌else◌, ℕ, Bool, Option, Some, None, is_some, is_none, ⊤}
use Rattle.std.specs.Int.{bit_at, w32, w128, to_be_bytes}
use Rattle.std.specs.Net.Addr.{segments_of}
use Rattle.std.specs.Net.Socket.{socket_ip}
use Rattle.std.specs.declared.net.ip_addr.IpAddr.{IpAddr}
use Rattle.std.specs.declared.net.ip_addr.IpAddr.TheVariants as Ip
use Rattle.std.specs.declared.net.socket_addr.SocketAddr.{SocketAddr}
use Rattle.std.specs.declared.net.socket_addr.SocketAddr.TheVariants as socket
use Rattle.capture_pcap.specs.declared.segment.Address.{Address}
use Rattle.capture_pcap.specs.declared.segment.Address.TheVariants.{V4, V6}
use Rattle.capture_pcap.specs.contracts.segment.AddressPartialEq.TheImpl as same_address
use Rattle.capture_pcap.specs.declared.segment.Segment.{Segment}
use Rattle.capture_tcp.specs.declared.packet.Side.{Side}
use Rattle.capture_tcp.specs.declared.packet.Side.TheVariants.{Active, Passive}
use Rattle.capture_log.specs.declared.socket_pair.Pair.{Pair}

-- one end has this address, where one is asked for
abbrev pub IsOfPeer : Option IpAddr → Pair → Type 0
IsOfPeer None _ = ⊤
IsOfPeer (Some address) pair = (socket_ip pair.active ≡ address) ⊎ (socket_ip pair.passive ≡ address)

-- the same two ends, where the other one connected
abbrev pub turned : Pair → Pair
turned pair = record { active = pair.passive; passive = pair.active }

-- the ends have the same addresses, those that connected and those that were connected to
abbrev pub HaveSameAddresses : Pair → Pair → Type 0
HaveSameAddresses one other = (socket_ip one.active ≡ socket_ip other.active) × (socket_ip one.passive ≡ socket_ip other.passive)

-- ---- the ends of a segment

-- the octets of an address are those of its number, the highest first
abbrev pub ip_of : Address → IpAddr
ip_of (V4 number) = Ip.V4 (record { octets = to_be_bytes w32 number })
ip_of (V6 number) = Ip.V6 (record { segments = segments_of (to_be_bytes w128 number) })

-- an address and a port, and nothing else
abbrev pub socket_at : IpAddr → ℕ → SocketAddr
socket_at (Ip.V4 address) port = socket.V4 (record { ip = address; port = port })
socket_at (Ip.V6 address) port = socket.V6 (record { ip = address; port = port; flowinfo = 0; scope_id = 0 })

abbrev pub source_of : Segment → SocketAddr
source_of segment = socket_at (ip_of segment.source) segment.source_port

abbrev pub target_of : Segment → SocketAddr
target_of segment = socket_at (ip_of segment.target) segment.target_port

-- the pair of a segment that this end sent: it goes from this end to the other one
abbrev pub pair_by : Side → Segment → Pair
pair_by Active segment = record { active = source_of segment; passive = target_of segment }
pair_by Passive segment = record { active = target_of segment; passive = source_of segment }

-- ---- the end that sent a segment, where the passive end has a port

-- SYN is bit 1 of TCP's flags
abbrev pub has_syn : Segment → Bool
has_syn segment = bit_at segment.flags 1 == 1

abbrev pub is_first_syn : Segment → Bool
is_first_syn segment = has_syn segment && is_none segment.acknowledged

abbrev pub is_syn_with_ack : Segment → Bool
is_syn_with_ack segment = has_syn segment && is_some segment.acknowledged

-- it goes from an address to itself
abbrev pub is_own : Segment → Bool
is_own segment = (same_address.ghosts).eq segment.source segment.target

-- What goes to the port may come from the active end, and what comes from the port from the passive one. Where both ends
-- have the port, the active one sends no SYN with ACK, and the passive one none without, and they have two addresses.
abbrev pub may_send : Side → ℕ → Segment → Bool
may_send Active port segment = (segment.target_port == port) && not ((segment.source_port == port) && (is_own segment || is_syn_with_ack segment))
may_send Passive port segment = (segment.source_port == port) && not ((segment.target_port == port) && (is_own segment || is_first_syn segment))

-- the pair where the active end sent a segment, or else the one where the passive end did; and where either may have, the
-- second one too
abbrev pub pairs_at : ℕ → Segment → Option (Pair × Side × Option Pair)
pairs_at port segment =
    if may_send Active port segment then
    Some (pair_by Active segment, Active, (if may_send Passive port segment then Some (pair_by Passive segment) else None))
    else (if may_send Passive port segment then Some (pair_by Passive segment, Passive, None) else None)
