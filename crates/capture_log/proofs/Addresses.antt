-- An address and a port are what std says of them.
use Rattle.std.proofs.Common.{◌≡◌, ℕ, List, ap, subst}
use Rattle.std.specs.Net.Addr.{IsIpv4OfBits, IsIpv6OfBits}
use Rattle.std.specs.Net.Socket.{socket_flowinfo, socket_ip, socket_port, socket_scope_id}
use Rattle.std.specs.declared.net.ipv4_addr.Ipv4Addr.{Ipv4Addr}
use Rattle.std.specs.declared.net.ipv6_addr.Ipv6Addr.{Ipv6Addr}
use Rattle.std.specs.declared.net.ip_addr.IpAddr.{IpAddr}
use Rattle.std.specs.declared.net.ip_addr.IpAddr.TheVariants as Ip
use Rattle.std.specs.declared.net.socket_addr.SocketAddr.{SocketAddr}
use Rattle.std.specs.declared.net.socket_addr.SocketAddr.TheVariants as socket
use Rattle.capture_pcap.specs.declared.segment.Address.TheVariants.{V4, V6}
use Rattle.capture_log.specs.SocketPair.{ip_of, socket_at}

pub v4_is : (address : Ipv4Addr) (number : ℕ) → IsIpv4OfBits address number → Ip.V4 address ≡ ip_of (V4 number)
unfolding IsIpv4OfBits
v4_is address number is = ap (λ (octets : List ℕ). Ip.V4 (record { octets = octets })) is

pub v6_is : (address : Ipv6Addr) (number : ℕ) → IsIpv6OfBits address number → Ip.V6 address ≡ ip_of (V6 number)
unfolding IsIpv6OfBits
v6_is address number is = ap (λ (segments : List ℕ). Ip.V6 (record { segments = segments })) is

pub socket_is : (end : SocketAddr) (address : IpAddr) (port : ℕ) → socket_ip end ≡ address → socket_port end ≡ port → socket_flowinfo end ≡ 0
    → socket_scope_id end ≡ 0 → end ≡ socket_at address port
socket_is (socket.V4 end) address port address_is port_is no_flow no_scope =
    subst (λ (a : IpAddr). socket.V4 end ≡ socket_at a port) address_is (λ i. socket.V4 (record { ip = end.ip; port = port_is i }))
socket_is (socket.V6 end) address port address_is port_is no_flow no_scope =
    subst (λ (a : IpAddr). socket.V6 end ≡ socket_at a port) address_is
    (λ i. socket.V6 (record { ip = end.ip; port = port_is i; flowinfo = no_flow i; scope_id = no_scope i }))
