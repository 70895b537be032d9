-- Buckets of addresses, by which connections are counted.
use Rattle.std.specs.{Prelude.{ℕ, ◌+◌, ◌*◌, ◌%◌, Bool, List, [], ◌∷◌, nat_eq, slice_index, if◌then◌else◌}, List.starts_with, Net.{Addr.{ipv4_octets, ipv6_segments}, Socket.socket_ip}, declared.net.{ip_addr.IpAddr.{IpAddr, TheVariants.{V4, V6}}, socket_addr.SocketAddr.SocketAddr}}

-- an IPv4-mapped address, `::ffff:a.b.c.d` (RFC 4291 section 2.5.5.2)
abbrev pub is_ipv4_mapped : List ℕ → Bool
is_ipv4_mapped segments = starts_with nat_eq segments (0 ∷ 0 ∷ 0 ∷ 0 ∷ 0 ∷ 0xffff ∷ [])

-- the bucket of an IPv6 address with these segments: by the first four, its network of 64 bits, in which a host may take any address,
-- or by the last two octets of the IPv4 address that it maps, which are its last segment
abbrev pub ipv6_bucket : List ℕ → ℕ
ipv6_bucket segments = if is_ipv4_mapped segments then slice_index segments 7 % 1024
    else ((slice_index segments 0 + slice_index segments 1) + (slice_index segments 2 + slice_index segments 3)) % 1024

-- the bucket of a host, one of 1,024: by the last two octets of an IPv4 address, or by an IPv6 one
abbrev pub host_bucket : IpAddr → ℕ
host_bucket (V4 address) = (slice_index (ipv4_octets address) 2 * 256 + slice_index (ipv4_octets address) 3) % 1024
host_bucket (V6 address) = ipv6_bucket (ipv6_segments address)

-- the bucket of an address
abbrev pub bucket_of : SocketAddr → ℕ
bucket_of address = host_bucket (socket_ip address)
