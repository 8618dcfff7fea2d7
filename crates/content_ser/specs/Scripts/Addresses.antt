-- The scripts of IP addresses: their text where the serialiser is human readable, and else their octets.
use Rattle.std.specs.Prelude.{ℕ, Bool, List, codes, if◌then◌else◌}
use Rattle.std.specs.Net.Addr.{ipv4_octets, ipv6_octets, ipv6_segments}
use Rattle.std.specs.Net.Text.{ipv4_text, ipv6_text, ip_text}
use Rattle.std.specs.declared.net.ip_addr.IpAddr.{IpAddr}
use Rattle.std.specs.declared.net.ip_addr.IpAddr.TheVariants as ip
use Rattle.std.specs.declared.net.ipv4_addr.Ipv4Addr.{Ipv4Addr}
use Rattle.std.specs.declared.net.ipv6_addr.Ipv6Addr.{Ipv6Addr}
use Rattle.content_tree.specs.declared.number.Number.TheVariants as num
use Rattle.content_ser.specs.Calls.Event as event
use Rattle.content_ser.specs.Scripts.Arrays.{array_script}
use Rattle.content_ser.specs.Scripts.Own.{newtype_variant_script}
use Rattle.content_ser.specs.Scripts.Script.{Script}
use Rattle.content_ser.specs.Scripts.Standard.{ScriptOf, only}

-- a text where the serialiser is human readable, and else this script
abbrev pub text_or : List ℕ → (Bool → Script) → Bool → Script
text_or text other h = if h then only (event.text text) h else other h

-- an array of so many octets
abbrev pub octets_script : ℕ → ScriptOf (List ℕ)
octets_script len = array_script len (λ octet. only (event.number (num.U8 octet)))

-- an IPv4 address
abbrev pub ipv4_script : ScriptOf Ipv4Addr
ipv4_script a = text_or (ipv4_text (ipv4_octets a)) (octets_script 4 (ipv4_octets a))

-- an IPv6 address
abbrev pub ipv6_script : ScriptOf Ipv6Addr
ipv6_script a = text_or (ipv6_text (ipv6_segments a)) (octets_script 16 (ipv6_octets a))

-- an address as a variant of its version
abbrev pub version_script : ScriptOf IpAddr
version_script (ip.V4 a) = newtype_variant_script (codes "IpAddr") 0 (codes "V4") (ipv4_script a)
version_script (ip.V6 a) = newtype_variant_script (codes "IpAddr") 1 (codes "V6") (ipv6_script a)

-- an address of either version
abbrev pub ip_script : ScriptOf IpAddr
ip_script a = text_or (ip_text a) (version_script a)
