-- The scripts of IP addresses are lawful.
use Rattle.std.specs.Prelude.{ℕ, Bool, true, false, List, refl}
use Rattle.std.specs.Net.Addr.{ipv4_octets, ipv6_octets, ipv6_segments}
use Rattle.std.specs.Net.Text.{ipv4_text, ipv6_text, ip_text}
use Rattle.std.specs.declared.net.ip_addr.IpAddr.TheVariants as ip
use Rattle.content_ser.specs.Scripts.Addresses.{text_or, octets_script, ipv4_script, ipv6_script}
use Rattle.content_ser.specs.Scripts.Addresses.{version_script, ip_script}
use Rattle.content_ser.specs.Scripts.Script.{Script, IsLawful}
use Rattle.content_ser.specs.Laws.Arrays.{array_lawful}
use Rattle.content_ser.specs.Laws.OwnScripts.{newtype_variant_lawful}
use Rattle.content_ser.specs.Laws.StandardScripts.{AllLawful, leaf_lawful}

-- a text, or another lawful script
text_or_lawful : (text : List ℕ) (other : Bool → Script) → ((h : Bool) → IsLawful (other h)) → (h : Bool) → IsLawful (text_or text other h)
text_or_lawful text other law true = leaf_lawful refl
text_or_lawful text other law false = law false

-- so many octets
octets_lawful : (len : ℕ) → AllLawful (octets_script len)
octets_lawful len = array_lawful len (λ octet h. leaf_lawful refl)

-- an IPv4 address
pub ipv4_lawful : AllLawful ipv4_script
ipv4_lawful a h = text_or_lawful (ipv4_text (ipv4_octets a)) _ (octets_lawful 4 (ipv4_octets a)) h

-- an IPv6 address
pub ipv6_lawful : AllLawful ipv6_script
ipv6_lawful a h = text_or_lawful (ipv6_text (ipv6_segments a)) _ (octets_lawful 16 (ipv6_octets a)) h

-- a variant of its version
version_lawful : AllLawful version_script
version_lawful (ip.V4 a) h = newtype_variant_lawful (ipv4_lawful a h)
version_lawful (ip.V6 a) h = newtype_variant_lawful (ipv6_lawful a h)

-- an address of either version
pub ip_lawful : AllLawful ip_script
ip_lawful a h = text_or_lawful (ip_text a) _ (version_lawful a) h
