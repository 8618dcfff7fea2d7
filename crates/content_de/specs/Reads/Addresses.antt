-- What IP addresses read: a text where that is human readable, and else their octets.
use Rattle.std.specs.Prelude.{◌≡◌, ℕ, pos, Bool, true, false, ◌||◌, List, [], ◌∷◌, Option, Some, None, is_some, codes, if◌then◌else◌}
use Rattle.std.specs.Net.Addr.{ipv4_octets, ipv6_segments, segments_of}
use Rattle.std.specs.Net.Grammar.{IsIpv4Text, IsIpv6Text, IsIpText}
use Rattle.std.specs.Net.Reader.{read_ipv4, read_ipv6, whole_value}
use Rattle.std.specs.declared.net.ip_addr.IpAddr.{IpAddr}
use Rattle.std.specs.declared.net.ip_addr.IpAddr.TheVariants as ip
use Rattle.std.specs.declared.net.ipv4_addr.Ipv4Addr.{Ipv4Addr}
use Rattle.std.specs.declared.net.ipv6_addr.Ipv6Addr.{Ipv6Addr}
use Rattle.content_tree.specs.Errors.Cause.{Cause, custom}
use Rattle.content_tree.specs.Values.Ranges as kind
use Rattle.content_de.specs.Accesses.Enum.{VariantLeft}
use Rattle.content_de.specs.Accesses.Seq.{tuple_at}
use Rattle.content_de.specs.Outcomes.{taken, refusal_of, refusal_then, IsTaken}
use Rattle.content_de.specs.Reads.Arrays.{array_refusal, PartsAlike}
use Rattle.content_de.specs.Reads.Own.{enum_refusal, EnumGives, newtype_variant_refusal}
use Rattle.content_de.specs.Reads.Own.{NewtypeVariantGives, no_variant_of, variant_or}
use Rattle.content_de.specs.Reads.Read.{Refusal, Gives}
use Rattle.content_de.specs.Requests.Leaves.{text_from}
use Rattle.content_de.specs.Requests.Numbers.{number_from}

-- the text writes an IPv4 address
abbrev pub is_ipv4_text : List ℕ → Bool
is_ipv4_text text = is_some (whole_value (read_ipv4 text))

-- the text writes an IPv6 address
abbrev pub is_ipv6_text : List ℕ → Bool
is_ipv6_text text = is_some (whole_value (read_ipv6 text))

-- the text writes an address of either version
abbrev pub is_ip_text : List ℕ → Bool
is_ip_text text = is_ipv4_text text || is_ipv6_text text

-- what doesn't write an address is refused with this text
abbrev pub unless_written : List ℕ → Bool → Option Cause
unless_written message written = if written then None else Some (custom message)

-- a text where what is read is human readable, and else otherwise
abbrev pub text_or_refusal : (List ℕ → Option Cause) → Refusal → Refusal
text_or_refusal text other s = elim s.flags.human_readable [
  | true ↦ refusal_then (text_from s.origin) (λ t. text t.content)
  | false ↦ other s
]

-- the same of what may be given
abbrev pub TextOrGives : {A : Type 0} → (List ℕ → A → Type 0) → Gives A → Gives A
TextOrGives text other s a = elim s.flags.human_readable [
  | true ↦ IsTaken (text_from s.origin) (λ t. text t.content a)
  | false ↦ other s a
]

-- an array of so many octets
abbrev pub octets_refusal : ℕ → Refusal
octets_refusal len s = refusal_then (tuple_at len s) (array_refusal len (λ octet. refusal_of (number_from kind.u8 octet)))

-- these octets
abbrev pub OctetsGive : ℕ → Gives (List ℕ)
OctetsGive len s octets = IsTaken (tuple_at len s) (PartsAlike (λ octet x. number_from kind.u8 octet ≡ taken (pos x)) len octets)

-- the refusal of a text that writes no IPv4 address
abbrev pub ipv4_text_refusal : List ℕ → Option Cause
ipv4_text_refusal text = unless_written (codes "invalid IPv4 address syntax") (is_ipv4_text text)

-- an IPv4 address
abbrev pub ipv4_refusal : Refusal
ipv4_refusal = text_or_refusal ipv4_text_refusal (octets_refusal 4)

-- the IPv4 address of a text, or of four octets
abbrev pub Ipv4Gives : Gives Ipv4Addr
Ipv4Gives = TextOrGives IsIpv4Text (λ s a. OctetsGive 4 s (ipv4_octets a))

-- the refusal of a text that writes no IPv6 address
abbrev pub ipv6_text_refusal : List ℕ → Option Cause
ipv6_text_refusal text = unless_written (codes "invalid IPv6 address syntax") (is_ipv6_text text)

-- an IPv6 address
abbrev pub ipv6_refusal : Refusal
ipv6_refusal = text_or_refusal ipv6_text_refusal (octets_refusal 16)

-- the IPv6 address of sixteen octets
abbrev pub Ipv6OfOctets : Gives Ipv6Addr
Ipv6OfOctets s a = (octets : List ℕ) × OctetsGive 16 s octets × (ipv6_segments a ≡ segments_of octets)

-- the IPv6 address of a text, or of sixteen octets
abbrev pub Ipv6Gives : Gives Ipv6Addr
Ipv6Gives = TextOrGives IsIpv6Text Ipv6OfOctets

-- the refusal of a text that writes no address
abbrev pub ip_text_refusal : List ℕ → Option Cause
ip_text_refusal text = unless_written (codes "invalid IP address syntax") (is_ip_text text)

-- the variants of the versions
abbrev pub version_refusal : List ℕ → VariantLeft → Option Cause
version_refusal =
    variant_or (codes "V4") (newtype_variant_refusal ipv4_refusal)
    (variant_or (codes "V6") (newtype_variant_refusal ipv6_refusal)
    (no_variant_of (codes "V4" ∷ codes "V6" ∷ [])))

-- the address that the variant of this name holds
abbrev pub IsVersion : List ℕ → VariantLeft → IpAddr → Type 0
IsVersion version v (ip.V4 a) = (version ≡ codes "V4") × NewtypeVariantGives Ipv4Gives a v
IsVersion version v (ip.V6 a) = (version ≡ codes "V6") × NewtypeVariantGives Ipv6Gives a v

-- an address of either version
abbrev pub ip_refusal : Refusal
ip_refusal = text_or_refusal ip_text_refusal (enum_refusal (codes "IpAddr") version_refusal)

-- the address that a variant of its version holds
abbrev pub VersionGives : Gives IpAddr
VersionGives s (ip.V4 a) = EnumGives (codes "IpAddr") (codes "V4") (NewtypeVariantGives Ipv4Gives a) s
VersionGives s (ip.V6 a) = EnumGives (codes "IpAddr") (codes "V6") (NewtypeVariantGives Ipv6Gives a) s

-- the address of a text, or of a variant
abbrev pub IpGives : Gives IpAddr
IpGives = TextOrGives IsIpText VersionGives
