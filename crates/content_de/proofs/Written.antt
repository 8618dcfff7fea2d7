-- Texts that write an IP address, and others.
use Rattle.std.proofs.Common.{◌≡◌, ℕ, true, false, List, [], ◌∷◌, ◌++◌, length, Some, None, is_some, refl, sym, ap, subst, ◌∙◌, append-nil, lit≤, ne_eqb, arith}
use Rattle.std.proofs.lemmas.Bool.{or_right}
use Rattle.std.specs.declared.net.ipv4_addr.Ipv4Addr.{Ipv4Addr}
use Rattle.std.specs.declared.net.ipv6_addr.Ipv6Addr.{Ipv6Addr}
use Rattle.std.specs.declared.net.ip_addr.IpAddr.{IpAddr}
use Rattle.std.specs.declared.net.ip_addr.IpAddr.TheVariants as ip
use Rattle.std.specs.Net.Grammar.{IsDotted, IsColonHex, IsIpv4Text, IsIpv6Text, IsIpText}
use Rattle.std.specs.Net.Reader.{Read, whole_value, read_ipv4, read_ipv6}
use Rattle.std.proofs.NetLemmas.Ipv4.{read_ipv4_complete, read_ipv4_sound}
use Rattle.std.proofs.NetLemmas.Ipv6.{read_ipv6_complete, read_ipv6_sound, EndsGroups-nil}
use Rattle.content_de.specs.Reads.Addresses.{is_ipv4_text, is_ipv6_text, is_ip_text}

-- where the text writes nothing, nothing is read with no text left
not_whole : (Spells : List ℕ → List ℕ → Type 0) (text : List ℕ) (read : Read (List ℕ))
    → ((value rest : List ℕ) → read ≡ Some (value, rest) → (front : List ℕ) × (text ≡ front ++ rest) × Spells front value)
    → ((value : List ℕ) → ¬ (Spells text value)) → is_some (whole_value read) ≡ false
not_whole Spells text None sound never = refl
not_whole Spells text (Some (value, [])) sound never =
    let found = sound value [] refl in
    absurd (never value (subst (λ t. Spells t value) (sym (found.1 ∙ append-nil found.0)) found.2))
not_whole Spells text (Some (value, b ∷ rest)) sound never = rw (ne_eqb (length (b ∷ rest)) 0 (omega arith)) refl

-- an IPv4 address
pub written_ipv4 : (text octets : List ℕ) → IsDotted text octets → is_ipv4_text text ≡ true
written_ipv4 text octets h = ap (λ r. is_some (whole_value r)) (ap read_ipv4 (sym (append-nil text)) ∙ read_ipv4_complete text octets [] h (lit≤ tt))

-- no IPv4 address
pub not_ipv4 : (text : List ℕ) → ((a : Ipv4Addr) → ¬ (IsIpv4Text text a)) → is_ipv4_text text ≡ false
not_ipv4 text never = not_whole IsDotted text (read_ipv4 text) (read_ipv4_sound text) (λ octets. never (record { octets = octets }))

-- an IPv6 address
pub written_ipv6 : (text segments : List ℕ) → IsColonHex text segments → is_ipv6_text text ≡ true
written_ipv6 text segments h = ap (λ r. is_some (whole_value r)) (ap read_ipv6 (sym (append-nil text)) ∙ read_ipv6_complete text segments [] h EndsGroups-nil)

-- no IPv6 address
pub not_ipv6 : (text : List ℕ) → ((a : Ipv6Addr) → ¬ (IsIpv6Text text a)) → is_ipv6_text text ≡ false
not_ipv6 text never = not_whole IsColonHex text (read_ipv6 text) (read_ipv6_sound text) (λ segments. never (record { segments = segments }))

-- an address of either version
pub written_ip : (text : List ℕ) (a : IpAddr) → IsIpText text a → is_ip_text text ≡ true
written_ip text (ip.V4 a) h = rw (written_ipv4 text _ h) refl
written_ip text (ip.V6 a) h = rw (written_ipv6 text _ h) (or_right _ _ refl)

-- no address
pub not_ip : (text : List ℕ) → ((a : IpAddr) → ¬ (IsIpText text a)) → is_ip_text text ≡ false
not_ip text never = rw (not_ipv4 text (λ a. never (ip.V4 a)), not_ipv6 text (λ a. never (ip.V6 a))) refl
