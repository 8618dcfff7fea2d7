-- IP addresses come back from CBOR, by their octets.
use Rattle.std.specs.Prelude.{◌≡◌, ℕ, Bool, List, Option, codes, refl}
use Rattle.std.specs.Net.Addr.{ipv4_octets, ipv6_octets, ipv6_segments, segments_of}
use Rattle.std.specs.Net.Addr.{IsIpv4Addr, IsIpv6Addr}
use Rattle.std.specs.Net.Grammar.{IsIpv4Text, IsIpv6Text, IsIpText}
use Rattle.std.specs.contracts.net.ip_addr.IpAddrPartialEq.TheImpl as ip_eq
use Rattle.std.specs.contracts.net.ipv4_addr.Ipv4AddrPartialEq.TheImpl as ipv4_eq
use Rattle.std.specs.contracts.net.ipv6_addr.Ipv6AddrPartialEq.TheImpl as ipv6_eq
use Rattle.std.specs.declared.net.ip_addr.IpAddr.TheVariants as ip
use Rattle.content_tree.specs.Errors.Cause.{Cause}
use Rattle.content_ser.specs.Scripts.Addresses.{text_or, octets_script, ipv4_script, ipv6_script}
use Rattle.content_ser.specs.Scripts.Addresses.{version_script, ip_script}
use Rattle.content_ser.specs.Scripts.Standard.{ScriptOf}
use Rattle.content_de.specs.Reads.Addresses.{text_or_refusal, TextOrGives, OctetsGive}
use Rattle.content_de.specs.Reads.Addresses.{ipv4_text_refusal, ipv6_text_refusal, ip_text_refusal}
use Rattle.content_de.specs.Reads.Addresses.{ipv4_refusal, Ipv4Gives, ipv6_refusal, Ipv6OfOctets}
use Rattle.content_de.specs.Reads.Addresses.{Ipv6Gives, version_refusal, VersionGives, ip_refusal}
use Rattle.content_de.specs.Reads.Addresses.{IpGives}
use Rattle.content_de.specs.Reads.Own.{enum_refusal}
use Rattle.content_de.specs.Reads.Read.{Refusal, Gives}
use Rattle.serde_content.specs.Laws.Addresses.{IsIpAddr, ipv4_octets_exist, ipv6_octets_exist}
use Rattle.serde_content.specs.Laws.Addresses.{ipv6_of_octets}
use Rattle.serde_content.specs.Laws.Variants.{other_variant}
use Rattle.content_cbor.specs.Typed.Arrays.{array_kept}
use Rattle.content_cbor.specs.Typed.Kept.{FormComesBack, RefusesNull}
use Rattle.content_cbor.specs.Typed.Leaves.{u8_kept}
use Rattle.content_cbor.specs.Typed.Made.{made_kept}
use Rattle.content_cbor.specs.Typed.Variants.{variant_comes_back, newtype_variant_kept, given_as}

-- what is a text where that is human readable comes back as it does otherwise
text_or_kept : {A : Type 0} {exists : A → Type 0} {script : ScriptOf A} {refusal : Refusal} {gives : Gives A} {eq : A → A → Bool}
    (text : A → List ℕ) (text_refusal : List ℕ → Option Cause) (writes : List ℕ → A → Type 0) → FormComesBack exists script refusal gives eq
    → FormComesBack exists (λ x. text_or (text x) (script x)) (text_or_refusal text_refusal refusal) (TextOrGives writes gives) eq
text_or_kept text text_refusal writes kept = record {
  of_value = λ x real.
      let there = kept.of_value x real in
      record {
        free = there.free;
        whole = there.whole;
        spelled = there.spelled;
        such = λ fits b. let here = there.such fits b in record { free = here.free; only = here.only };
      };
}

-- an IPv4 address
pub ipv4_kept : FormComesBack IsIpv4Addr ipv4_script ipv4_refusal Ipv4Gives (ipv4_eq.ghosts).eq
ipv4_kept = text_or_kept {script = λ a. octets_script 4 (ipv4_octets a)} {gives = λ s a. OctetsGive 4 s (ipv4_octets a)} _ ipv4_text_refusal IsIpv4Text (record {
  of_value = λ a real.
      let there = (array_kept 4 u8_kept).of_value (ipv4_octets a) (ipv4_octets_exist a real) in
      record {
        free = there.free;
        whole = there.whole;
        spelled = there.spelled;
        such = λ fits b.
            let here = there.such fits b in
            record { free = here.free; only = λ c h. here.only (ipv4_octets c) h };
      };
})

-- an IPv6 address
pub ipv6_kept : FormComesBack IsIpv6Addr ipv6_script ipv6_refusal Ipv6Gives (ipv6_eq.ghosts).eq
ipv6_kept =
    text_or_kept {script = λ a. octets_script 16 (ipv6_octets a)} {gives = Ipv6OfOctets} _ ipv6_text_refusal IsIpv6Text
    (made_kept IsIpv6Addr (λ octets a. ipv6_segments a ≡ segments_of octets) (ipv6_eq.ghosts).eq ipv6_octets (array_kept 16 u8_kept) ipv6_octets_exist
    (λ a b octets real equal is. ipv6_of_octets a b octets is equal))

-- a variant of its version
version_kept : FormComesBack IsIpAddr version_script (enum_refusal (codes "IpAddr") version_refusal) VersionGives (ip_eq.ghosts).eq
version_kept = record {
  of_value = elim [
    | ip.V4 a ↦ λ real. variant_comes_back version_refusal VersionGives (newtype_variant_kept ipv4_kept a real) (λ v. refl) (λ b d only. elim [
      | ip.V4 c ↦ λ it. only c (given_as b (codes "IpAddr") (codes "V4") d it).held
      | ip.V6 c ↦ λ it. other_variant (given_as b (codes "IpAddr") (codes "V4") d it).named refl
    ])
    | ip.V6 a ↦ λ real. variant_comes_back version_refusal VersionGives (newtype_variant_kept ipv6_kept a real) (λ v. refl) (λ b d only. elim [
      | ip.V4 c ↦ λ it. other_variant (given_as b (codes "IpAddr") (codes "V6") d it).named refl
      | ip.V6 c ↦ λ it. only c (given_as b (codes "IpAddr") (codes "V6") d it).held
    ])
  ];
}

-- an address of either version
pub ip_kept : FormComesBack IsIpAddr ip_script ip_refusal IpGives (ip_eq.ghosts).eq
ip_kept = text_or_kept {script = version_script} {gives = VersionGives} _ ip_text_refusal IsIpText version_kept

-- none is read of null
pub ipv4_not_null : RefusesNull ipv4_refusal
ipv4_not_null = record { of_null = λ b e. absurd (cc e) }

-- the same of IPv6
pub ipv6_not_null : RefusesNull ipv6_refusal
ipv6_not_null = record { of_null = λ b e. absurd (cc e) }

-- the same of either version
pub ip_not_null : RefusesNull ip_refusal
ip_not_null = record { of_null = λ b e. absurd (cc e) }
