-- IP addresses come back.
use Rattle.std.specs.Prelude.{◌≡◌, ℕ, ◌+◌, ◌*◌, ◌/◌, ◌%◌, Bool, true, false, List, [], ◌∷◌, Option, length, codes, nat_eq, refl, ⊤}
use Rattle.std.specs.Cmp.Lexicographic.{nat_list_eq_equiv, pointwise}
use Rattle.std.specs.List.{AllByRecursion}
use Rattle.std.specs.Net.Addr.{ipv4_octets, ipv6_octets, ipv6_segments, octets_of, segments_of}
use Rattle.std.specs.Net.Addr.{IsIpv4Addr, IsIpv6Addr, MatchIp}
use Rattle.std.specs.Net.Grammar.{IsIpv4Text, IsIpv6Text, IsIpText}
use Rattle.std.specs.Net.Text.{ipv4_text, ipv6_text, ip_text}
use Rattle.std.specs.contracts.net.ip_addr.IpAddrPartialEq.TheImpl as ip_eq
use Rattle.std.specs.contracts.net.ipv4_addr.Ipv4AddrPartialEq.TheImpl as ipv4_eq
use Rattle.std.specs.contracts.net.ipv6_addr.Ipv6AddrPartialEq.TheImpl as ipv6_eq
use Rattle.std.specs.declared.net.ip_addr.IpAddr.{IpAddr}
use Rattle.std.specs.declared.net.ip_addr.IpAddr.TheVariants as ip
use Rattle.std.specs.declared.net.ipv4_addr.Ipv4Addr.{Ipv4Addr}
use Rattle.std.specs.declared.net.ipv6_addr.Ipv6Addr.{Ipv6Addr}
use Rattle.std.proofs.Common.{ap, arith, subst, sym, ◌∙◌}
use Rattle.std.proofs.NetLemmas.Texts.{IsDotted-ipv4_text, IsColonHex-ipv6_text}
use Rattle.std.proofs.NetLemmas.Theorems.{IsIpv4Text_unique, IsIpv6Text_unique, IsIpText_unique}
use Rattle.std.proofs.lemmas.Bool.Decides.{Decides-eqb}
use Rattle.std.proofs.lemmas.Slice.Eq.{slice_eq-Decides}
use Rattle.content_tree.specs.Values.Ranges as kind
use Rattle.content_tree.specs.Values.Text.{owned_text}
use Rattle.content_tree.specs.Values.Tree as tree
use Rattle.content_tree.specs.Errors.Cause.{Cause}
use Rattle.content_ser.specs.Scripts.Addresses.{text_or, octets_script, ipv4_script, ipv6_script}
use Rattle.content_ser.specs.Scripts.Addresses.{version_script, ip_script}
use Rattle.content_ser.specs.Scripts.Standard.{ScriptOf}
use Rattle.content_de.specs.Reads.Addresses.{text_or_refusal, TextOrGives, octets_refusal, OctetsGive}
use Rattle.content_de.specs.Reads.Addresses.{ipv4_text_refusal, ipv4_refusal, Ipv4Gives}
use Rattle.content_de.specs.Reads.Addresses.{ipv6_text_refusal, ipv6_refusal, Ipv6OfOctets, Ipv6Gives}
use Rattle.content_de.specs.Reads.Addresses.{ip_text_refusal, version_refusal, VersionGives}
use Rattle.content_de.specs.Reads.Addresses.{ip_refusal, IpGives}
use Rattle.content_de.specs.Reads.Own.{enum_refusal}
use Rattle.content_de.specs.Reads.Read.{Refusal, Gives}
use Rattle.content_de.specs.Sources.Origin.{Origin, Flags, tree_under, under}
use Rattle.content_de.proofs.Written.{written_ipv4, written_ipv6, written_ip}
use Rattle.serde_content.specs.RoundTrip.{SpellsSuch, GivesOnly, ComesBack, MayGive, CoercionKeeps, flags}
use Rattle.serde_content.specs.Laws.Arrays.{array_back, array_keeps}
use Rattle.serde_content.specs.Laws.Holders.{seen_keeps}
use Rattle.serde_content.specs.Laws.Leaves.{u8_back, natural_keeps}
use Rattle.serde_content.specs.Laws.Made.{made_back, made_keeps}
use Rattle.serde_content.specs.Laws.Spelled.{leaf_such}
use Rattle.serde_content.specs.Laws.Variants.{variant_back, newtype_variant_back, other_variant}
use Rattle.serde_content.specs.Laws.Variants.{variant_kept, newtype_variant_keeps}

-- the text of such a value isn't refused, and writes only equal values
abbrev pub TextBack : {A : Type 0} → (A → Type 0) → (A → List ℕ) → (List ℕ → Option Cause) → (List ℕ → A → Type 0) → (A → A → Bool) → Type 0
TextBack {A} exists text refusal writes eq = (x : A) → exists x → GivesOnly (refusal (text x)) (writes (text x)) (λ y. eq x y ≡ true)

-- a text where that is human readable, and else what comes back otherwise
pub text_or_back : {A : Type 0} {exists : A → Type 0} {text : A → List ℕ} {script : ScriptOf A} {refusal : Refusal} {gives : Gives A} {eq : A → A → Bool}
    (text_refusal : List ℕ → Option Cause) (writes : List ℕ → A → Type 0) → TextBack exists text text_refusal writes eq → ComesBack exists script refusal gives eq
    → ComesBack exists (λ x. text_or (text x) (script x)) (text_or_refusal text_refusal refusal) (TextOrGives writes gives) eq
text_or_back {A} {exists} {text} {script} {refusal} {gives} {eq} text_refusal writes written back = record { of_value = λ x real f. at x real f.human_readable f.coerces f.buffered }
  where
    at : (x : A) → exists x → (h c b : Bool) →
        let f : Flags = record { human_readable = h; coerces = c; buffered = b } in
        SpellsSuch (λ t. GivesOnly (text_or_refusal text_refusal refusal (tree_under f t)) (TextOrGives writes gives (tree_under f t)) (λ y. eq x y ≡ true)) (text_or (text x) (script x) h)
    at x real true c b = leaf_such (tree.text (owned_text (text x))) refl (record { free = (written x real).free; only = (written x real).only })
    at x real false c b = back.of_value x real (record { human_readable = false; coerces = c; buffered = b })

-- it keeps what it gives where the other does
text_or_kept : {A : Type 0} {refusal : Refusal} {gives : Gives A} (text_refusal : List ℕ → Option Cause) (writes : List ℕ → A → Type 0) → CoercionKeeps refusal gives
    → (o : Origin) (h : Bool) (x : A)
    → MayGive (text_or_refusal text_refusal refusal (under (flags h false) o)) (TextOrGives writes gives (under (flags h false) o)) x
    → MayGive (text_or_refusal text_refusal refusal (under (flags h true) o)) (TextOrGives writes gives (under (flags h true) o)) x
text_or_kept text_refusal writes keeps o true x p = record { free = p.free; given = p.given }
text_or_kept text_refusal writes keeps o false x p = let q = keeps.of_origin o false x (record { free = p.free; given = p.given }) in record { free = q.free; given = q.given }

-- the same
pub text_or_keeps : {A : Type 0} {refusal : Refusal} {gives : Gives A} (text_refusal : List ℕ → Option Cause) (writes : List ℕ → A → Type 0) → CoercionKeeps refusal gives
    → CoercionKeeps (text_or_refusal text_refusal refusal) (TextOrGives writes gives)
text_or_keeps text_refusal writes keeps = record { of_origin = λ o h x p. text_or_kept text_refusal writes keeps o h x p }

-- each number is one
all_numbers : (xs : List ℕ) → AllByRecursion (λ x. ⊤) xs
all_numbers [] = tt
all_numbers (x ∷ xs) = (tt, all_numbers xs)

-- the octets of an IPv4 address
pub ipv4_octets_exist : (a : Ipv4Addr) → IsIpv4Addr a → (length (ipv4_octets a) ≡ 4) × AllByRecursion (λ x. ⊤) (ipv4_octets a)
ipv4_octets_exist a real = (real.0, all_numbers (ipv4_octets a))

-- each segment is two octets
two_of_each : (xs : List ℕ) → length (octets_of xs) ≡ length xs + length xs
two_of_each [] = refl
two_of_each (x ∷ xs) = let rest = two_of_each xs in omega (arith, rest)

-- the octets of an IPv6 address
pub ipv6_octets_exist : (a : Ipv6Addr) → IsIpv6Addr a → (length (ipv6_octets a) ≡ 16) × AllByRecursion (λ x. ⊤) (ipv6_octets a)
ipv6_octets_exist a real =
    let two = two_of_each (ipv6_segments a) in
    let eight = real.0 in
    (omega (arith, two, eight), all_numbers (ipv6_octets a))

-- the segments of their octets
segments_of_octets : (xs : List ℕ) → segments_of (octets_of xs) ≡ xs
segments_of_octets [] = refl
segments_of_octets (x ∷ xs) =
    let whole : (x / 256) * 256 + x % 256 ≡ x = omega arith in
    rw (whole, segments_of_octets xs) refl

-- numbers that are the same are equal
same_numbers : (xs ys : List ℕ) → xs ≡ ys → pointwise nat_eq xs ys ≡ true
same_numbers xs ys same = subst (λ zs. pointwise nat_eq xs zs ≡ true) same (nat_list_eq_equiv.refl xs)

-- an IPv6 address of equal octets is equal
pub ipv6_of_octets : (x y : Ipv6Addr) (octets : List ℕ) → ipv6_segments y ≡ segments_of octets → pointwise nat_eq (ipv6_octets x) octets ≡ true
    → pointwise nat_eq (ipv6_segments x) (ipv6_segments y) ≡ true
ipv6_of_octets x y octets is equal =
    let same = (slice_eq-Decides Decides-eqb (ipv6_octets x) octets true (sym equal)).0 refl in
    same_numbers (ipv6_segments x) (ipv6_segments y) (sym (segments_of_octets (ipv6_segments x)) ∙ ap segments_of same ∙ sym is)

-- the text of an IPv4 address
ipv4_text_back : TextBack IsIpv4Addr (λ a. ipv4_text (ipv4_octets a)) ipv4_text_refusal IsIpv4Text (ipv4_eq.ghosts).eq
ipv4_text_back a real =
    let spelled = IsDotted-ipv4_text (ipv4_octets a) real.0 real.1 in
    record {
      free = rw (written_ipv4 _ _ spelled) refl;
      only = λ b h. same_numbers (ipv4_octets a) (ipv4_octets b) (ap ipv4_octets (IsIpv4Text_unique _ a b spelled h));
    }

-- four octets
ipv4_octets_back : ComesBack IsIpv4Addr (λ a. octets_script 4 (ipv4_octets a)) (octets_refusal 4) (λ s a. OctetsGive 4 s (ipv4_octets a)) (ipv4_eq.ghosts).eq
ipv4_octets_back = record {
  of_value = λ a real f.
      let there = (array_back 4 u8_back).of_value (ipv4_octets a) (ipv4_octets_exist a real) f in
      record {
        free = there.free;
        whole = there.whole;
        spelled = there.spelled;
        such = record { free = there.such.free; only = λ b h. there.such.only (ipv4_octets b) h };
      };
}

-- an IPv4 address
pub ipv4_back : ComesBack IsIpv4Addr ipv4_script ipv4_refusal Ipv4Gives (ipv4_eq.ghosts).eq
ipv4_back = text_or_back ipv4_text_refusal IsIpv4Text ipv4_text_back ipv4_octets_back

-- what an IPv4 address gives it keeps
pub ipv4_keeps : CoercionKeeps ipv4_refusal Ipv4Gives
ipv4_keeps = text_or_keeps ipv4_text_refusal IsIpv4Text (seen_keeps ipv4_octets (array_keeps 4 (natural_keeps kind.u8)))

-- the text of an IPv6 address
ipv6_text_back : TextBack IsIpv6Addr (λ a. ipv6_text (ipv6_segments a)) ipv6_text_refusal IsIpv6Text (ipv6_eq.ghosts).eq
ipv6_text_back a real =
    let spelled = IsColonHex-ipv6_text (ipv6_segments a) real.0 real.1 in
    record {
      free = rw (written_ipv6 _ _ spelled) refl;
      only = λ b h. same_numbers (ipv6_segments a) (ipv6_segments b) (ap ipv6_segments (IsIpv6Text_unique _ a b spelled h));
    }

-- sixteen octets
ipv6_octets_back : ComesBack IsIpv6Addr (λ a. octets_script 16 (ipv6_octets a)) (octets_refusal 16) Ipv6OfOctets (ipv6_eq.ghosts).eq
ipv6_octets_back =
    made_back IsIpv6Addr (λ octets a. ipv6_segments a ≡ segments_of octets) (ipv6_eq.ghosts).eq ipv6_octets (array_back 16 u8_back) ipv6_octets_exist
    (λ a b octets real equal is. ipv6_of_octets a b octets is equal)

-- an IPv6 address
pub ipv6_back : ComesBack IsIpv6Addr ipv6_script ipv6_refusal Ipv6Gives (ipv6_eq.ghosts).eq
ipv6_back = text_or_back ipv6_text_refusal IsIpv6Text ipv6_text_back ipv6_octets_back

-- what an IPv6 address gives it keeps
pub ipv6_keeps : CoercionKeeps ipv6_refusal Ipv6Gives
ipv6_keeps =
    text_or_keeps ipv6_text_refusal IsIpv6Text (made_keeps (λ octets a. ipv6_segments a ≡ segments_of octets) (array_keeps 16 (natural_keeps kind.u8)))

-- an address of either version
abbrev pub IsIpAddr : IpAddr → Type 0
IsIpAddr a = MatchIp a IsIpv4Addr IsIpv6Addr

-- the text of an address
ip_text_back : TextBack IsIpAddr ip_text ip_text_refusal IsIpText (ip_eq.ghosts).eq
ip_text_back (ip.V4 a) real =
    let spelled = IsDotted-ipv4_text (ipv4_octets a) real.0 real.1 in
    record {
      free = rw (written_ip _ (ip.V4 a) spelled) refl;
      only = λ b h. subst (λ c. (ip_eq.ghosts).eq (ip.V4 a) c ≡ true) (IsIpText_unique _ (ip.V4 a) b spelled h) (nat_list_eq_equiv.refl (ipv4_octets a));
    }
ip_text_back (ip.V6 a) real =
    let spelled = IsColonHex-ipv6_text (ipv6_segments a) real.0 real.1 in
    record {
      free = rw (written_ip _ (ip.V6 a) spelled) refl;
      only = λ b h. subst (λ c. (ip_eq.ghosts).eq (ip.V6 a) c ≡ true) (IsIpText_unique _ (ip.V6 a) b spelled h) (nat_list_eq_equiv.refl (ipv6_segments a));
    }

-- a variant of its version
version_back : ComesBack IsIpAddr version_script (enum_refusal (codes "IpAddr") version_refusal) VersionGives (ip_eq.ghosts).eq
version_back = record {
  of_value = elim [
    | ip.V4 a ↦ λ real f. variant_back (enum_refusal (codes "IpAddr") version_refusal) VersionGives (newtype_variant_back ipv4_back a real) f (λ d. refl)
        (λ d only. elim [ ip.V4 b ↦ λ it. only b it.1 | ip.V6 b ↦ λ it. other_variant it.0 refl ])
    | ip.V6 a ↦ λ real f. variant_back (enum_refusal (codes "IpAddr") version_refusal) VersionGives (newtype_variant_back ipv6_back a real) f (λ d. refl)
        (λ d only. elim [ ip.V4 b ↦ λ it. other_variant it.0 refl | ip.V6 b ↦ λ it. only b it.1 ])
  ];
}

-- an address of either version
pub ip_back : ComesBack IsIpAddr ip_script ip_refusal IpGives (ip_eq.ghosts).eq
ip_back = text_or_back ip_text_refusal IsIpText ip_text_back version_back

-- what an address gives it keeps
pub ip_keeps : CoercionKeeps ip_refusal IpGives
ip_keeps = text_or_keeps {gives = VersionGives} ip_text_refusal IsIpText (record {
  of_origin = λ o h. elim [
    | ip.V4 a ↦ λ p.
        let q = variant_kept (codes "IpAddr") (codes "V4") version_refusal (λ v. refl) (newtype_variant_keeps ipv4_keeps) o h a p.free p.given in
        record { free = q.0; given = q.1 }
    | ip.V6 a ↦ λ p.
        let q = variant_kept (codes "IpAddr") (codes "V6") version_refusal (λ v. refl) (newtype_variant_keeps ipv6_keeps) o h a p.free p.given in
        record { free = q.0; given = q.1 }
  ];
})
