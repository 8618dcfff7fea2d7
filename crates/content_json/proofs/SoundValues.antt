-- Values that are read are what the rule says.
use Rattle.std.proofs.Common.{◌≡◌, ℕ, suc, zero, ◌⊎◌, inl, inr, Bool, true, false, List, [], ◌∷◌, ◌++◌, length, drop, Ok, refl, sym, ap, subst, ◌∙◌, arith, codes, append_assoc, append-nil, ◌==◌}
use Rattle.std.proofs.lemmas.Bool.Decides.{eqb_tells}
use Rattle.content_tree.specs.Values.Tree as tree
use Rattle.content_tree.specs.Values.Tree.{Tree}
use Rattle.content_tree.specs.Values.Value.{trees_of, pairs_of}
use Rattle.content_json.specs.declared.decode_error.Fault.TheVariants as fault
use Rattle.content_json.specs.Codes.{AreBlanks, begins_with, Codes, IsMember, IsValue, IsValueOf, Joined, Spaced}
use Rattle.content_json.specs.Inner.Numbers.{number_at}
use Rattle.content_json.specs.Inner.Steps.{Reader, refused}
use Rattle.content_json.specs.Inner.Strings.{byte_at, string_at}
use Rattle.content_json.specs.Inner.Reading.{after_blanks, begins_value, leaf_at, member_at, next_at, parts_at, series_at, value_at, whole_at, word_at}
use Rattle.content_json.proofs.Runs.{truth}
use Rattle.content_json.proofs.Sound.{blanks_read, bound, byte_read, done, next_read, number_read, ok_is, same_ok, word_read}
use Rattle.content_json.proofs.SoundTexts.{string_read, three}

-- a reader that reads such parts
abbrev pub Reads : {A : Type 0} → (A → List ℕ → Type 0) → Reader A → Type 0
Reads {A} Part part = (x : A) (bs rest : List ℕ) → part bs ≡ Ok (x, rest) → (front : List ℕ) × Part x front × (bs ≡ front ++ rest)

pub leaf_read : (Inner : Tree → List ℕ → Type 0) (b : ℕ) → Reads (IsValue Inner) (leaf_at b)
unfolding leaf_at
leaf_read Inner b t bs rest is = elim (truth (b == 34)) [
  | inl w ↦
      let one = rw w at is in
      let hb = bound (byte_at fault.Unexpected 34 bs) _ (t, rest) one in
      let hx = bound (string_at hb.0) (λ x. Ok (tree.text x.0, x.1)) (t, rest) hb.2 in
      let x = string_read hx.0.0 hb.0 hx.0.1 hx.1 in
      let o = same_ok (tree.text hx.0.0) t hx.0.1 rest hx.2 in
      (34 ∷ x.0, subst (λ u. IsValue Inner u (34 ∷ x.0)) o.0 x.1, byte_read fault.Unexpected 34 bs hb.0 hb.1 ∙ ap (λ l. 34 ∷ l) (x.2 ∙ ap (λ l. x.0 ++ l) o.1))
  | inr no_text ↦ elim (truth (b == 45)) [
    | inl w ↦
        let one = rw (no_text, w) at is in
        let hb = bound (byte_at fault.Unexpected 45 bs) _ (t, rest) one in
        let hn = bound (number_at true hb.0) (λ n. Ok (tree.number n.0, n.1)) (t, rest) hb.2 in
        let n = number_read true hn.0.0 hb.0 hn.0.1 hn.1 in
        let o = same_ok (tree.number hn.0.0) t hn.0.1 rest hn.2 in
        (45 ∷ n.1, subst (λ u. IsValue Inner u (45 ∷ n.1)) o.0 (n.0, n.2, n.3), byte_read fault.Unexpected 45 bs hb.0 hb.1 ∙ ap (λ l. 45 ∷ l) (n.4 ∙ ap (λ l. n.1 ++ l) o.1))
    | inr no_sign ↦ elim (truth (b == 116)) [
      | inl w ↦
          let one = rw (no_text, no_sign, w) at is in
          let h = bound (word_at (codes "true") bs) (λ behind. Ok (tree.boolean true, behind)) (t, rest) one in
          let o = same_ok (tree.boolean true) t h.0 rest h.2 in
          (codes "true", subst (λ u. IsValue Inner u (codes "true")) o.0 refl, word_read (codes "true") bs h.0 h.1 ∙ ap (λ l. codes "true" ++ l) o.1)
      | inr no_true ↦ elim (truth (b == 102)) [
        | inl w ↦
            let one = rw (no_text, no_sign, no_true, w) at is in
            let h = bound (word_at (codes "false") bs) (λ behind. Ok (tree.boolean false, behind)) (t, rest) one in
            let o = same_ok (tree.boolean false) t h.0 rest h.2 in
            (codes "false", subst (λ u. IsValue Inner u (codes "false")) o.0 refl, word_read (codes "false") bs h.0 h.1 ∙ ap (λ l. codes "false" ++ l) o.1)
        | inr no_false ↦ elim (truth (b == 110)) [
          | inl w ↦
              let one = rw (no_text, no_sign, no_true, no_false, w) at is in
              let h = bound (word_at (codes "null") bs) (λ behind. Ok (tree.absent, behind)) (t, rest) one in
              let o = same_ok tree.absent t h.0 rest h.2 in
              (codes "null", subst (λ u. IsValue Inner u (codes "null")) o.0 refl, word_read (codes "null") bs h.0 h.1 ∙ ap (λ l. codes "null" ++ l) o.1)
          | inr no_null ↦
              let one = rw (no_text, no_sign, no_true, no_false, no_null) at is in
              let hn = bound (number_at false bs) (λ n. Ok (tree.number n.0, n.1)) (t, rest) one in
              let n = number_read false hn.0.0 bs hn.0.1 hn.1 in
              let o = same_ok (tree.number hn.0.0) t hn.0.1 rest hn.2 in
              (n.1, subst (λ u. IsValue Inner u n.1) o.0 (n.0, n.2, n.3), n.4 ∙ ap (λ l. n.1 ++ l) o.1)
        ]
      ]
    ]
  ]
]

-- what comes after a part
comma_read : (close : ℕ) (more : Bool) (bs rest : List ℕ) → next_at close bs ≡ Ok (more, rest)
    → ((more ≡ false) × (bs ≡ close ∷ rest)) ⊎ ((more ≡ true) × ((blanks : List ℕ) × AreBlanks blanks × (bs ≡ 44 ∷ (blanks ++ rest))))
unfolding next_at
comma_read close more [] rest is = absurd (cc is)
comma_read close more (b ∷ bs) rest is = elim (eqb_tells b close) [
  | inl w ↦
      let one : done (false, bs) ≡ done (more, rest) = rw w.0 at is in
      let o = same_ok false more bs rest one in
      inl (sym o.0, (λ i. w.1 i ∷ o.1 i))
  | inr w ↦
      let one = rw w.0 at is in
      elim (eqb_tells b 44) [
        | inl v ↦
            let two : done (true, after_blanks bs) ≡ done (more, rest) = rw v.0 at one in
            let o = same_ok true more (after_blanks bs) rest two in
            let r = blanks_read bs in
            inr (sym o.0, (r.0, r.1, (λ i. v.1 i ∷ (r.2 ∙ ap (λ l. r.0 ++ l) o.1) i)))
        | inr v ↦ let two : refused fault.Unexpected (b ∷ bs) ≡ Ok (more, rest) = rw v.0 at one in absurd (cc two)
      ]
]

-- one part more before others
joined_more : {A : Type 0} (Part : A → List ℕ → Type 0) (x : A) (xs : List A) (front back : List ℕ) → Spaced (Part x) front → Joined Part xs back → Joined Part (x ∷ xs) (front ++ (44 ∷ back))
joined_more Part x [] front back here others = absurd others
joined_more Part x (y ∷ ys) front back here others = (front, back, here, others, refl)

-- parts, with blanks before the first
pub parts_read : {A : Type 0} (close : ℕ) (Part : A → List ℕ → Type 0) (part : Reader A) → Reads Part part
    → (k : ℕ) (bs : List ℕ) (xs : List A) (rest : List ℕ) → parts_at close part k bs ≡ Ok (xs, rest)
    → (inside : List ℕ) × ((before : List ℕ) → AreBlanks before → Joined Part xs (before ++ inside)) × (bs ≡ inside ++ (close ∷ rest))
unfolding parts_at
parts_read close Part part reads zero bs xs rest is = absurd (cc is)
parts_read close Part part reads (suc k) bs xs rest is =
    let hx = bound (part bs) _ (xs, rest) is in
    let x = reads hx.0.0 bs hx.0.1 hx.1 in
    let hn = bound (next_at close (after_blanks hx.0.1)) _ (xs, rest) hx.2 in
    let blanks = blanks_read hx.0.1 in
    elim (comma_read close hn.0.0 (after_blanks hx.0.1) hn.0.1 hn.1) [
      | inl last ↦
          let one : done (hx.0.0 ∷ [], hn.0.1) ≡ done (xs, rest) = rw last.0 at hn.2 in
          let o = same_ok (hx.0.0 ∷ []) xs hn.0.1 rest one in (
            x.0 ++ blanks.0,
            λ before are. subst (λ ys. Joined Part ys (before ++ (x.0 ++ blanks.0))) o.0 (before, x.0, blanks.0, are, x.1, blanks.1, refl),
            x.2 ∙ ap (λ l. x.0 ++ l) (blanks.2 ∙ ap (λ l. blanks.0 ++ l) (last.1 ∙ ap (λ l. close ∷ l) o.1)) ∙ sym (append_assoc x.0 blanks.0 (close ∷ rest)),
          )
      | inr more ↦
          let one = rw more.0 at hn.2 in
          let hs = bound (parts_at close part k hn.0.1) (λ ys. Ok (hx.0.0 ∷ ys.0, ys.1)) (xs, rest) one in
          let s = parts_read close Part part reads k hn.0.1 hs.0.0 hs.0.1 hs.1 in
          let o = same_ok (hx.0.0 ∷ hs.0.0) xs hs.0.1 rest hs.2 in
          let back = more.1.0 ++ s.0 in
          let inside = x.0 ++ (blanks.0 ++ (44 ∷ back)) in (
            inside,
            λ before are.
                subst (λ ys. Joined Part ys (before ++ inside)) o.0
                (subst (λ l. Joined Part (hx.0.0 ∷ hs.0.0) l) (sym (three before x.0 blanks.0 (44 ∷ back)))
                (joined_more Part hx.0.0 hs.0.0 (before ++ (x.0 ++ blanks.0)) back (before, x.0, blanks.0, are, x.1, blanks.1, refl) (s.1 more.1.0 more.1.1))),
            x.2 ∙ ap (λ l. x.0 ++ l) (blanks.2 ∙ ap (λ l. blanks.0 ++ l) (more.1.2 ∙ ap (λ l. 44 ∷ (more.1.0 ++ l)) (s.2 ∙ ap (λ l. s.0 ++ (close ∷ l)) o.1)))
                ∙ ap (λ l. x.0 ++ (blanks.0 ++ (44 ∷ l))) (sym (append_assoc more.1.0 s.0 (close ∷ rest)))
                ∙ three x.0 blanks.0 (44 ∷ back) (close ∷ rest),
          )
    ]

pub series_read : {A : Type 0} (close : ℕ) (Part : A → List ℕ → Type 0) (part : Reader A) → Reads Part part
    → (bs : List ℕ) (xs : List A) (rest : List ℕ) → series_at close part bs ≡ Ok (xs, rest)
    → (inside : List ℕ) × (((xs ≡ []) × AreBlanks inside) ⊎ Joined Part xs inside) × (bs ≡ inside ++ (close ∷ rest))
unfolding series_at
series_read close Part part reads bs xs rest is =
    let blanks = blanks_read bs in
    elim (truth (begins_with close (after_blanks bs))) [
      | inl none ↦
          let one : done ([], drop 1 (after_blanks bs)) ≡ done (xs, rest) = rw none at is in
          let o = same_ok [] xs (drop 1 (after_blanks bs)) rest one in
          (blanks.0, inl (sym o.0, blanks.1), blanks.2 ∙ ap (λ l. blanks.0 ++ l) (next_read close (after_blanks bs) none ∙ ap (λ l. close ∷ l) o.1))
      | inr some ↦
          let one : parts_at close part (length bs) (after_blanks bs) ≡ Ok (xs, rest) = rw some at is in
          let r = parts_read close Part part reads (length bs) (after_blanks bs) xs rest one in
          (blanks.0 ++ r.0, inr (r.1 blanks.0 blanks.1), blanks.2 ∙ ap (λ l. blanks.0 ++ l) r.2 ∙ sym (append_assoc blanks.0 r.0 (close ∷ rest)))
    ]

pub member_read : (Inner : Tree → List ℕ → Type 0) (part : Reader Tree) → Reads Inner part → Reads (IsMember Inner) (member_at part)
unfolding member_at
member_read Inner part reads p bs rest is =
    let hb = bound (byte_at fault.Unexpected 34 bs) _ (p, rest) is in
    let hk = bound (string_at hb.0) _ (p, rest) hb.2 in
    let k = string_read hk.0.0 hb.0 hk.0.1 hk.1 in
    let hc = bound (byte_at fault.Unexpected 58 (after_blanks hk.0.1)) _ (p, rest) hk.2 in
    let hv = bound (part (after_blanks hc.0)) (λ v. Ok ((tree.text hk.0.0, v.0), v.1)) (p, rest) hc.2 in
    let v = reads hv.0.0 (after_blanks hc.0) hv.0.1 hv.1 in
    let before = blanks_read hk.0.1 in
    let after = blanks_read hc.0 in
    let o = same_ok (tree.text hk.0.0, hv.0.0) p hv.0.1 rest hv.2 in
    let key = 34 ∷ k.0 in
    let tail = after.0 ++ v.0 in
    let left : bs ≡ key ++ (before.0 ++ (58 ∷ (after.0 ++ (v.0 ++ rest)))) =
    byte_read fault.Unexpected 34 bs hb.0 hb.1
    ∙ ap (λ l. 34 ∷ l) (k.2 ∙ ap (λ l. k.0 ++ l) (before.2 ∙ ap (λ l. before.0 ++ l) (byte_read fault.Unexpected 58 (after_blanks hk.0.1) hc.0 hc.1
    ∙ ap (λ l. 58 ∷ l) (after.2 ∙ ap (λ l. after.0 ++ l) (v.2 ∙ ap (λ l. v.0 ++ l) o.1))))) in (
      key ++ (before.0 ++ (58 ∷ tail)),
      (
        hk.0.0,
        key,
        before.0,
        after.0,
        v.0,
        sym (ap (λ q. q.0) o.0),
        k.1,
        before.1,
        after.1,
        subst (λ u. Inner u v.0) (ap (λ q. q.1) o.0) v.1,
        refl,
      ),
      left ∙ ap (λ l. key ++ (before.0 ++ (58 ∷ l))) (sym (append_assoc after.0 v.0 rest)) ∙ three key before.0 (58 ∷ tail) rest,
    )

pub value_read : (limit : ℕ) → Reads (IsValueOf limit) (value_at limit)
unfolding value_at
value_read limit t [] rest is = absurd (cc is)
value_read zero t (b ∷ bs) rest is = elim (truth (begins_value b)) [
  | inl w ↦ let e : refused fault.TooDeep (b ∷ bs) ≡ Ok (t, rest) = rw w at is in absurd (cc e)
  | inr w ↦ let e : refused fault.Unexpected (b ∷ bs) ≡ Ok (t, rest) = rw w at is in absurd (cc e)
]
value_read (suc limit) t (b ∷ bs) rest is = elim (eqb_tells b 91) [
  | inl w ↦
      let one = rw w.0 at is in
      let h = bound (series_at 93 (value_at limit) bs) (λ xs. Ok (tree.seq (trees_of xs.0), xs.1)) (t, rest) one in
      let s = series_read 93 (IsValueOf limit) (value_at limit) (value_read limit) bs h.0.0 h.0.1 h.1 in
      let o = same_ok (tree.seq (trees_of h.0.0)) t h.0.1 rest h.2 in
      let front = 91 ∷ (s.0 ++ (93 ∷ [])) in (
        front,
        subst (λ u. IsValue (IsValueOf limit) u front) o.0 (h.0.0, refl, (s.0, s.1, refl)),
        (λ i. w.1 i ∷ (s.2 ∙ ap (λ l. s.0 ++ (93 ∷ l)) o.1 ∙ sym (append_assoc s.0 (93 ∷ []) rest)) i),
      )
  | inr no_array ↦ elim (eqb_tells b 123) [
    | inl w ↦
        let one = rw (no_array.0, w.0) at is in
        let h = bound (series_at 125 (member_at (value_at limit)) bs) (λ xs. Ok (tree.map (pairs_of xs.0), xs.1)) (t, rest) one in
        let s = series_read 125 (IsMember (IsValueOf limit)) (member_at (value_at limit)) (member_read (IsValueOf limit) (value_at limit) (value_read limit)) bs h.0.0 h.0.1 h.1 in
        let o = same_ok (tree.map (pairs_of h.0.0)) t h.0.1 rest h.2 in
        let front = 123 ∷ (s.0 ++ (125 ∷ [])) in (
          front,
          subst (λ u. IsValue (IsValueOf limit) u front) o.0 (h.0.0, refl, (s.0, s.1, refl)),
          (λ i. w.1 i ∷ (s.2 ∙ ap (λ l. s.0 ++ (125 ∷ l)) o.1 ∙ sym (append_assoc s.0 (125 ∷ []) rest)) i),
        )
    | inr no_object ↦
        let one : leaf_at b (b ∷ bs) ≡ Ok (t, rest) = rw (no_array.0, no_object.0) at is in
        leaf_read (IsValueOf limit) b t (b ∷ bs) rest one
  ]
]

-- nothing is left
nothing : (bs : List ℕ) → (length bs == 0) ≡ true → bs ≡ []
nothing [] is = refl
nothing (b ∷ bs) is = elim (eqb_tells (length (b ∷ bs)) 0) [
  | inl w ↦ absurd (omega (arith, w.1))
  | inr w ↦ let e : false ≡ true = sym w.0 ∙ is in absurd (cc e)
]

-- a whole text that is read
pub whole_read : (limit : ℕ) (t : Tree) (bs : List ℕ) → whole_at limit bs ≡ Ok t → Codes limit t bs
unfolding whole_at
whole_read limit t bs is =
    let hx = bound (value_at limit (after_blanks bs)) _ t is in
    let x = value_read limit hx.0.0 (after_blanks bs) hx.0.1 hx.1 in
    let before = blanks_read bs in
    let after = blanks_read hx.0.1 in
    elim (truth (length (after_blanks hx.0.1) == 0)) [
      | inl none ↦
          let one : done hx.0.0 ≡ done t = rw none at hx.2 in
          let same = ok_is hx.0.0 t one in
          let end_ : hx.0.1 ≡ after.0 = after.2 ∙ ap (λ l. after.0 ++ l) (nothing (after_blanks hx.0.1) none) ∙ append-nil after.0 in
          (before.0, x.0, after.0, before.1, subst (λ u. IsValueOf limit u x.0) same x.1, after.1, before.2 ∙ ap (λ l. before.0 ++ l) (x.2 ∙ ap (λ l. x.0 ++ l) end_))
      | inr some ↦ let one : refused fault.Trailing (after_blanks hx.0.1) ≡ Ok t = rw some at hx.2 in absurd (cc one)
    ]
