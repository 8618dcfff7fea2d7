-- Lines that are read one by one.
use Rattle.std.proofs.Common.{◌≡◌, ℕ, ◌+◌, ◌-◌, ◌<◌, ◌≤◌, Bool, true, false, not, ◌&&◌, cond}
use Rattle.std.proofs.Common.{List, [], ◌∷◌, ◌++◌}
use Rattle.std.proofs.Common.{length, Option, Some, None, MatchOption, option_map, Result, Ok, Err, refl}
use Rattle.std.proofs.Common.{sym, ap, subst, ◌∙◌, arith, append_assoc, append-nil, length-append}
use Rattle.std.proofs.lemmas.Iterator.Adapters.{position_from-zero}
use Rattle.std.specs.List.{flat_map, position_from}
use Rattle.std.specs.Option.{option_to_list}
use denote.Ref.{Bor}
use Rattle.serde_content.specs.Names.Words.{Event, seen_of, HasTaken, Builder, AnswersNext, Error}
use Rattle.serde_content.specs.Names.Words.{kind_of, CallsError, IsRefusalWithin}
use Rattle.content_lines.specs.Lines.{is_bad, is_blank, lines_of, first_bad, calls_of}
use Rattle.content_cli.specs.Verdicts.{AnswersLine, IsVerdict, IsRefusedWithin}
use Rattle.content_lines.specs.Words.{event_in}
use Rattle.content_cli.specs.declared.calls.Verdict.{Verdict}
use Rattle.content_cli.specs.declared.calls.Verdict.TheVariants.{BadLine, Taken, Refused}

-- the calls of a list of lines
abbrev pub calls_in : List (List ℕ) → List Event
calls_in lines = flat_map (λ line. option_to_list (event_in line)) lines

-- where the first bad of these lines is, the first of them at this place
abbrev pub bad_from : ℕ → List (List ℕ) → Option ℕ
bad_from place lines = position_from is_bad place lines

-- the lines of what is left, where anything is
abbrev pub lines_in : Option (Bor (List ℕ)) → List (List ℕ)
lines_in None = []
lines_in (Some rest) = lines_of rest.now

-- the lines before this text were read: none of them is bad, and the builder took their calls
pub record HasRead (limit : Option ℕ) (body : List ℕ) (builder : Builder) (count place : ℕ) (text : List ℕ) : Type 0 where
  pub calls : List Event
  pub taken : HasTaken limit calls (seen_of builder)
  pub counted : count ≡ length calls
  pub spelled : calls_of body ≡ calls ++ calls_of text
  pub bad : first_bad body ≡ bad_from place (lines_of text)
  pub within : place + length text ≤ length body
  pub fewer : count + length text ≤ length body

-- the same of the lines up to this place, where these lines of this many bytes are left
pub record HasReadTo (limit : Option ℕ) (body : List ℕ) (builder : Builder) (count place : ℕ) (lines : List (List ℕ)) (bytes : ℕ) : Type 0 where
  pub calls : List Event
  pub taken : HasTaken limit calls (seen_of builder)
  pub counted : count ≡ length calls
  pub spelled : calls_of body ≡ calls ++ calls_in lines
  pub bad : first_bad body ≡ bad_from (place + 1) lines
  pub fewer : count + bytes ≤ length body

-- no line was read
pub none_read : (limit : Option ℕ) (body : List ℕ) (builder : Builder) → HasTaken limit [] (seen_of builder) → HasRead limit body builder 0 0 body
none_read limit body builder taken = record {
  calls = [];
  taken = taken;
  counted = refl;
  spelled = refl;
  bad = position_from-zero is_bad (lines_of body);
  within = omega arith;
  fewer = omega arith;
}

-- the first line and the lines after it
pub cut_lines : (o : Option (Bor (List ℕ))) (text line : List ℕ) → MatchOption o (lines_of text ≡ line ∷ []) (λ rest. lines_of text ≡ line ∷ lines_of rest.now) → lines_of text ≡ line ∷ lines_in o
cut_lines None text line h = h
cut_lines (Some rest) text line h = h

-- the first line is no longer than the text
pub cut_bytes : (o : Option (Bor (List ℕ))) (text line : List ℕ) → MatchOption o (length text ≡ length line) (λ rest. length text ≡ length line + (1 + length rest.now)) → length line ≤ length text
cut_bytes None text line h = omega (arith, h)
cut_bytes (Some rest) text line h = omega (arith, h)

-- a blank line spells no call
blank_spells : (line : List ℕ) → length line ≡ 0 → event_in line ≡ None
blank_spells [] h = refl
blank_spells (b ∷ line) h = absurd (omega (arith, h))

blank_good : (line : List ℕ) → length line ≡ 0 → is_bad line ≡ false
blank_good [] h = refl
blank_good (b ∷ line) h = absurd (omega (arith, h))

and_no : (b : Bool) → b && false ≡ false
and_no true = refl
and_no false = refl

call_good : (line : List ℕ) (c : Event) → event_in line ≡ Some c → is_bad line ≡ false
call_good line c h = rw h (and_no (not (is_blank line)))

module _ (limit : Option ℕ) (body : List ℕ) (builder : Builder) (count place : ℕ) (text line : List ℕ) (lines : List (List ℕ)) (h : HasRead limit body builder count place text) (cut : lines_of text ≡ line ∷ lines) where
  here : (b : Bool) → is_bad line ≡ b → first_bad body ≡ cond b (Some place) (bad_from (place + 1) lines)
  here b e = h.bad ∙ (ap (bad_from place) cut ∙ ap (λ x. cond x (Some place) (bad_from (place + 1) lines)) e)

  -- a bad line is the first
  pub bad_here : is_bad line ≡ true → first_bad body ≡ Some place
  bad_here e = here true e

  spelled_here : (o : Option Event) → event_in line ≡ o → calls_of body ≡ h.calls ++ (option_to_list o ++ calls_in lines)
  spelled_here o e = h.spelled ∙ (ap (λ ls. h.calls ++ calls_in ls) cut ∙ ap (λ x. h.calls ++ (option_to_list x ++ calls_in lines)) e)

  -- a blank line was read
  pub after_blank : length line ≡ 0 → HasReadTo limit body builder count place lines (length text - length line)
  after_blank e = record {
    calls = h.calls;
    taken = h.taken;
    counted = h.counted;
    spelled = spelled_here None (blank_spells line e);
    bad = here false (blank_good line e);
    fewer = let f = h.fewer in omega (arith, f);
  }

  -- a line's call was taken
  pub after_call : (c : Event) (new : Builder) → event_in line ≡ Some c → 0 < length line → length line ≤ length text → HasTaken limit (h.calls ++ c ∷ []) (seen_of new) → HasReadTo limit body new (count + 1) place lines (length text - length line)
  after_call c new e some short taken = record {
    calls = h.calls ++ c ∷ [];
    taken = taken;
    counted = let n = h.counted in omega (arith, n, length-append h.calls (c ∷ []));
    spelled = spelled_here (Some c) e ∙ sym (append_assoc h.calls (c ∷ []) (calls_in lines));
    bad = here false (call_good line c e);
    fewer = let f = h.fewer in omega (arith, f, some, short);
  }

  -- a line's call was refused
  pub refused_here : (c : Event) (e : Error) (new : Builder) → event_in line ≡ Some c → ((limit : Option ℕ) (calls : List Event) → HasTaken limit calls (seen_of builder) → AnswersLine limit calls c (Err e) new)
      → (first_bad body ≡ bad_from (place + 1) lines) × IsRefusedWithin limit (calls_of body) (record { at = count; error = e })
  refused_here c e new spells refused = (
    here false (call_good line c spells),
    λ caused. subst (λ n. IsRefusalWithin limit (calls_of body) n (kind_of e)) (sym h.counted)
        (subst (λ l. IsRefusalWithin limit l (length h.calls) (kind_of e)) (sym (spelled_here (Some c) spells)) (refused limit h.calls h.taken caused (calls_in lines))),
  )

-- the same of the builder and the count by other names
pub renamed : (limit : Option ℕ) (body : List ℕ) (b builder : Builder) (n count place : ℕ) (lines : List (List ℕ)) (bytes : ℕ) → b ≡ builder → n ≡ count → HasReadTo limit body builder count place lines bytes → HasReadTo limit body b n place lines bytes
renamed limit body b builder n count place lines bytes is counts h =
    subst (λ x. HasReadTo limit body x n place lines bytes) (sym is) (subst (λ x. HasReadTo limit body builder x place lines bytes) (sym counts) h)

-- on to the next line
pub to_next : (limit : Option ℕ) (body : List ℕ) (builder : Builder) (count place : ℕ) (text line : List ℕ) (o : Option (Bor (List ℕ))) (after : Bor (List ℕ)) → o ≡ Some after → HasReadTo limit body builder count place (lines_in o) (length text - length line) → place + length text ≤ length body
    → length text ≡ length line + (1 + length after.now) → HasRead limit body builder count (place + 1) after.now
to_next limit body builder count place text line o after is h within bytes = record {
  calls = h.calls;
  taken = h.taken;
  counted = h.counted;
  spelled = h.spelled ∙ ap (λ r. h.calls ++ calls_in (lines_in r)) is;
  bad = h.bad ∙ ap (λ r. bad_from (place + 1) (lines_in r)) is;
  within = omega (arith, within, bytes);
  fewer = let f = h.fewer in omega (arith, f, bytes);
}

-- the last line was read
pub to_end : (limit : Option ℕ) (body : List ℕ) (builder : Builder) (count place bytes : ℕ) (o : Option (Bor (List ℕ))) → o ≡ None → HasReadTo limit body builder count place (lines_in o) bytes → IsVerdict limit body (Taken builder count)
to_end limit body builder count place bytes o is h =
    let all : calls_of body ≡ h.calls = h.spelled ∙ (ap (λ r. h.calls ++ calls_in (lines_in r)) is ∙ append-nil h.calls) in
    (h.bad ∙ ap (λ r. bad_from (place + 1) (lines_in r)) is, subst (λ l. HasTaken limit l (seen_of builder)) (sym all) h.taken, h.counted ∙ ap length (sym all))

-- places are counted on
by_test : (t : Bool) (lines : List (List ℕ)) (a b : ℕ) → bad_from ((a + b) + 1) lines ≡ option_map (λ n. a + n) (bad_from (b + 1) lines) → cond t (Some (a + b)) (bad_from ((a + b) + 1) lines) ≡ option_map (λ n. a + n) (cond t (Some b) (bad_from (b + 1) lines))
by_test true lines a b e = refl
by_test false lines a b e = e

sum_more : (a b : ℕ) → (a + b) + 1 ≡ a + (b + 1)
sum_more a b = omega arith

shifted : (lines : List (List ℕ)) (a b : ℕ) → bad_from (a + b) lines ≡ option_map (λ n. a + n) (bad_from b lines)
shifted [] a b = refl
shifted (l ∷ lines) a b = by_test (is_bad l) lines a b (ap (λ n. bad_from n lines) (sum_more a b) ∙ shifted lines a (b + 1))

none_more : (n : ℕ) → n ≡ n + 0
none_more n = omega arith

-- where a text's first bad line is among all lines
bad_after : (text : List ℕ) (place : ℕ) (b : Option ℕ) → first_bad text ≡ b → bad_from place (lines_of text) ≡ option_map (λ n. place + n) b
bad_after text place b e =
    ap (λ n. bad_from n (lines_of text)) (none_more place) ∙ (shifted (lines_of text) place 0 ∙ ap (option_map (λ n. place + n)) (sym (position_from-zero is_bad (lines_of text)) ∙ e))

-- the text begins with a bad line
pub bad_begins : (limit : Option ℕ) (body : List ℕ) (builder : Builder) (count place : ℕ) (text : List ℕ) → HasRead limit body builder count place text → first_bad text ≡ Some 0 → first_bad body ≡ Some place
bad_begins limit body builder count place text h e = h.bad ∙ (bad_after text place (Some 0) e ∙ ap Some (sym (none_more place)))

-- a refusal, or a bad line after it
pub refused_or_bad : (limit : Option ℕ) (body text : List ℕ) (place : ℕ) (e : CallsError) (r : Verdict) → first_bad body ≡ bad_from place (lines_of text) → IsRefusedWithin limit (calls_of body) e
    → MatchOption (first_bad text) (r ≡ Refused e) (λ further. r ≡ BadLine (place + further)) → IsVerdict limit body r
refused_or_bad limit body text place e r same refused = by_found (first_bad text) refl
  where
    by_found : (b : Option ℕ) → first_bad text ≡ b → MatchOption b (r ≡ Refused e) (λ further. r ≡ BadLine (place + further)) → IsVerdict limit body r
    by_found None found is = subst (IsVerdict limit body) (sym is) (same ∙ bad_after text place None found, refused)
    by_found (Some n) found is = subst (IsVerdict limit body) (sym is) (same ∙ bad_after text place (Some n) found)

-- what a line's call is answered
pub answers_line : (limit : Option ℕ) (calls : List Event) (c : Event) (r : Result (Unit {0}) Error) (new : Builder) → AnswersNext limit calls c r (seen_of new) → AnswersLine limit calls c r new
answers_line limit calls c (Ok u) new h = h.0
answers_line limit calls c (Err e) new h = λ caused rest. h rest
