-- Parts of the block of a style rule of a text that is cut before an `@`, read in its front alone.
-- Serves `cutting_law`.
use Rattle.std.proofs.Common.{◌≡◌, ℕ, ◌<◌, ◌≤◌, ◌==◌, ◌||◌, ◌&&◌, Bool, true, false, List, [], ◌∷◌, ◌++◌, length, Option, Some, None, Ok, Err, arith, refl, sym, ap, subst, ◌∙◌, if◌then◌else◌}
use Rattle.css_text.specs.AsciiBytes.{at_sign, close_brace, colon, exclamation_mark, open_brace, semicolon}
use Rattle.css_text.specs.Reading.{before, each}
use Rattle.css_text.specs.Bytes.{past_byte, starts}
use Rattle.css_text.proofs.reading.EachLemmas.{each-stops}
use Rattle.css_text.proofs.reading.TakesLemmas.{length-past_byte}
use Rattle.css_syntax.specs.declared.parts.Stops.{Stops}
use Rattle.css_syntax.specs.declared.quality.Fault.{Fault}
use Rattle.css_syntax.specs.declared.quality.Fault.TheVariants.{BrokenDeclaration, NestedRule}
use Rattle.css_syntax.specs.Tokens.{gap_part, is_closer, past_gap, past_word}
use Rattle.css_syntax.specs.ComponentValues.{component_value, deepest}
use Rattle.css_syntax.specs.Parts.{Stated, ends_at, part, parts, with_gap}
use Rattle.css_syntax.specs.Statements.{at_rule_ends, begins_at_rule, starts_ident}
use Rattle.css_syntax.specs.DeclarationLists.{Declared, DeclarationText, begins_custom, declaration, declared, is_custom, past_broken, past_separators, separator_part, skipped_item, value_ends}
use Rattle.css_syntax.specs.Blocks.{BlockPart, block_part, block_part_from, closes, listed, opens_at_rule, opens_rule, or_opened, rule_opened, rule_opened_by}
use Rattle.css_syntax.proofs.ItemLemmas.{past_broken-within, separator_part-takes}
use Rattle.css_syntax.proofs.PartLemmas.{part-takes, parts-rests}
use Rattle.sheet_laws.proofs.CutTokens.{Kept, each-kept, follows-if, Follows, gap_part-follows, if-within, same_unit, starts-same, past_byte-on}
use Rattle.sheet_laws.proofs.CutValues.{parts-same}
use Rattle.sheet_laws.proofs.CutRules.{at_rule-begins, at_rule-same, ident-same}
use Rattle.sheet_laws.proofs.CutDeclarations.{declared-same, name-same, with_cut}
use Rattle.sheet_laws.proofs.DeclarationReach.{Ended, Fewer, Plain, declaration-ends, ends, ends-fewer, ends-plain, through}

-- ---- where the parts of a rule among declarations end

abbrev rule_ends : Stops
rule_ends = at_rule_ends true

rule-plain : Plain rule_ends
rule-plain b one two three = rw (one, two, three) (by (b == 44))
  where
    by : (k : Bool) → (if k then false else false) ≡ false
    by true = refl
    by false = refl

-- they end values, unless the property is a custom one
rule-fewer : (custom : Bool) → custom ≡ false → Fewer rule_ends (value_ends custom)
rule-fewer true n b h = absurd (cc)
rule-fewer false n b h = by (b == semicolon) (b == open_brace) (b == close_brace) (b == 44) h
  where
    by : (s o c m : Bool)
        → (if s then true else (if o then true else (if c then true else (if m then false else false)))) ≡ true
        → (if s then true else (if o then true else (if c then true else (if m then false
        else (true && (b == exclamation_mark || is_closer b)))))) ≡ true
    by true o c m h = refl
    by false true c m h = refl
    by false false true m h = refl
    by false false false true h = absurd (cc)
    by false false false false h = absurd (cc)

-- what ends declarations ends these
broken-fewer : Fewer ends rule_ends
broken-fewer b h = by (b == semicolon) (b == open_brace) (b == close_brace) (b == 44) h
  where
    by : (s o c m : Bool)
        → (if s then true else (if o then false else (if c then true else (if m then false else false)))) ≡ true
        → (if s then true else (if o then true else (if c then true else (if m then false else false)))) ≡ true
    by true o c m h = refl
    by false true c m h = refl
    by false false true m h = refl
    by false false false true h = absurd (cc)
    by false false false false h = absurd (cc)

parts-stop : (stops : Stops) (text : List ℕ) → ends_at stops (parts stops text).1 ≡ true
unfolding parts
parts-stop stops text =
    by (ends_at stops (each (part stops) text).1) (each-stops (part stops) (part-takes stops) text)
  where
    by : (k : Bool) → (if k then None else Some (with_gap (component_value deepest (each (part stops) text).1))) ≡ None
        → k ≡ true
    by true e = refl
    by false e = absurd (cc)

-- where these end at no brace, declarations do
brace-or-end : (text : List ℕ) → ends_at rule_ends text ≡ true → starts open_brace text ≡ false
    → ends_at ends text ≡ true
brace-or-end [] e o = refl
brace-or-end (b ∷ text) e o = by (b == semicolon) (b == open_brace) (b == close_brace) (b == 44) e o
  where
    by : (s o c m : Bool)
        → (if s then true else (if o then true else (if c then true else (if m then false else false)))) ≡ true
        → o ≡ false
        → (if s then true else (if o then false else (if c then true else (if m then false else false)))) ≡ true
    by true o c m h n = refl
    by false true c m h n = absurd (cc)
    by false false true m h n = refl
    by false false false true h n = absurd (cc)
    by false false false false h n = absurd (cc)

rule_opened-within : (custom : Bool) (fault : Fault) (prelude : Stated) (rest : List ℕ)
    → length (rule_opened custom fault prelude rest).1 ≤ length rest
rule_opened-within custom fault prelude rest =
    if-within [] (length rest) (starts open_brace rest)
    (if custom then (listed (skipped_item fault), past_broken true rest)
    else (opens_rule prelude, past_byte open_brace rest)) (listed (skipped_item fault), rest)
    (if-within [] (length rest) custom (listed (skipped_item fault), past_broken true rest)
    (opens_rule prelude, past_byte open_brace rest) (past_broken-within true rest) (length-past_byte open_brace rest))
    (omega arith)

abbrev either : Bool → BlockPart × List ℕ → BlockPart × List ℕ → BlockPart × List ℕ
either k x y = if k then x else y

-- what is skipped of a custom property, from its start on
custom-rest : (fault : Fault) (text : List ℕ)
    → (rule_opened_by true fault (parts rule_ends text)).1 ≡ (parts ends text).1
custom-rest fault text =
    by (starts open_brace (parts rule_ends text).1) refl
  where
    end : List ℕ
    end = (parts rule_ends text).1

    by : (k : Bool) → starts open_brace end ≡ k
        → (either k (listed (skipped_item fault), past_broken true end) (listed (skipped_item fault), end)).1
        ≡ (parts ends text).1
    by true e = through ends rule_ends broken-fewer text
    by false e =
        sym (parts-rests ends end (brace-or-end end (parts-stop rule_ends text) e))
        ∙ through ends rule_ends broken-fewer text

none-declared : (b : ℕ) (text : List ℕ) → starts_ident (b ∷ text) ≡ false
    → declaration true (b ∷ text) ≡ Err BrokenDeclaration
unfolding declaration
none-declared b text h = rw h refl

none-custom : (b : ℕ) (text : List ℕ) → starts_ident (b ∷ text) ≡ false → begins_custom (b ∷ text) ≡ false
none-custom b text h =
    ap (λ (k : Bool). k && is_custom (before (b ∷ text) (past_word (b ∷ text)))
    && starts colon (past_gap (past_word (b ∷ text)))) h

-- ---- what counts of a part: what is listed is not looked at

abbrev pub plain_part : BlockPart → BlockPart
plain_part (listed item) = listed (skipped_item NestedRule)
plain_part (opens_rule prelude) = opens_rule prelude
plain_part (opens_at_rule name prelude) = opens_at_rule name prelude
plain_part closes = closes

module _ (t : List ℕ) where
  abbrev pub PartSame : BlockPart × List ℕ → BlockPart × List ℕ → Type 0
  PartSame x y = length t < length x.1 → (plain_part x.0 ≡ plain_part y.0) × (x.1 ≡ y.1 ++ at_sign ∷ t)

  part-if : (c d : Bool) → c ≡ d → (a b x y : BlockPart × List ℕ) → PartSame a x → PartSame b y
      → PartSame (if c then a else b) (if d then x else y)
  part-if true true e a b x y h k = h
  part-if true false e a b x y h k = absurd (cc)
  part-if false true e a b x y h k = absurd (cc)
  part-if false false e a b x y h k = k

  rule_opened-on : (custom : Bool) (fault other : Fault) (prelude : Stated) (r : List ℕ)
      → PartSame (rule_opened custom fault prelude (r ++ at_sign ∷ t)) (rule_opened custom other prelude r)
  rule_opened-on custom fault other prelude r =
      part-if (starts open_brace (r ++ at_sign ∷ t)) (starts open_brace r) (starts-same t open_brace refl r) _ _ _ _
      (part-if custom custom refl (listed (skipped_item fault), past_broken true (r ++ at_sign ∷ t))
      (opens_rule prelude, past_byte open_brace (r ++ at_sign ∷ t))
      (listed (skipped_item other), past_broken true r) (opens_rule prelude, past_byte open_brace r)
      (λ l. (refl, (parts-same t ends r l).1)) (λ l. (refl, past_byte-on t open_brace refl r)))
      (λ l. (refl, refl))

  rule_by-same : (custom : Bool) (fault other : Fault) (s : List ℕ)
      → PartSame (rule_opened_by custom fault (parts rule_ends (s ++ at_sign ∷ t)))
      (rule_opened_by custom other (parts rule_ends s))
  rule_by-same custom fault other s l =
      let P = parts rule_ends (s ++ at_sign ∷ t) in
      let p = parts rule_ends s in
      let both = parts-same t rule_ends s (omega (arith, l, rule_opened-within custom fault P.0 P.1)) in
      let whole : rule_opened custom fault P.0 P.1 ≡ rule_opened custom fault p.0 (p.1 ++ at_sign ∷ t) =
      ap (λ (q : Stated). rule_opened custom fault q P.1) both.0
      ∙ ap (rule_opened custom fault p.0) both.1 in
      let same = rule_opened-on custom fault other p.0 p.1
      (subst (λ (z : BlockPart × List ℕ). length t < length z.1) whole l) in (
        ap (λ (z : BlockPart × List ℕ). plain_part z.0) whole ∙ same.0,
        ap (λ (z : BlockPart × List ℕ). z.1) whole ∙ same.1,
      )

  -- ---- declarations, and what is none

  -- what begins as no name
  no-ident : (b : ℕ) (s : List ℕ) → starts_ident (b ∷ s) ≡ false
      → PartSame (or_opened (b ∷ (s ++ at_sign ∷ t)) (declaration true (b ∷ (s ++ at_sign ∷ t))))
      (or_opened (b ∷ s) (declaration true (b ∷ s)))
  no-ident b s h =
      let W = b ∷ (s ++ at_sign ∷ t) in
      let P = parts rule_ends W in
      let p = parts rule_ends (b ∷ s) in
      let whole : starts_ident W ≡ false = ident-same t (b ∷ s) ∙ h in
      subst (λ (D : Declared). PartSame (or_opened W D) (or_opened (b ∷ s) (declaration true (b ∷ s))))
      (sym (none-declared b (s ++ at_sign ∷ t) whole))
      (subst (λ (d : Declared). PartSame (or_opened W (Err BrokenDeclaration)) (or_opened (b ∷ s) d))
      (sym (none-declared b s h))
      (subst (λ (k : Bool). PartSame (rule_opened_by k BrokenDeclaration P)
      (rule_opened_by (begins_custom (b ∷ s)) BrokenDeclaration p)) (sym (none-custom b (s ++ at_sign ∷ t) whole))
      (subst (λ (k : Bool). PartSame (rule_opened_by false BrokenDeclaration P)
      (rule_opened_by k BrokenDeclaration p)) (sym (none-custom b s h))
      (rule_by-same false BrokenDeclaration BrokenDeclaration (b ∷ s)))))

  custom-same : (b : ℕ) (s : List ℕ) → starts_ident (b ∷ s) ≡ true
      → length t < length (parts rule_ends (b ∷ (s ++ at_sign ∷ t))).1
      → begins_custom (b ∷ (s ++ at_sign ∷ t)) ≡ begins_custom (b ∷ s)
  custom-same b s h l =
      let same = name-same t rule_ends rule-plain b s h l in
      let W = b ∷ (s ++ at_sign ∷ t) in
      let x = b ∷ s in
      ap (λ (k : Bool). k && is_custom (before W (past_word W)) && starts colon (past_gap (past_word W)))
      (ident-same t x)
      ∙ ap (λ (n : List ℕ). starts_ident x && is_custom n && starts colon (past_gap (past_word W))) same.name
      ∙ ap (λ (g : List ℕ). starts_ident x && is_custom (before x (past_word x)) && starts colon g) same.gap
      ∙ ap (λ (k : Bool). starts_ident x && is_custom (before x (past_word x)) && k)
      (starts-same t colon refl (past_gap (past_word x)))

  -- where the whole is no declaration, the front is none
  err-same : (b : ℕ) (s : List ℕ) → starts_ident (b ∷ s) ≡ true → (fault : Fault) (d : Declared)
      → Err fault ≡ with_cut t d
      → PartSame (rule_opened_by (begins_custom (b ∷ (s ++ at_sign ∷ t))) fault
      (parts rule_ends (b ∷ (s ++ at_sign ∷ t)))) (or_opened (b ∷ s) d)
  err-same b s h fault (Ok found) e l = absurd (cc)
  err-same b s h fault (Err other) e l =
      let W = b ∷ (s ++ at_sign ∷ t) in
      let P = parts rule_ends W in
      let custom = custom-same b s h
      (omega (arith, l, rule_opened-within (begins_custom W) fault P.0 P.1)) in
      let same = rule_by-same (begins_custom (b ∷ s)) fault other (b ∷ s)
      (subst (λ (k : Bool). length t < length (rule_opened_by k fault P).1) custom l) in (
        ap (λ (k : Bool). plain_part (rule_opened_by k fault P).0) custom ∙ same.0,
        ap (λ (k : Bool). (rule_opened_by k fault P).1) custom ∙ same.1,
      )

  abbrev left_of : Declared → List ℕ
  left_of (Ok found) = found.1
  left_of (Err fault) = []

  ok-same : (b : ℕ) (s : List ℕ) (found : DeclarationText × List ℕ) (d : Declared) → Ok found ≡ with_cut t d
      → PartSame (listed (declared found.0), found.1) (or_opened (b ∷ s) d)
  ok-same b s found (Ok other) e = λ l. (refl, ap left_of e)
  ok-same b s found (Err fault) e = absurd (cc)

  or-same : (b : ℕ) (s : List ℕ) → starts_ident (b ∷ s) ≡ true → (D : Declared)
      → declaration true (b ∷ (s ++ at_sign ∷ t)) ≡ D
      → PartSame (or_opened (b ∷ (s ++ at_sign ∷ t)) D) (or_opened (b ∷ s) (declaration true (b ∷ s)))
  or-same b s h (Ok found) e l =
      let W = b ∷ (s ++ at_sign ∷ t) in
      let ended : (parts ends W).1 ≡ found.1 =
      subst (λ (x : Declared). Ended x W) e (declaration-ends b (s ++ at_sign ∷ t)) in
      let same = declared-same t ends ends-plain b s h
      (λ k. ends-fewer (is_custom (before (b ∷ s) (past_word (b ∷ s)))))
      (omega (arith, l, ap length ended)) in
      ok-same b s found (declaration true (b ∷ s)) (sym e ∙ same) l
  or-same b s h (Err fault) e l =
      err-same b s h fault (declaration true (b ∷ s))
      (sym e ∙ by (is_custom name) (starts colon (past_gap (past_word (b ∷ s)))) refl refl) l
    where
      W : List ℕ
      W = b ∷ (s ++ at_sign ∷ t)

      name : List ℕ
      name = before (b ∷ s) (past_word (b ∷ s))

      P : Stated × List ℕ
      P = parts rule_ends W

      long : length t < length P.1
      long = omega (arith, l, rule_opened-within (begins_custom W) fault P.0 P.1)

      by : (k c : Bool) → is_custom name ≡ k → starts colon (past_gap (past_word (b ∷ s))) ≡ c
          → declaration true W ≡ with_cut t (declaration true (b ∷ s))
      by false c n g = declared-same t rule_ends rule-plain b s h (λ k. rule-fewer (is_custom name) n) long
      by true false n g = declared-same t rule_ends rule-plain b s h (λ k. absurd (cc)) long
      by true true n g =
          let custom : begins_custom W ≡ true =
          custom-same b s h long
          ∙ ap (λ (k : Bool). k && is_custom name && starts colon (past_gap (past_word (b ∷ s)))) h
          ∙ ap (λ (k : Bool). true && k && starts colon (past_gap (past_word (b ∷ s)))) n
          ∙ ap (λ (k : Bool). true && true && k) g in
          let skipped : (rule_opened_by (begins_custom W) fault P).1 ≡ (parts ends W).1 =
          ap (λ (k : Bool). (rule_opened_by k fault P).1) custom ∙ custom-rest fault W in
          declared-same t ends ends-plain b s h (λ k. ends-fewer (is_custom name))
          (omega (arith, l, ap length skipped))

  block_part-same : (b : ℕ) (s : List ℕ) → PartSame (block_part (b ∷ (s ++ at_sign ∷ t))) (block_part (b ∷ s))
  unfolding block_part
  block_part-same b s =
      part-if (begins_at_rule (b ∷ (s ++ at_sign ∷ t))) (begins_at_rule (b ∷ s)) (at_rule-begins t b s) _ _ _ _
      (λ l. let both = at_rule-same t true b s l in (ap plain_part both.0, both.1))
      (by (starts_ident (b ∷ s)) refl)
    where
      W : List ℕ
      W = b ∷ (s ++ at_sign ∷ t)

      by : (k : Bool) → starts_ident (b ∷ s) ≡ k
          → PartSame (or_opened W (declaration true W)) (or_opened (b ∷ s) (declaration true (b ∷ s)))
      by true h = or-same b s h (declaration true W) refl
      by false h = no-ident b s h

  -- what is found from a byte of the front on
  abbrev pub FoundPart : Option (BlockPart × List ℕ) → Option (BlockPart × List ℕ) → Type 0
  FoundPart None None = Unit {0}
  FoundPart None (Some y) = ⊥
  FoundPart (Some x) None = ⊥
  FoundPart (Some x) (Some y) = PartSame x y

  found-if : (c : Bool) (a b x y : Option (BlockPart × List ℕ)) → FoundPart a x → FoundPart b y
      → FoundPart (if c then a else b) (if c then x else y)
  found-if true a b x y h k = h
  found-if false a b x y h k = k

  pub block_part_from-same : (b : ℕ) (s : List ℕ)
      → FoundPart (block_part_from (b ∷ (s ++ at_sign ∷ t))) (block_part_from (b ∷ s))
  block_part_from-same b s =
      found-if (b == close_brace) (Some (closes, s ++ at_sign ∷ t)) (Some (block_part (b ∷ (s ++ at_sign ∷ t))))
      (Some (closes, s)) (Some (block_part (b ∷ s))) (λ l. (refl, refl)) (block_part-same b s)

  -- ---- between parts

  separator_part-follows : (s : List ℕ)
      → Follows t (same_unit t) (separator_part (s ++ at_sign ∷ t)) (separator_part s)
  unfolding separator_part gap_part
  separator_part-follows [] = tt
  separator_part-follows (b ∷ s) =
      follows-if t (same_unit t) (b == semicolon) (b == semicolon) refl _ _ _ _ (λ l. (refl, refl))
      (gap_part-follows t (b ∷ s))

  pub separators-kept : (s : List ℕ) → Kept t (past_separators (s ++ at_sign ∷ t)) (past_separators s)
  separators-kept s = each-kept t separator_part separator_part-takes separator_part-follows s
