-- Rules of a text that is cut before an `@`, read in its front alone.
-- Serves `cutting_law`.
use Rattle.std.proofs.Common.{◌≡◌, ℕ, ◌<◌, ◌≤◌, ◌==◌, ◌||◌, ◌&&◌, not, Bool, true, false, List, [], ◌∷◌, ◌++◌, length, Option, Some, None, arith, refl, ap, subst, ◌∙◌, if◌then◌else◌}
use Rattle.css_text.specs.AsciiBytes.{at_sign, close_brace, hyphen, open_brace, semicolon}
use Rattle.css_text.specs.Reading.{before}
use Rattle.css_text.specs.Bytes.{past_byte, starts, starts_by, starts_two}
use Rattle.css_text.proofs.reading.TakesLemmas.{length-past_byte}
use Rattle.css_syntax.specs.declared.quality.Fault.TheVariants.{NoBlock}
use Rattle.css_syntax.specs.Tokens.{begins_cdo, begins_escape, gap_part, past_gap, past_word}
use Rattle.css_syntax.specs.Parts.{Stated, parts}
use Rattle.css_syntax.specs.Statements.{at_rule_ends, begins_at_rule, begins_cdc, begins_name_byte, begins_plain_ident, between_part, past_between, rule_set_ends, starts_ident}
use Rattle.css_syntax.specs.DeclarationLists.{at_rule_item, skipped_item}
use Rattle.css_syntax.specs.Blocks.{BlockPart, at_rule_begun, at_rule_opened, closes, listed, listed_rule_by, opens_at_rule, opens_rule, rule_part, rule_part_from}
use Rattle.css_syntax.proofs.ItemLemmas.{between_part-takes}
use Rattle.css_syntax.proofs.PartLemmas.{parts-within, past_gap-within}
use Rattle.sheet_laws.proofs.CutTokens.{Kept, Same, same-if, if-within, Follows, follows-if, each-kept, same_unit, starts_by-same, starts-same, starts_two-same, past_byte-on, drop-kept, escape-same, cdo-same, gap_part-follows, word-kept}
use Rattle.sheet_laws.proofs.CutValues.{before-same, gap_parts-same, parts-same}

module _ (t : List ℕ) where
  -- ---- between statements

  cdc-same : (s : List ℕ) → begins_cdc (s ++ at_sign ∷ t) ≡ begins_cdc s
  cdc-same [] = refl
  cdc-same (b ∷ []) = by (b == hyphen)
    where
      by : (k : Bool) → ((k && false) && starts 62 t) ≡ ((k && false) && false)
      by true = refl
      by false = refl
  cdc-same (b ∷ c ∷ s) =
      ap (λ (k : Bool). starts_two hyphen hyphen (b ∷ c ∷ s) && k) (starts-same t 62 refl s)

  between_part-follows : (in_block : Bool) (s : List ℕ)
      → Follows t (same_unit t) (between_part in_block (s ++ at_sign ∷ t)) (between_part in_block s)
  unfolding between_part gap_part
  between_part-follows true [] = tt
  between_part-follows false [] = tt
  between_part-follows in_block (b ∷ s) =
      follows-if t (same_unit t) (not in_block && begins_cdo (b ∷ (s ++ at_sign ∷ t)))
      (not in_block && begins_cdo (b ∷ s)) (ap (λ (k : Bool). not in_block && k) (cdo-same t (b ∷ s))) _ _ _ _
      (λ l. (refl, drop-kept t 3 s l))
      (follows-if t (same_unit t) (not in_block && begins_cdc (b ∷ (s ++ at_sign ∷ t)))
      (not in_block && begins_cdc (b ∷ s)) (ap (λ (k : Bool). not in_block && k) (cdc-same (b ∷ s))) _ _ _ _
      (λ l. (refl, drop-kept t 2 s l)) (gap_part-follows t (b ∷ s)))

  pub between-kept : (in_block : Bool) (s : List ℕ)
      → Kept t (past_between in_block (s ++ at_sign ∷ t)) (past_between in_block s)
  between-kept in_block s =
      each-kept t (between_part in_block) (between_part-takes in_block) (between_part-follows in_block) s

  -- ---- names

  plain-same : (s : List ℕ) → begins_plain_ident (s ++ at_sign ∷ t) ≡ begins_plain_ident s
  plain-same s =
      ap (λ (k : Bool). k || begins_escape (s ++ at_sign ∷ t)) (starts_by-same t begins_name_byte refl s)
      ∙ ap (λ (k : Bool). starts_by begins_name_byte s || k) (escape-same t s)

  pub ident-same : (s : List ℕ) → starts_ident (s ++ at_sign ∷ t) ≡ starts_ident s
  ident-same s =
      ap (λ (k : Bool). k || begins_plain_ident (past_byte hyphen (s ++ at_sign ∷ t)))
      (starts_two-same t hyphen hyphen refl refl s)
      ∙ ap (λ (k : Bool). starts_two hyphen hyphen s || k)
      (ap begins_plain_ident (past_byte-on t hyphen refl s) ∙ plain-same (past_byte hyphen s))

  pub at_rule-begins : (b : ℕ) (s : List ℕ)
      → begins_at_rule (b ∷ (s ++ at_sign ∷ t)) ≡ begins_at_rule (b ∷ s)
  at_rule-begins b s = ap (λ (k : Bool). b == at_sign && k) (ident-same s)

  -- ---- at-rules

  begun-within : (name : List ℕ) (prelude : Stated) (rest : List ℕ)
      → length (at_rule_begun name prelude rest).1 ≤ length rest
  begun-within name prelude rest =
      if-within [] (length rest) (starts open_brace rest) (opens_at_rule name prelude, past_byte open_brace rest)
      (listed (at_rule_item (record { name = name; prelude = prelude; block = None })), past_byte semicolon rest)
      (length-past_byte open_brace rest) (length-past_byte semicolon rest)

  begun-same : (name : List ℕ) (prelude : Stated) (r : List ℕ)
      → Same t (at_rule_begun name prelude (r ++ at_sign ∷ t)) (at_rule_begun name prelude r)
  begun-same name prelude r =
      same-if t (starts open_brace (r ++ at_sign ∷ t)) (starts open_brace r) (starts-same t open_brace refl r)
      _ _ _ _ (λ l. (refl, past_byte-on t open_brace refl r)) (λ l. (refl, past_byte-on t semicolon refl r))

  -- from after `@` on
  abbrev named_at_rule : (in_block : Bool) → List ℕ → BlockPart × List ℕ
  named_at_rule in_block start =
      at_rule_begun (before start (past_word start)) (parts (at_rule_ends in_block) (past_gap (past_word start))).0
      (parts (at_rule_ends in_block) (past_gap (past_word start))).1

  named-same : (in_block : Bool) (s : List ℕ)
      → Same t (named_at_rule in_block (s ++ at_sign ∷ t)) (named_at_rule in_block s)
  named-same in_block s l =
      let W = s ++ at_sign ∷ t in
      let stops = at_rule_ends in_block in
      let P = parts stops (past_gap (past_word W)) in
      let Q = parts stops (past_gap (past_word s)) in
      let name = before s (past_word s) in
      let long : length t < length P.1 = omega (arith, l, begun-within (before W (past_word W)) P.0 P.1) in
      let word : past_word W ≡ past_word s ++ at_sign ∷ t =
      word-kept t s
      (omega (arith, long, parts-within stops (past_gap (past_word W)), past_gap-within (past_word W))) in
      let names : before W (past_word W) ≡ name =
      ap (before W) word ∙ before-same t s (past_word s) in
      let both = gap_parts-same t stops (past_word W) (past_word s) (λ k. word) long in
      let begun : at_rule_begun (before W (past_word W)) P.0 P.1
      ≡ at_rule_begun name Q.0 (Q.1 ++ at_sign ∷ t) =
      ap (λ (n : List ℕ). at_rule_begun n P.0 P.1) names
      ∙ ap (λ (p : Stated). at_rule_begun name p P.1) both.0
      ∙ ap (at_rule_begun name Q.0) both.1 in
      let same = begun-same name Q.0 Q.1
      (subst (λ (z : BlockPart × List ℕ). length t < length z.1) begun l) in (
        ap (λ (z : BlockPart × List ℕ). z.0) begun ∙ same.0,
        ap (λ (z : BlockPart × List ℕ). z.1) begun ∙ same.1,
      )

  pub at_rule-same : (in_block : Bool) (b : ℕ) (s : List ℕ)
      → Same t (at_rule_opened in_block (b ∷ (s ++ at_sign ∷ t))) (at_rule_opened in_block (b ∷ s))
  unfolding at_rule_opened
  at_rule-same in_block b s = by (b == at_sign)
    where
      by : (k : Bool) → Same t (named_at_rule in_block (if k then s ++ at_sign ∷ t else b ∷ (s ++ at_sign ∷ t)))
          (named_at_rule in_block (if k then s else b ∷ s))
      by true = named-same in_block s
      by false = named-same in_block (b ∷ s)

  -- ---- rules of a sheet

  listed-within : (x : Stated × List ℕ) → length (listed_rule_by x).1 ≤ length x.1
  listed-within x =
      if-within [] (length x.1) (starts open_brace x.1) (opens_rule x.0, past_byte open_brace x.1)
      (listed (skipped_item NoBlock), x.1) (length-past_byte open_brace x.1) (omega arith)

  listed-on : (prelude : Stated) (r : List ℕ)
      → Same t (listed_rule_by (prelude, r ++ at_sign ∷ t)) (listed_rule_by (prelude, r))
  listed-on prelude r =
      same-if t (starts open_brace (r ++ at_sign ∷ t)) (starts open_brace r) (starts-same t open_brace refl r)
      _ _ _ _ (λ l. (refl, past_byte-on t open_brace refl r)) (λ l. (refl, refl))

  pub pair-same : {A B : Type 0} (f : A × List ℕ → B × List ℕ)
      → ((x : A × List ℕ) → length (f x).1 ≤ length x.1)
      → ((a : A) (r : List ℕ) → Same t (f (a, r ++ at_sign ∷ t)) (f (a, r)))
      → (x y : A × List ℕ) → Same t x y → Same t (f x) (f y)
  pair-same f less on (a, r) (c, s) h l =
      let both = h (omega (arith, l, less (a, r))) in
      let pairs : (a, r) ≡ (c, s ++ at_sign ∷ t) = cc (both.0, both.1) in
      let same = on c s (subst (λ z. length t < length (f z).1) pairs l) in
      (ap (λ z. (f z).0) pairs ∙ same.0, ap (λ z. (f z).1) pairs ∙ same.1)

  rule_part-same : (in_block : Bool) (b : ℕ) (s : List ℕ)
      → Same t (rule_part in_block (b ∷ (s ++ at_sign ∷ t))) (rule_part in_block (b ∷ s))
  unfolding rule_part
  rule_part-same in_block b s =
      same-if t (begins_at_rule (b ∷ (s ++ at_sign ∷ t))) (begins_at_rule (b ∷ s)) (at_rule-begins b s) _ _ _ _
      (at_rule-same in_block b s)
      (pair-same listed_rule_by listed-within listed-on
      (parts (rule_set_ends in_block) (b ∷ (s ++ at_sign ∷ t))) (parts (rule_set_ends in_block) (b ∷ s))
      (parts-same t (rule_set_ends in_block) (b ∷ s)))

  -- what is found from a byte of the front on
  abbrev pub FoundSame : {A : Type 0} → Option (A × List ℕ) → Option (A × List ℕ) → Type 0
  FoundSame None None = Unit {0}
  FoundSame None (Some y) = ⊥
  FoundSame (Some x) None = ⊥
  FoundSame (Some x) (Some y) = Same t x y

  found-if : {A : Type 0} (c : Bool) (a b x y : Option (A × List ℕ)) → FoundSame a x → FoundSame b y
      → FoundSame (if c then a else b) (if c then x else y)
  found-if true a b x y h k = h
  found-if false a b x y h k = k

  pub rule_part_from-same : (in_block : Bool) (b : ℕ) (s : List ℕ)
      → FoundSame (rule_part_from in_block (b ∷ (s ++ at_sign ∷ t))) (rule_part_from in_block (b ∷ s))
  rule_part_from-same in_block b s =
      found-if (in_block && b == close_brace) (Some (closes, s ++ at_sign ∷ t))
      (Some (rule_part in_block (b ∷ (s ++ at_sign ∷ t)))) (Some (closes, s)) (Some (rule_part in_block (b ∷ s)))
      (λ l. (refl, refl)) (rule_part-same in_block b s)
