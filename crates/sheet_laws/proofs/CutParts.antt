-- The parts of a sheet that is cut before an `@`: those of its front, and then those of its rest.
-- Serves `cutting_law`.
use Rattle.std.proofs.Common.{◌≡◌, ℕ, zero, suc, ◌<◌, ◌≤◌, Bool, List, [], ◌∷◌, ◌++◌, get_or, length, length-append, Option, Some, None, arith, refl, sym, ap, subst, ◌∙◌, ◌⊎◌, inl, inr}
use Rattle.css_text.specs.AsciiBytes.{at_sign}
use Rattle.css_text.proofs.reading.EachLemmas.{each-stops, option_cases, took as took_by}
use Rattle.css_syntax.specs.Blocks.{BlockPart, closes, listed, next_rule_part, opens_at_rule, opens_rule, rule_part_from}
use Rattle.css_syntax.specs.DeclarationLists.{ItemText, at_rule_item}
use Rattle.css_syntax.specs.Statements.{BlockText, between_part, past_between}
use Rattle.css_syntax.proofs.BlockSteps.{next_rule_part-takes}
use Rattle.css_syntax.proofs.ItemLemmas.{between_part-takes, block-within, past_between-within, past_separators-within}
use Rattle.css_syntax.proofs.Shorter.{each-rests}
use Rattle.css_sheet.specs.SheetItems.{group_keyword}
use Rattle.css_sheet.specs.SheetParts.{Nesting, OpenText, PlacedPart, SheetPart, Source, at_rule_outside, from_part, is_more_open, nested, nesting_of, next_by, next_in, next_outside, open_after, option_outside, outside, part_outside, parts_in, past_before, place_at, placed_part, stands, within}
use Rattle.css_sheet.proofs.PartSteps.{parts-none, parts-some, took}
use Rattle.sheet_laws.proofs.CutTokens.{Same}
use Rattle.sheet_laws.proofs.CutValues.{block-same}
use Rattle.sheet_laws.proofs.CutRules.{FoundSame, between-kept, pair-same, rule_part_from-same}

-- ---- the next part outside of style rules

module _ (t : List ℕ) where
  outside-within : (x : BlockPart × List ℕ) → length (part_outside x).1 ≤ length x.1
  outside-within (listed item, r) = omega arith
  outside-within (opens_rule prelude, r) = omega arith
  outside-within (opens_at_rule name prelude, r) = by (group_keyword name)
    where
      by : (o : Option (List ℕ)) → length (at_rule_outside name prelude r o).1 ≤ length r
      by None = block-within r
      by (Some keyword) = omega arith
  outside-within (closes, r) = omega arith

  outside-on : (p : BlockPart) (r : List ℕ) → Same t (part_outside (p, r ++ at_sign ∷ t)) (part_outside (p, r))
  outside-on (listed item) r = λ l. (refl, refl)
  outside-on (opens_rule prelude) r = λ l. (refl, refl)
  outside-on (opens_at_rule name prelude) r = by (group_keyword name)
    where
      by : (o : Option (List ℕ))
          → Same t (at_rule_outside name prelude (r ++ at_sign ∷ t) o) (at_rule_outside name prelude r o)
      by None = λ l.
          let both = block-same t r l in (
            ap (λ (found : BlockText). stands
                (at_rule_item (record { name = name; prelude = prelude; block = Some found }))) both.0,
            both.1,
          )
      by (Some keyword) = λ l. (refl, refl)
  outside-on closes r = λ l. (refl, refl)

between-again : (in_block : Bool) (text : List ℕ)
    → past_between in_block (past_between in_block text) ≡ past_between in_block text
between-again in_block text =
    each-rests (between_part in_block) (past_between in_block text)
    (each-stops (between_part in_block) (between_part-takes in_block) text)

-- a part that is found ends after it begins
rule-less : (in_block : Bool) (text : List ℕ) (x : BlockPart × List ℕ)
    → rule_part_from in_block (past_between in_block text) ≡ Some x
    → length x.1 < length (past_between in_block text)
unfolding next_rule_part
rule-less in_block text x e =
    let start = past_between in_block text in
    took_by (next_rule_part in_block) (next_rule_part-takes in_block) start x.1 x.0
    (ap (rule_part_from in_block) (between-again in_block text) ∙ e)

-- what is left of the front, if the next part of the whole is in it
abbrev pub InFront : (t : List ℕ) → (front : Option (SheetPart × List ℕ)) → SheetPart → (rest : List ℕ) → Type 0
InFront t front part rest = (left : List ℕ) × (front ≡ Some (part, left)) × (rest ≡ left ++ at_sign ∷ t)

module _ (t : List ℕ) (in_block : Bool) where
  -- from where the part begins
  from-front : (s : List ℕ) (part : SheetPart) (rest : List ℕ) (x : BlockPart × List ℕ) → length t < length rest
      → part_outside x ≡ (part, rest) → length x.1 < length (past_between in_block (s ++ at_sign ∷ t))
      → (y : List ℕ) → past_between in_block (s ++ at_sign ∷ t) ≡ y ++ at_sign ∷ t
      → rule_part_from in_block (y ++ at_sign ∷ t) ≡ Some x
      → InFront t (option_outside (rule_part_from in_block y)) part rest
  from-front s part rest x long is less [] b e =
      absurd (omega (
        arith,
        long,
        less,
        ap length b,
        outside-within t x,
        ap (λ (z : SheetPart × List ℕ). length z.1) is,
      ))
  from-front s part rest x long is less (c ∷ y) b e =
      by (rule_part_from in_block (c ∷ y))
      (subst (λ o. FoundSame t o (rule_part_from in_block (c ∷ y))) e (rule_part_from-same t in_block c y))
    where
      by : (o : Option (BlockPart × List ℕ)) → FoundSame t (Some x) o
          → InFront t (option_outside o) part rest
      by None same = absurd same
      by (Some z) same =
          let both = pair-same t part_outside (outside-within t) (outside-on t) x z same
          (omega (arith, long, ap (λ (p : SheetPart × List ℕ). length p.1) is)) in
          let part_is : (part_outside z).0 ≡ part = sym both.0 ∙ ap (λ (p : SheetPart × List ℕ). p.0) is in
          let rest_is : rest ≡ (part_outside z).1 ++ at_sign ∷ t =
          sym (ap (λ (p : SheetPart × List ℕ). p.1) is) ∙ both.1 in
          ((part_outside z).1, ap (λ (p : SheetPart). Some (p, (part_outside z).1)) part_is, rest_is)

  pub next-front : (s : List ℕ) (part : SheetPart) (rest : List ℕ)
      → next_outside in_block (s ++ at_sign ∷ t) ≡ Some (part, rest) → length t < length rest
      → InFront t (next_outside in_block s) part rest
      × (past_between in_block (s ++ at_sign ∷ t) ≡ past_between in_block s ++ at_sign ∷ t)
  unfolding next_rule_part
  next-front s part rest e long =
      by (option_cases (rule_part_from in_block (past_between in_block (s ++ at_sign ∷ t))))
    where
      W : List ℕ
      W = past_between in_block (s ++ at_sign ∷ t)

      by : (rule_part_from in_block W ≡ None) ⊎ ((x : BlockPart × List ℕ) × (rule_part_from in_block W ≡ Some x))
          → InFront t (option_outside (rule_part_from in_block (past_between in_block s))) part rest
          × (W ≡ past_between in_block s ++ at_sign ∷ t)
      by (inl none) = absurd (let wrong = ap option_outside (sym none) ∙ e in cc)
      by (inr found) =
          let is : part_outside found.0 ≡ (part, rest) = cc (ap option_outside (sym found.1) ∙ e) in
          let less = rule-less in_block (s ++ at_sign ∷ t) found.0 found.1 in
          let kept : W ≡ past_between in_block s ++ at_sign ∷ t =
          between-kept t in_block s (omega (
            arith,
            long,
            less,
            outside-within t found.0,
            ap (λ (z : SheetPart × List ℕ). length z.1) is,
          )) in (
            from-front s part rest found.0 long is less (past_between in_block s) kept
                (ap (rule_part_from in_block) (sym kept) ∙ found.1),
            kept,
          )

  -- where a part begins at the cut, none is left in the front
  pub none-front : (s : List ℕ) → past_between in_block (s ++ at_sign ∷ t) ≡ at_sign ∷ t
      → next_outside in_block s ≡ None
  unfolding next_rule_part
  none-front s e =
      let kept = between-kept t in_block s (omega (arith, ap length e)) in
      by (past_between in_block s)
      (omega (arith, ap length e, ap length kept, length-append (past_between in_block s) (at_sign ∷ t)))
    where
      by : (y : List ℕ) → length y ≤ 0 → option_outside (rule_part_from in_block y) ≡ None
      by [] l = refl
      by (b ∷ y) l = absurd (omega (arith, l))

  -- and the next part of the whole is that of the rest
  pub at-cut : (s : List ℕ) → past_between in_block (s ++ at_sign ∷ t) ≡ at_sign ∷ t
      → (past_between in_block (at_sign ∷ t) ≡ at_sign ∷ t)
      × (next_outside in_block (s ++ at_sign ∷ t) ≡ next_outside in_block (at_sign ∷ t))
  unfolding next_rule_part
  at-cut s e =
      let again : past_between in_block (at_sign ∷ t) ≡ at_sign ∷ t =
      ap (past_between in_block) (sym e) ∙ between-again in_block (s ++ at_sign ∷ t) ∙ e in
      (again, ap (λ (z : List ℕ). option_outside (rule_part_from in_block z)) (e ∙ sym again))

-- ---- the parts one after another

pub next-as : (depth : ℕ) (around : List OpenText) (text : List ℕ) → nesting_of around ≡ outside
    → next_in depth around text ≡ next_outside (is_more_open depth around) text
unfolding next_in
next-as depth around text e = ap (λ (n : Nesting). next_by n (is_more_open depth around) text) e

pub from-as : (depth : ℕ) (around : List OpenText) (text : List ℕ) → nesting_of around ≡ outside
    → from_part depth around text ≡ past_between (is_more_open depth around) text
from-as depth around text e = ap (λ (n : Nesting). past_before n (is_more_open depth around) text) e

from-within : (depth : ℕ) (around : List OpenText) (text : List ℕ) → length (from_part depth around text) ≤ length text
from-within depth around text = by (nesting_of around)
  where
    by : (n : Nesting) → length (past_before n (is_more_open depth around) text) ≤ length text
    by outside = past_between-within (is_more_open depth around) text
    by (within prelude) = past_separators-within text
    by nested = past_separators-within text

module _ (t : List ℕ) (holds : List ℕ → List ℕ → Bool) (source : Source) (top : List OpenText) where
  -- an at-rule begins at the cut, where these rules are open
  abbrev pub CutAt : PlacedPart → Type 0
  CutAt placed =
      ((item : ItemText) × (placed.part ≡ stands item)) × (placed.from ≡ at_sign ∷ t) × (placed.around ≡ top)

  abbrev pub HasCut : List PlacedPart → Type 0
  HasCut [] = ⊥
  HasCut (placed ∷ more) = CutAt placed ⊎ HasCut more

  pub cut-there : (parts : List PlacedPart) (placed : PlacedPart) → CutAt placed → (k : ℕ) → k < length parts
      → get_or parts k placed ≡ placed → HasCut parts
  cut-there [] placed c k l e = absurd (omega (arith, l))
  cut-there (one ∷ parts) placed c zero l e = inl (subst CutAt (sym e) c)
  cut-there (one ∷ parts) placed c (suc k) l e = inr (cut-there parts placed c k (omega (arith, l)) e)

  abbrev in_source : List OpenText → List ℕ → List PlacedPart
  in_source around text = parts_in holds source around text

  -- before the cut all of the rest is left
  cut-step : (around : List OpenText) (text : List ℕ)
      → ((rest : List ℕ) → length rest < length text → (after : List OpenText) → HasCut (in_source after rest)
      → length t < length rest)
      → HasCut (in_source around text) → length t < length text
  cut-step around text more c = by (option_cases (next_in source.depth around text))
    where
      by : (next_in source.depth around text ≡ None)
          ⊎ ((x : SheetPart × List ℕ) × (next_in source.depth around text ≡ Some x))
          → length t < length text
      by (inl none) = absurd (subst HasCut (parts-none holds source around text none) c)
      by (inr found) =
          there (subst HasCut (parts-some holds source around after text found.0.1 found.0.0 found.1 refl) c)
        where
          after : List OpenText
          after = open_after holds around found.0.0 (place_at source found.0.1)

          there : HasCut (placed_part source (from_part source.depth around text) found.0.0 after found.0.1
              ∷ in_source after found.0.1)
              → length t < length text
          there (inl here) = omega (arith, ap length here.1, from-within source.depth around text)
          there (inr later) =
              let less = took source.depth around text found.0.1 found.0.0 found.1 in
              omega (arith, more found.0.1 less after later, less)

  pub cut-up : (n : ℕ) (around : List OpenText) (text : List ℕ) → length text ≤ n
      → HasCut (in_source around text) → length t < length text
  cut-up zero around text small c =
      cut-step around text (λ rest less after h. absurd (omega (arith, less, small))) c
  cut-up (suc n) around text small c =
      cut-step around text (λ rest less after h. cut-up n after rest (omega (arith, less, small)) h) c
