-- What a sheet declares from its first import on, and where that begins.
-- Serves `imports_law`.
use Rattle.std.proofs.Common.{◌≡◌, ℕ, zero, suc, ◌-◌, ◌<◌, ◌≤◌, Bool, true, false, List, [], ◌∷◌, ◌++◌, drop, length, length-append, map, replicate, Option, Some, None, arith, refl, sym, ap, subst, ◌∙◌, ◌⊎◌, inl, inr, if◌then◌else◌, codes}
use Rattle.std.proofs.Math.Seq.{drop-append_seam}
use Rattle.std.proofs.lemmas.List.{length-replicate}
use Rattle.std.specs.Option.{is_some}
use Rattle.css_text.specs.AsciiBytes.{space}
use Rattle.css_text.specs.Reading.{Ends, before}
use Rattle.css_text.proofs.reading.EachLemmas.{each-some, each-stops, option_cases, took}
use Rattle.css_text.proofs.reading.EndsLemmas.{ends-ends, ends-same}
use Rattle.css_syntax.specs.Placed.{PlacedStatement, placed_statements}
use Rattle.css_syntax.specs.Statements.{BlockText, SheetText, StatementText, at_rule_statement, between_part, next_statement, past_between, rule_set, skipped_statement, statement, statement_from, ends_block, with_text}
use Rattle.css_syntax.specs.Tokens.{gap_part, spells}
use Rattle.css_syntax.proofs.ItemLemmas.{between-well, between_part-takes, next_statement-takes, statement-ends}
use Rattle.css_syntax.proofs.PlacedSteps.{placed-statements-none, placed-statements-some}
use Rattle.css_syntax.proofs.Shorter.{each-rests}
use Rattle.css_cascade.specs.LayerNames.{block_name, layer_names}
use Rattle.css_selector_text.specs.Names.{no_names}
use Rattle.css_sheet.specs.ImportRules.{ImportText, UrlText, url_here}
use Rattle.css_sheet.specs.Imports.{FrontRule, at_rule_in_front, block_rule, front_rule, import_if, import_rule, imports_of, is_block_rule, layer_list, list_if, namespace_if, namespace_rule, not_a_rule, other_if, other_rule, rule_in_front, sheet_imports, statement_rule}
use Rattle.css_sheet.specs.NamespaceRules.{NamespaceText, namespace_here}
use Rattle.css_sheet.specs.Namespaces.{begun_after, if_few, may_follow, names_after, names_from, rule_here, sheet_names, text_names}
use Rattle.css_sheet.specs.RuleSelectors.{context, is_listed, listed_under}
use Rattle.css_sheet.specs.SheetItems.{is_layer}
use Rattle.css_sheet.specs.SheetParts.{sheet_source}
use Rattle.css_sheet.specs.Sheets.{SheetText as SheetRead}

-- ---- blanks in front

between-again : (text : List ℕ) → past_between false (past_between false text) ≡ past_between false text
between-again text =
    each-rests (between_part false) (past_between false text)
    (each-stops (between_part false) (between_part-takes false) text)

abbrev placed_at : SheetText → (from after : List ℕ) → PlacedStatement
placed_at part from after = record { part = part; from = from; after = after }

-- where what is between statements ends alike, the statements are the same
statements-alike : (text other : List ℕ) → past_between false text ≡ past_between false other
    → placed_statements false text ≡ placed_statements false other
unfolding next_statement
statements-alike text other e = by (option_cases (next_statement false other))
  where
    same : next_statement false text ≡ next_statement false other
    same = ap (statement_from false) e

    by : (next_statement false other ≡ None)
        ⊎ ((x : SheetText × List ℕ) × (next_statement false other ≡ Some x))
        → placed_statements false text ≡ placed_statements false other
    by (inl none) =
        placed-statements-none false text (same ∙ none) ∙ sym (placed-statements-none false other none)
    by (inr found) =
        placed-statements-some false text found.0.1 found.0.0 (same ∙ found.1)
        ∙ ap (λ (from : List ℕ). placed_at found.0.0 from found.0.1 ∷ placed_statements false found.0.1) e
        ∙ sym (placed-statements-some false other found.0.1 found.0.0 found.1)

past-space : (text : List ℕ) → past_between false (space ∷ text) ≡ past_between false text
unfolding between_part gap_part
past-space text =
    ap (λ (r : List (Unit {0}) × List ℕ). r.1)
    (each-some (between_part false) (between_part-takes false) (space ∷ text) text tt refl)

pub blank-statements : (n : ℕ) (text : List ℕ)
    → placed_statements false (replicate n space ++ text) ≡ placed_statements false text
blank-statements zero text = refl
blank-statements (suc n) text =
    statements-alike (space ∷ (replicate n space ++ text)) (replicate n space ++ text)
    (past-space (replicate n space ++ text))
    ∙ blank-statements n text

-- ---- rules in front of imports

-- what a statement is does not depend on where it is, unless it is an import
abbrev SameRule : FrontRule → FrontRule → Type 0
SameRule (import_rule one) other = Unit {0}
SameRule (namespace_rule one) other = Unit {0}
SameRule layer_list other = other ≡ layer_list
SameRule other_rule other = Unit {0}
SameRule not_a_rule other = other ≡ not_a_rule

-- an import begins where its statement does
abbrev StartsAt : ℕ → FrontRule → Type 0
StartsAt start (import_rule one) = one.start ≡ start
StartsAt start (namespace_rule one) = Unit {0}
StartsAt start layer_list = Unit {0}
StartsAt start other_rule = Unit {0}
StartsAt start not_a_rule = Unit {0}

-- ---- the same of each kind of statement

abbrev IsRule : (start : ℕ) → FrontRule → FrontRule → Type 0
IsRule start rule other = SameRule rule other × StartsAt start rule

rule-itself : (start : ℕ) (rule : FrontRule) → StartsAt start rule → IsRule start rule rule
rule-itself start (import_rule one) h = (tt, h)
rule-itself start (namespace_rule one) h = (tt, h)
rule-itself start layer_list h = (refl, h)
rule-itself start other_rule h = (tt, h)
rule-itself start not_a_rule h = (refl, h)

other-is : (start : ℕ) (valid : Bool) → IsRule start (other_if valid) (other_if valid)
other-is start true = (tt, tt)
other-is start false = (refl, tt)

import-is : (start size a b : ℕ) (o : Option (UrlText × List ℕ))
    → IsRule start (import_if start size o) (import_if a b o)
import-is start size a b None = (refl, tt)
import-is start size a b (Some found) = (tt, refl)

statement-is : (start size a b : ℕ) (name prelude : List ℕ)
    → IsRule start (statement_rule start size name prelude) (statement_rule a b name prelude)
unfolding statement_rule
statement-is start size a b name prelude =
    by (spells (codes "import") name) (is_layer name) (spells (codes "namespace") name)
    (is_some (layer_names prelude)) (namespace_if (namespace_here prelude)) (namespace-start (namespace_here prelude))
  where
    namespace-start : (o : Option NamespaceText) → StartsAt start (namespace_if o)
    namespace-start None = tt
    namespace-start (Some one) = tt

    by : (i l n v : Bool) (rule : FrontRule) → StartsAt start rule
        → IsRule start
        (if i then import_if start size (url_here prelude)
        else (if l then list_if v else (if n then rule else not_a_rule)))
        (if i then import_if a b (url_here prelude)
        else (if l then list_if v else (if n then rule else not_a_rule)))
    by true l n v rule h = import-is start size a b (url_here prelude)
    by false true n true rule h = (refl, tt)
    by false true n false rule h = (refl, tt)
    by false false true v rule h = rule-itself start rule h
    by false false false v rule h = (refl, tt)

block-is : (start : ℕ) (name prelude : List ℕ) → IsRule start (block_rule name prelude) (block_rule name prelude)
unfolding block_rule
block-is start name prelude =
    other-is start (if is_layer name then is_some (block_name prelude (0 ∷ 0 ∷ [])) else is_block_rule name)

front-is : (start size a b : ℕ) (s : StatementText)
    → IsRule start (rule_in_front no_names start size s) (rule_in_front no_names a b s)
front-is start size a b (rule_set prelude block) =
    other-is start (is_listed (listed_under (context None no_names) prelude))
front-is start size a b (at_rule_statement rule) = by rule.block
  where
    by : (o : Option BlockText)
        → IsRule start (at_rule_in_front start size rule o) (at_rule_in_front a b rule o)
    by None = statement-is start size a b rule.name rule.prelude.text
    by (Some block) = block-is start rule.name rule.prelude.text
front-is start size a b (skipped_statement fault) = (refl, tt)

-- ---- statement after statement

between-ends : (text : List ℕ) → Ends text (past_between false text)
between-ends text = (between-well false text).0

abbrev left_in : Option (SheetText × List ℕ) → List ℕ
left_in None = []
left_in (Some x) = x.1

next-ends : (text rest : List ℕ) (p : SheetText) → next_statement false text ≡ Some (p, rest) → Ends text rest
unfolding next_statement
next-ends text rest p e = by (ends_block false start) e
  where
    start : List ℕ
    start = past_between false text

    by : (k : Bool) → (if k then None else Some (with_text start (statement false start))) ≡ Some (p, rest)
        → Ends text rest
    by true f = absurd (cc)
    by false f =
        let is : (statement false start).1 ≡ rest = ap left_in f in
        ends-ends text start rest (between-ends text)
        (subst (λ (z : List ℕ). Ends start z) is (statement-ends false start))

ends-drop_of : (text rest : List ℕ) → Ends text rest → rest ≡ drop (length text - length rest) text
ends-drop_of text rest e =
    let front = before text rest in
    let n : length front ≡ length text - length rest =
    omega (arith, ap length e, length-append front rest) in
    sym (drop-append_seam front rest) ∙ ap (λ (z : List ℕ). drop (length front) z) e
    ∙ ap (λ (k : ℕ). drop k text) n

module _ (known : List (List ℕ)) (front rest : List ℕ) (one : ImportText) where
  abbrev rules_of : List ℕ → List FrontRule
  rules_of text = map (front_rule (length (front ++ rest))) (placed_statements false text)

  abbrev names_of : List ℕ → Type 0
  names_of text =
      names_from known false no_names (placed_statements false text)
      ≡ names_from known false no_names (placed_statements false rest)

  abbrev Goes : List ℕ → Type 0
  Goes text =
      Ends (front ++ rest) text → (more : List ImportText) → imports_of (rules_of text) ≡ one ∷ more → names_of text

  -- the import begins at the rest
  here : (text : List ℕ) → Ends (front ++ rest) text → one.start ≡ length front
      → one.start ≡ length (front ++ rest) - length (past_between false text)
      → placed_statements false text ≡ placed_statements false rest
  here text e start is =
      let from = past_between false text in
      let ends = ends-ends (front ++ rest) text from e (between-ends text) in
      let cut : length (front ++ rest) - length from ≡ length front = sym is ∙ start in
      let from_is : from ≡ rest =
      ends-drop_of (front ++ rest) from ends ∙ ap (λ (k : ℕ). drop k (front ++ rest)) cut
      ∙ drop-append_seam front rest in
      statements-alike text rest (sym (between-again text) ∙ ap (past_between false) from_is)

  step : one.start ≡ length front → (text : List ℕ)
      → ((next : List ℕ) → length next < length text → Goes next) → Goes text
  step start text again e more h = by (option_cases (next_statement false text))
    where
      by : (next_statement false text ≡ None) ⊎ ((x : SheetText × List ℕ) × (next_statement false text ≡ Some x))
          → names_of text
      by (inl none) =
          absurd (let empty = ap (λ (ps : List PlacedStatement). imports_of (map (front_rule (length (front ++ rest))) ps))
          (sym (placed-statements-none false text none)) ∙ h in cc)
      by (inr found) =
          rule (front_rule (length (front ++ rest)) placed) refl
          (front-is (length (front ++ rest) - length from) (length part.text) 0 0 part.statement)
          (ap (λ (ps : List PlacedStatement). imports_of (map (front_rule (length (front ++ rest))) ps)) (sym all) ∙ h)
        where
          part : SheetText
          part = found.0.0

          next : List ℕ
          next = found.0.1

          from : List ℕ
          from = past_between false text

          placed : PlacedStatement
          placed = placed_at part from next

          all : placed_statements false text ≡ placed ∷ placed_statements false next
          all = placed-statements-some false text next part found.1

          less : length next < length text
          less = took (next_statement false) (next_statement-takes false) text next part found.1

          goes_on : imports_of (rules_of next) ≡ one ∷ more → names_of next
          goes_on k =
              again next less (ends-ends (front ++ rest) text next e (next-ends text next part found.1)) more k

          -- a rule that may be in front of imports
          skips : (rule_here no_names placed ≡ layer_list) ⊎ (rule_here no_names placed ≡ not_a_rule)
              → names_of next → names_of text
          skips (inl is) n =
              ap (names_from known false no_names) all
              ∙ ap (λ (r : FrontRule). if may_follow false r
              then names_from known (begun_after false r) (names_after known no_names r) (placed_statements false next)
              else no_names) is ∙ n
          skips (inr is) n =
              ap (names_from known false no_names) all
              ∙ ap (λ (r : FrontRule). if may_follow false r
              then names_from known (begun_after false r) (names_after known no_names r) (placed_statements false next)
              else no_names) is ∙ n

          rule : (r : FrontRule) → front_rule (length (front ++ rest)) placed ≡ r
              → IsRule (length (front ++ rest) - length from) (front_rule (length (front ++ rest)) placed)
              (rule_here no_names placed)
              → imports_of (front_rule (length (front ++ rest)) placed ∷ rules_of next) ≡ one ∷ more
              → names_of text
          rule r is kinds k =
              kind r (subst (λ (x : FrontRule). IsRule (length (front ++ rest) - length from) x
              (rule_here no_names placed)) is kinds)
              (subst (λ (x : FrontRule). imports_of (x ∷ rules_of next) ≡ one ∷ more) is k)
            where
              kind : (r : FrontRule)
                  → IsRule (length (front ++ rest) - length from) r (rule_here no_names placed)
                  → imports_of (r ∷ rules_of next) ≡ one ∷ more → names_of text
              kind (import_rule found_one) s m =
                  let same : found_one ≡ one = cc in
                  ap (names_from known false no_names)
                  (here text e start (ap (λ (i : ImportText). i.start) (sym same) ∙ s.1))
              kind (namespace_rule two) s m = absurd (cc)
              kind layer_list s m = skips (inl s.0) (goes_on m)
              kind other_rule s m = absurd (cc)
              kind not_a_rule s m = skips (inr s.0) (goes_on m)

  up : one.start ≡ length front → (n : ℕ) (text : List ℕ) → length text ≤ n → Goes text
  up start zero text small = step start text (λ next less. absurd (omega (arith, less, small)))
  up start (suc n) text small = step start text (λ next less. up start n next (omega (arith, less, small)))

  -- a sheet declares what its rest does, from its first import on
  pub first-names : one.start ≡ length front → (more : List ImportText)
      → imports_of (rules_of (front ++ rest)) ≡ one ∷ more → names_of (front ++ rest)
  first-names start more h =
      up start (length (front ++ rest)) (front ++ rest) (omega arith) (ends-same (front ++ rest)) more h

-- the rest of a sheet from its first import on, as a sheet of its own
pub piece-source : (number : ℕ) (sheet : SheetRead) (front rest : List ℕ) (one : ImportText) (more : List ImportText)
    → sheet.text ≡ front ++ rest → sheet_imports sheet.text ≡ one ∷ more → one.start ≡ length front
    → sheet_source number (record sheet { text = replicate (length front) space ++ rest })
    ≡ sheet_source number sheet
piece-source number sheet front rest one more is imports start =
    let names : sheet_names (record sheet { text = replicate (length front) space ++ rest }) ≡ sheet_names sheet =
    ap (names_from (if_few sheet.namespaces) false no_names) (blank-statements (length front) rest)
    ∙ sym (first-names (if_few sheet.namespaces) front rest one start more (ap sheet_imports (sym is) ∙ imports))
    ∙ ap (text_names sheet.namespaces) (sym is) in
    let size : length (replicate (length front) space ++ rest) ≡ length sheet.text =
    omega (
      arith,
      length-append (replicate (length front) space) rest,
      length-replicate (length front) space,
      ap length is,
      length-append front rest,
    ) in
    cc (size, names)
