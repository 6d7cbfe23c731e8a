-- The names that the statements of a sheet declare, one after another.
-- Serves `SheetNamespaces::read` and `sheet_order::gather`.
use Rattle.std.proofs.Common.{◌≡◌, ◌≤◌, ◌-◌, ℕ, Bool, true, false, if◌then◌else◌, List, [], ◌∷◌, Some, None, length, map, take, drop, sym, ap, ◌∙◌, arith}
use Rattle.std.proofs.lemmas.List.{take_all}
use Rattle.css_syntax.specs.Statements.{SheetText, next_statement}
use Rattle.css_syntax.specs.Placed.{placed_statements}
use Rattle.css_syntax.proofs.PlacedSteps.{placed-statements-some, placed-statements-none}
use Rattle.css_selector_text.specs.Names.{Names}
use Rattle.css_sheet.specs.Imports.{FrontRule, rule_in_front}
use Rattle.css_sheet.specs.Namespaces.{begun_after, may_follow, names_after, names_from}

module _ (known : List (List ℕ)) (begun : Bool) (names all : Names) (text : List ℕ)
    (due : names_from known begun names (placed_statements false text) ≡ all) where
  -- the next statement is this rule
  module _ (rest : List ℕ) (part : SheetText) (rule : FrontRule)
      (next : next_statement false text ≡ Some (part, rest))
      (rule_is : rule ≡ rule_in_front names 0 0 part.statement) where
    further : FrontRule → Names
    further one =
        names_from known (begun_after begun one) (names_after known names one)
        (placed_statements false rest)

    parted : (if may_follow begun rule then further rule else names) ≡ all
    unfolding further
    parted =
        ap (λ one. if may_follow begun one then further one else names) rule_is
        ∙ sym (ap (names_from known begun names) (placed-statements-some false text rest part next))
        ∙ due

    pub names-on : may_follow begun rule ≡ true
        → names_from known (begun_after begun rule) (names_after known names rule)
        (placed_statements false rest) ≡ all
    unfolding further
    names-on e = sym (ap (λ (b : Bool). if b then further rule else names) e) ∙ parted

    pub names-last : may_follow begun rule ≡ false → names ≡ all
    names-last e = sym (ap (λ (b : Bool). if b then further rule else names) e) ∙ parted

  pub names-all : next_statement false text ≡ None → names ≡ all
  names-all e =
      sym (ap (names_from known begun names) (placed-statements-none false text e)) ∙ due

-- what is said alike of two lists is said alike of what follows the first of each
pub alike-next : {A B C : Type 0} (f : A → C) (g : B → C) (xs : List A) (ys : List B)
    → 1 ≤ length xs → 1 ≤ length ys → map f xs ≡ map g ys
    → map f (take (length xs - 1) (drop 1 xs)) ≡ map g (take (length ys - 1) (drop 1 ys))
alike-next f g [] ys l m e = absurd (omega (arith, l))
alike-next f g (x ∷ xs) [] l m e = absurd (omega (arith, m))
alike-next f g (x ∷ xs) (y ∷ ys) l m e =
    let more : map f xs ≡ map g ys = cc in
    ap (map f) (take_all (length (x ∷ xs) - 1) xs (omega arith)) ∙ more
    ∙ sym (ap (map g) (take_all (length (y ∷ ys) - 1) ys (omega arith)))
