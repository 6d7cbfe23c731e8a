-- The layers and rules of parts that stand one after another.
-- Serves `cutting_law`.
use Rattle.std.proofs.Common.{◌≡◌, ℕ, Bool, true, List, [], ◌∷◌, ◌++◌, append_assoc, eqb-true, map, refl, sym, ap, subst, ◌∙◌}
use Rattle.css_text.specs.AsciiBytes.{at_sign}
use Rattle.css_text.specs.Bytes.{starts}
use Rattle.css_cascade.specs.Layers.{LayerText}
use Rattle.css_sheet.specs.OpenParents.{ParentsText, after_part, after_parts}
use Rattle.css_sheet.specs.SheetLayers.{with_part, with_parts}
use Rattle.css_sheet.specs.SheetOrder.{SheetRuleText, placed_rules, rules_of_parts}
use Rattle.css_sheet.specs.SheetParts.{OpenText, PlacedPart, Source, parts_in}
use Rattle.sheet_laws.specs.Cutting.{IsCut, before_rest, front_of}
use Rattle.sheet_laws.proofs.CutParts.{cut-there}
use Rattle.sheet_laws.proofs.CutWhole.{whole-split}

-- ---- what a part says does not depend on what follows it

parents-before : (rest : List ℕ) (parents : ParentsText) (parts : List PlacedPart)
    → after_parts parents (map (before_rest rest) parts) ≡ after_parts parents parts
parents-before rest parents [] = refl
parents-before rest parents (placed ∷ more) = parents-before rest (after_part parents placed) more

layers-before : (rest : List ℕ) (outermost : ℕ → ℕ) (known : List LayerText) (parents : ParentsText)
    (parts : List PlacedPart)
    → with_parts outermost known parents (map (before_rest rest) parts) ≡ with_parts outermost known parents parts
layers-before rest outermost known parents [] = refl
layers-before rest outermost known parents (placed ∷ more) =
    layers-before rest outermost (with_part outermost known (after_part parents placed).innermost placed)
    (after_part parents placed) more

rules-before : (rest : List ℕ) (outermost : ℕ → ℕ) (known : List LayerText) (parents : ParentsText)
    (parts : List PlacedPart)
    → rules_of_parts outermost known parents (map (before_rest rest) parts)
    ≡ rules_of_parts outermost known parents parts
rules-before rest outermost known parents [] = refl
rules-before rest outermost known parents (placed ∷ more) =
    ap (λ (rules : List SheetRuleText). placed_rules outermost known (after_part parents placed).innermost placed ++ rules)
    (rules-before rest outermost known (after_part parents placed) more)

-- ---- one after another

layers-append : (outermost : ℕ → ℕ) (known : List LayerText) (parents : ParentsText) (xs ys : List PlacedPart)
    → with_parts outermost known parents (xs ++ ys)
    ≡ with_parts outermost (with_parts outermost known parents xs) (after_parts parents xs) ys
layers-append outermost known parents [] ys = refl
layers-append outermost known parents (placed ∷ xs) ys =
    layers-append outermost (with_part outermost known (after_part parents placed).innermost placed)
    (after_part parents placed) xs ys

rules-append : (outermost : ℕ → ℕ) (known : List LayerText) (parents : ParentsText) (xs ys : List PlacedPart)
    → rules_of_parts outermost known parents (xs ++ ys)
    ≡ rules_of_parts outermost known parents xs ++ rules_of_parts outermost known (after_parts parents xs) ys
rules-append outermost known parents [] ys = refl
rules-append outermost known parents (placed ∷ xs) ys =
    let here = placed_rules outermost known (after_part parents placed).innermost placed in
    ap (λ (rules : List SheetRuleText). here ++ rules)
    (rules-append outermost known (after_part parents placed) xs ys)
    ∙ sym (append_assoc here (rules_of_parts outermost known (after_part parents placed) xs)
    (rules_of_parts outermost known (after_parts (after_part parents placed) xs) ys))

-- ---- a text that is cut

module _ (holds : List ℕ → List ℕ → Bool) (source : Source) (around : List OpenText) (front rest : List ℕ) where
  abbrev in_front : List PlacedPart
  in_front = parts_in holds (front_of source rest) around front

  pub cut-parts : IsCut holds source around front rest
      → parts_in holds source around (front ++ rest)
      ≡ map (before_rest rest) in_front ++ parts_in holds source around rest
  cut-parts cut = by rest cut cut.sign
    where
      at : (t : List ℕ) → IsCut holds source around front (at_sign ∷ t)
          → parts_in holds source around (front ++ at_sign ∷ t)
          ≡ map (before_rest (at_sign ∷ t)) (parts_in holds (front_of source (at_sign ∷ t)) around front)
          ++ parts_in holds source around (at_sign ∷ t)
      at t c =
          whole-split t holds source around c.in_groups front around
          (cut-there t holds source around (parts_in holds source around (front ++ at_sign ∷ t)) c.at_rule
          ((c.item, c.is_item), c.begins_there, c.in_no_rule) c.there.0 c.there.1 c.there.2)

      by : (r : List ℕ) → IsCut holds source around front r → starts at_sign r ≡ true
          → parts_in holds source around (front ++ r)
          ≡ map (before_rest r) (parts_in holds (front_of source r) around front) ++ parts_in holds source around r
      by [] c e = absurd (cc)
      by (b ∷ t) c e =
          subst (λ (x : ℕ). IsCut holds source around front (x ∷ t)
          → parts_in holds source around (front ++ x ∷ t)
          ≡ map (before_rest (x ∷ t)) (parts_in holds (front_of source (x ∷ t)) around front)
          ++ parts_in holds source around (x ∷ t)) (sym (eqb-true b at_sign e)) (at t) c

  pub cut-layers : (outermost : ℕ → ℕ) (known : List LayerText) (parents : ParentsText)
      → IsCut holds source around front rest
      → with_parts outermost known parents (parts_in holds source around (front ++ rest))
      ≡ with_parts outermost (with_parts outermost known parents in_front) (after_parts parents in_front)
      (parts_in holds source around rest)
  cut-layers outermost known parents cut =
      let moved = map (before_rest rest) in_front in
      let tail = parts_in holds source around rest in
      ap (with_parts outermost known parents) (cut-parts cut)
      ∙ layers-append outermost known parents moved tail
      ∙ ap (λ (layers : List LayerText). with_parts outermost layers (after_parts parents moved) tail)
      (layers-before rest outermost known parents in_front)
      ∙ ap (λ (p : ParentsText). with_parts outermost (with_parts outermost known parents in_front) p tail)
      (parents-before rest parents in_front)

  pub cut-rules : (outermost : ℕ → ℕ) (known : List LayerText) (parents : ParentsText)
      → IsCut holds source around front rest
      → rules_of_parts outermost known parents (parts_in holds source around (front ++ rest))
      ≡ rules_of_parts outermost known parents in_front
      ++ rules_of_parts outermost known (after_parts parents in_front) (parts_in holds source around rest)
  cut-rules outermost known parents cut =
      let moved = map (before_rest rest) in_front in
      let tail = parts_in holds source around rest in
      ap (rules_of_parts outermost known parents) (cut-parts cut)
      ∙ rules-append outermost known parents moved tail
      ∙ ap (λ (rules : List SheetRuleText). rules ++ rules_of_parts outermost known (after_parts parents moved) tail)
      (rules-before rest outermost known parents in_front)
      ∙ ap (λ (p : ParentsText). rules_of_parts outermost known parents in_front
      ++ rules_of_parts outermost known p tail) (parents-before rest parents in_front)
