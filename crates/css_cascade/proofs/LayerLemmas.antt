-- A layer that is mentioned is there.
-- Serves `Layers::mention_part`.
use Rattle.std.proofs.Common.{◌≡◌, ℕ, Bool, true, false, ◌&&◌, ◌==◌, if◌then◌else◌, List, [], ◌∷◌, ◌++◌, length, take, drop, map, None, Some, refl, sym, ap, ◌∙◌}
use Rattle.std.proofs.Common.{eq-eqb}
use Rattle.std.proofs.lemmas.Cmp.{nat_list_eq_equiv}
use Rattle.std.specs.List.{insert}
use Rattle.std.proofs.lemmas.List.{map-append, take-map, drop-map, take-append-drop, length-map}
use Rattle.css_cascade.specs.declared.layers.KnownLayer.{KnownLayer}
use Rattle.css_cascade.specs.LayerViews.{known_layer}
use Rattle.css_cascade.specs.Layers.{LayerPart, LayerText, is_same_part, number_in, number_of, inserted, place_of, with_layer, unless_known, or_outermost, named, anonymous, outermost}

itself : (n : ℕ) → (n == n) ≡ true
itself n = eq-eqb n n refl

same_itself : (part : LayerPart) → is_same_part part part ≡ true
same_itself (named name) = nat_list_eq_equiv.refl name
same_itself (anonymous place) = nat_list_eq_equiv.refl place
same_itself outermost = refl

module _ (n outer : ℕ) (part : LayerPart) where
  abbrev new : LayerText
  new = record { number = n; outer = outer; part = part }

  at_first : (ys : List LayerText) → number_in outer part (new ∷ ys) ≡ Some n
  at_first ys =
      let same : (outer == outer && is_same_part part part) ≡ true = rw (same_itself part, itself outer) refl in
      rw same refl

  there : (xs ys : List LayerText) → number_in outer part (xs ++ ys) ≡ None
      → number_in outer part (xs ++ new ∷ ys) ≡ Some n
  there [] ys h = at_first ys
  there (x ∷ xs) ys h = by (there xs ys) (x.outer == outer && is_same_part x.part part) h
    where
      by : (number_in outer part (xs ++ ys) ≡ None
          → number_in outer part (xs ++ new ∷ ys) ≡ Some n) → (t : Bool)
          → (if t then Some x.number else number_in outer part (xs ++ ys)) ≡ None
          → (if t then Some x.number else number_in outer part (xs ++ new ∷ ys)) ≡ Some n
      by more true e = absurd (cc)
      by more false e = more e

  pub number-inserted : (known : List LayerText) → number_in outer part known ≡ None
      → number_in outer part (inserted new known) ≡ Some n
  number-inserted known h =
      let i = place_of outer known in
      there (take i known) (drop i known)
      (ap (number_in outer part) (take-append-drop i known) ∙ h)

pub map-insert : (xs : List KnownLayer) (i : ℕ) (x : KnownLayer)
    → map known_layer (insert xs i x)
    ≡ take i (map known_layer xs) ++ known_layer x ∷ drop i (map known_layer xs)
map-insert xs i x =
    map-append known_layer (take i xs) (x ∷ drop i xs)
    ∙ ap (λ (ls : List LayerText). ls ++ known_layer x ∷ map known_layer (drop i xs)) (sym (take-map known_layer i xs))
    ∙ ap (λ (ls : List LayerText). take i (map known_layer xs) ++ known_layer x ∷ ls) (sym (drop-map known_layer i xs))

-- a new layer is mentioned
module _ (items : List KnownLayer) (new : KnownLayer) (at : ℕ)
    (none : number_in new.outer (known_layer new).part (map known_layer items) ≡ None)
    (number : new.number ≡ length items) (place : at ≡ place_of new.outer (map known_layer items)) where
  placed : map known_layer (insert items at new) ≡ inserted (known_layer new) (map known_layer items)
  placed =
      map-insert items at new
      ∙ ap (λ (i : ℕ). take i (map known_layer items)
      ++ known_layer new ∷ drop i (map known_layer items)) place

  pub mentioned : map known_layer (insert items at new)
      ≡ with_layer (map known_layer items) new.outer (known_layer new).part
  mentioned =
      let counted : new.number ≡ length (map known_layer items) = number ∙ sym (length-map items known_layer) in
      placed
      ∙ ap (λ (n : ℕ). inserted (record { number = n; outer = new.outer; part = (known_layer new).part })
      (map known_layer items)) counted
      ∙ sym (ap (unless_known (map known_layer items) new.outer (known_layer new).part) none)

  pub numbered : new.number
      ≡ number_of new.outer (known_layer new).part (map known_layer (insert items at new))
  numbered =
      sym (ap (λ (ls : List LayerText). number_of new.outer (known_layer new).part ls) placed
      ∙ ap or_outermost (number-inserted new.number new.outer (known_layer new).part
      (map known_layer items) none))
