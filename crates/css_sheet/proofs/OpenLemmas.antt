-- The layers of rules that are entered and left.
-- Serves `OpenLayers::{innermost, enter}` and `sheet_order::gather`.
use Rattle.std.proofs.Common.{◌≡◌, ℕ, zero, suc, ◌-◌, List, [], ◌∷◌, ◌++◌, length, take, slice_get, Some, arith, refl, sym, ap, ◌∙◌, subst}
use Rattle.css_cascade.specs.Layers.{LayerText, number_at}
use Rattle.css_cascade.proofs.NameLemmas.{Keeps, keeps-at, at-append}
use Rattle.css_sheet.specs.SheetParts.{OpenText}
use Rattle.css_sheet.specs.SheetLayers.{open_name, layer_parts}
use Rattle.css_sheet.specs.internal.OpenViews.{Tracks, innermost_of}

innermost-at : (outer : ℕ) (numbers : List ℕ) (k last : ℕ) → suc k ≡ length numbers
    → slice_get numbers k ≡ Some last → innermost_of outer numbers ≡ last
innermost-at outer [] k last h e = absurd (omega (arith, h))
innermost-at outer (n ∷ []) zero last h e = cc
innermost-at outer (n ∷ m ∷ numbers) zero last h e = absurd (omega (arith, h))
innermost-at outer (n ∷ numbers) (suc k) last h e =
    innermost-at n numbers k last (omega (arith, h)) e

pub innermost-last : (outer : ℕ) (numbers : List ℕ) (last : ℕ)
    → slice_get numbers (length numbers - 1) ≡ Some last → innermost_of outer numbers ≡ last
innermost-last outer [] last e = absurd (cc)
innermost-last outer (n ∷ numbers) last e =
    innermost-at outer (n ∷ numbers) (length (n ∷ numbers) - 1) last (omega arith) e

-- as many as rules
pub tracks-many : (known : List LayerText) (outer : ℕ) (numbers : List ℕ) (around : List OpenText)
    → Tracks known outer numbers around → length numbers ≡ length around
unfolding Tracks
tracks-many known outer [] [] t = refl
tracks-many known outer [] (r ∷ around) t = absurd t
tracks-many known outer (n ∷ numbers) [] t = absurd t
tracks-many known outer (n ∷ numbers) (r ∷ around) t = ap suc (tracks-many known n numbers around t.1)

-- the last one is the number of the layer that is innermost in these
pub tracks-number : (known : List LayerText) (outer : ℕ) (numbers : List ℕ) (around : List OpenText)
    → Tracks known outer numbers around
    → number_at outer (layer_parts around) known ≡ Some (innermost_of outer numbers)
unfolding Tracks
tracks-number known outer [] [] t = refl
tracks-number known outer [] (r ∷ around) t = absurd t
tracks-number known outer (n ∷ numbers) [] t = absurd t
tracks-number known outer (n ∷ numbers) (r ∷ around) t =
    at-append outer (open_name r) (layer_parts around) known n t.0
    ∙ tracks-number known n numbers around t.1

pub tracks-keeps : (before after : List LayerText) → Keeps before after → (outer : ℕ)
    (numbers : List ℕ) (around : List OpenText) → Tracks before outer numbers around
    → Tracks after outer numbers around
unfolding Tracks
tracks-keeps before after keeps outer [] [] t = tt
tracks-keeps before after keeps outer [] (r ∷ around) t = absurd t
tracks-keeps before after keeps outer (n ∷ numbers) [] t = absurd t
tracks-keeps before after keeps outer (n ∷ numbers) (r ∷ around) t =
    (keeps-at before after keeps outer (open_name r) n t.0, tracks-keeps before after keeps n numbers around t.1)

-- one more rule was entered
pub tracks-more : (known : List LayerText) (outer : ℕ) (numbers : List ℕ) (around : List OpenText)
    (r : OpenText) (number : ℕ) → Tracks known outer numbers around
    → number_at (innermost_of outer numbers) (open_name r) known ≡ Some number
    → Tracks known outer (numbers ++ number ∷ []) (around ++ r ∷ [])
unfolding Tracks
tracks-more known outer [] [] r number t h = (h, tt)
tracks-more known outer [] (k ∷ around) r number t h = absurd t
tracks-more known outer (n ∷ numbers) [] r number t h = absurd t
tracks-more known outer (n ∷ numbers) (k ∷ around) r number t h =
    (t.0, tracks-more known n numbers around r number t.1 h)

-- of the first of them
pub tracks-take : (known : List LayerText) (outer : ℕ) (numbers : List ℕ) (around : List OpenText)
    (k : ℕ) → Tracks known outer numbers around
    → Tracks known outer (take k numbers) (take k around)
unfolding Tracks
tracks-take known outer [] [] zero t = tt
tracks-take known outer [] [] (suc k) t = tt
tracks-take known outer [] (r ∷ around) k t = absurd t
tracks-take known outer (n ∷ numbers) [] k t = absurd t
tracks-take known outer (n ∷ numbers) (r ∷ around) zero t = tt
tracks-take known outer (n ∷ numbers) (r ∷ around) (suc k) t =
    (t.0, tracks-take known n numbers around k t.1)

pub none-open : (known : List LayerText) (outer : ℕ) (numbers : List ℕ) (around : List OpenText)
    → numbers ≡ [] → around ≡ [] → Tracks known outer numbers around
unfolding Tracks
none-open known outer numbers around e f =
    subst (λ (ns : List ℕ). Tracks known outer ns around) (sym e)
    (subst (λ (rs : List OpenText). Tracks known outer [] rs) (sym f) tt)

seam : {X : Type 0} (xs : List X) (x : X) → slice_get (xs ++ x ∷ []) (length xs) ≡ Some x
seam [] x = refl
seam (y ∷ xs) x = seam xs x

pub one-more : {X : Type 0} (xs : List X) (x : X) → length (xs ++ x ∷ []) ≡ suc (length xs)
one-more [] x = refl
one-more (y ∷ xs) x = ap suc (one-more xs x)

-- the last of them
pub last-append : {X : Type 0} (xs : List X) (x : X)
    → slice_get (xs ++ x ∷ []) (length (xs ++ x ∷ []) - 1) ≡ Some x
last-append {X = X} xs x =
    let h : length (xs ++ x ∷ []) ≡ suc (length xs) = one-more xs x in
    let at : length (xs ++ x ∷ []) - 1 ≡ length xs = omega (arith, h) in
    ap (slice_get (xs ++ x ∷ [])) at ∙ seam xs x
