-- What lists of indices hold.
-- Serves `selector_index`.
use Rattle.std.proofs.Common.{◌≡◌, ℕ, ◌<◌, ◌≤◌, List, length, map, get_or, None, Some, refl, ap, ◌∙◌, subst}
use Rattle.std.specs.List.{slice_get}
use Rattle.std.specs.Option.{option_map}
use Rattle.std.proofs.lemmas.Option.{slice_get-map, slice_get_read, slice_get_past}
use Rattle.css_selector_text.specs.Components.{Selector}

pub some_same : {A : Type 0} {x y : A} → Some x ≡ Some y → x ≡ y
some_same e = cc

-- the selector of a rule
pub selector_there : {V : Type 0} (f : V → Selector) (vs : List V) (ss : List Selector) (i : ℕ)
    (v : V) → map f vs ≡ ss → i < length vs → v ≡ get_or vs i v → slice_get ss i ≡ Some (f v)
selector_there f vs ss i v are lt read =
    subst (λ xs. slice_get xs i ≡ Some (f v)) are
    (slice_get-map f vs i ∙ ap (option_map f) (slice_get_read vs (length vs) i v refl lt read))

pub selector_past : {V : Type 0} (f : V → Selector) (vs : List V) (ss : List Selector) (i : ℕ)
    → map f vs ≡ ss → length vs ≤ i → slice_get ss i ≡ None
selector_past f vs ss i are le =
    subst (λ xs. slice_get xs i ≡ None) are
    (slice_get-map f vs i ∙ ap (option_map f) (slice_get_past vs i le))
