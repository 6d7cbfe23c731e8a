-- The attributes of a tag, one after another.
use Rattle.std.proofs.Common.{◌≡◌, ◌∙◌, ap, refl, List, ℕ, Bool, ◌∷◌, [], true, false, if◌then◌else◌, Some, None}
use Rattle.css_text.proofs.reading.EachLemmas.{each-none, each-some}
use Rattle.css_text.specs.Reading.{before}
use Rattle.css_html.specs.Attributes.{PlacedAttribute, next_attribute, attributes}
use Rattle.css_html.proofs.Placed.{next_attribute-takes}
use Rattle.css_xml.specs.Tags.{is_whole, is_tail, are_parted}

-- what is said of attributes from a place on at which there is one
pub parted-step : (last rest end : List ℕ) (a : PlacedAttribute) (k : Bool)
    → next_attribute last ≡ Some (a, rest) → a.rest ≡ rest → is_whole last a ≡ k
    → are_parted last (attributes last) end ≡ (if k then are_parted rest (attributes rest) end else false)
parted-step last rest end a k e f g =
    ap (λ (xs : List PlacedAttribute). are_parted last xs end)
    (ap (λ (r : List PlacedAttribute × List ℕ). r.0)
    (each-some next_attribute next_attribute-takes last rest a e))
    ∙ rw (g, f) refl

-- the same where there is none
pub parted-end : (last end : List ℕ) → next_attribute last ≡ None
    → are_parted last (attributes last) end ≡ is_tail (before last end)
parted-end last end e =
    ap (λ (xs : List PlacedAttribute). are_parted last xs end)
    (ap (λ (r : List PlacedAttribute × List ℕ). r.0) (each-none next_attribute last e))
