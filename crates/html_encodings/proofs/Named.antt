-- What attributes and pieces name, one after another.
-- Serves the loops over attributes and over pieces.
use Rattle.std.proofs.Common.{◌≡◌, ◌∙◌, ℕ, List, ◌∷◌, Option, Some, None, ap}
use Rattle.std.specs.Option.{option_or}
use Rattle.css_text.specs.Reading.{each}
use Rattle.css_text.proofs.reading.EachLemmas.{each-none, each-some}
use Rattle.css_html.specs.Attributes.{PlacedAttribute, attributes, next_attribute}
use Rattle.css_html.proofs.Placed.{next_attribute-takes}
use Rattle.html_encodings.specs.declared.encoding.Encoding.{Encoding}
use Rattle.html_encodings.specs.Finding.{value_named, value_in}
use Rattle.html_encodings.specs.Prescan.{next_piece, first_named}
use Rattle.html_encodings.proofs.Takes.{next_piece-takes}

-- ---- attributes

value-next : (name text rest : List ℕ) (a : PlacedAttribute) → next_attribute text ≡ Some (a, rest)
    → value_in name (attributes text) ≡ value_in name (a ∷ attributes rest)
value-next name text rest a e =
    ap (λ (r : List PlacedAttribute × List ℕ). value_in name r.0)
    (each-some next_attribute next_attribute-takes text rest a e)

-- the first attribute has the name
pub value-found : (name text rest value : List ℕ) (a : PlacedAttribute)
    → next_attribute text ≡ Some (a, rest) → value_named name a ≡ Some value
    → value_in name (attributes text) ≡ Some value
unfolding value_in
value-found name text rest value a e w =
    value-next name text rest a e
    ∙ ap (λ (o : Option (List ℕ)). option_or o (value_in name (attributes rest))) w

-- the first attribute has another name
pub value-passed : (name text rest : List ℕ) (a : PlacedAttribute)
    → next_attribute text ≡ Some (a, rest) → value_named name a ≡ None
    → value_in name (attributes text) ≡ value_in name (attributes rest)
unfolding value_in
value-passed name text rest a e w =
    value-next name text rest a e
    ∙ ap (λ (o : Option (List ℕ)). option_or o (value_in name (attributes rest))) w

-- there is no attribute
pub value-none : (name text : List ℕ) → next_attribute text ≡ None
    → value_in name (attributes text) ≡ None
unfolding value_in
value-none name text e =
    ap (λ (r : List PlacedAttribute × List ℕ). value_in name r.0) (each-none next_attribute text e)

-- ---- pieces

named-next : (text rest : List ℕ) (o : Option Encoding) → next_piece text ≡ Some (o, rest)
    → first_named (each next_piece text).0 ≡ first_named (o ∷ (each next_piece rest).0)
named-next text rest o e =
    ap (λ (r : List (Option Encoding) × List ℕ). first_named r.0)
    (each-some next_piece next_piece-takes text rest o e)

-- the first piece names an encoding
pub named-found : (text rest : List ℕ) (encoding : Encoding)
    → next_piece text ≡ Some (Some encoding, rest)
    → first_named (each next_piece text).0 ≡ Some encoding
unfolding first_named
named-found text rest encoding e = named-next text rest (Some encoding) e

-- the first piece names none
pub named-passed : (text rest : List ℕ) → next_piece text ≡ Some (None, rest)
    → first_named (each next_piece text).0 ≡ first_named (each next_piece rest).0
unfolding first_named
named-passed text rest e = named-next text rest None e

-- there is no piece
pub named-none : (text : List ℕ) → next_piece text ≡ None
    → first_named (each next_piece text).0 ≡ None
unfolding first_named
named-none text e =
    ap (λ (r : List (Option Encoding) × List ℕ). first_named r.0) (each-none next_piece text e)
