-- The attributes of elements that have many, by their names.
use Rattle.std.specs.Prelude.{◌≡◌, ℕ, List, Option, IfSome}
use Rattle.std.specs.Borrow.{Bor}
use Rattle.std.specs.BTreeMap.{BTreeMap, get, get_by}
use Rattle.std.specs.Cmp.Lexicographic.{slice_cmp}
use Rattle.std.specs.Option.{option_map}
use Rattle.std.specs.Ordering.{nat_cmp}
use Rattle.css_elements.specs.Rows.{Row}
use Rattle.css_elements.specs.TreeNodes.{value_in, attributes_at}

-- the values of attributes by their names
abbrev pub Values : Type 0
Values = BTreeMap (Bor (List ℕ)) (Bor (List ℕ))

-- the value of a name
abbrev pub value_for : Values → List ℕ → Option (List ℕ)
value_for values name =
    option_map (λ value. value.now) (get_by (λ key. slice_cmp nat_cmp name key.now) values)

-- each name has the value of the first of the attributes with the name
abbrev pub AreNamed : Values → List (List ℕ × List ℕ) → Type 0
AreNamed values attributes = (name : List ℕ) → value_for values name ≡ value_in attributes name

-- what is kept of an element are its attributes
abbrev pub AreFound : List Row → BTreeMap ℕ Values → Type 0
AreFound rows found =
    (i : ℕ) → IfSome (get nat_cmp found i) (λ values. AreNamed values (attributes_at rows i))
