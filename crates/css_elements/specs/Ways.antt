-- Ways between the elements of a tree.
use Rattle.std.specs.Prelude.{◌≡◌, ℕ, ◌<◌, List, [], ◌∷◌, length, Option, Some}
use Rattle.css_matching.specs.ListTrees.{parent_by}
use Rattle.css_elements.specs.Rows.{Row}
use Rattle.css_elements.specs.TreeNodes.{named_parent}

-- the elements lead from one place to another: each is a child of the one before it
abbrev pub LeadsTo : List Row → Option ℕ → List ℕ → Option ℕ → Type 0
LeadsTo rows place [] element = place ≡ element
LeadsTo rows place (next ∷ more) element =
    (next < length rows) × (parent_by (named_parent rows) next ≡ place)
    × LeadsTo rows (Some next) more element

-- a place is that of an element or above it
abbrev pub IsAbove : List Row → Option ℕ → Option ℕ → Type 0
IsAbove rows place element = (between : List ℕ) × LeadsTo rows place between element
