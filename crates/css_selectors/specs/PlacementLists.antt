-- A placement as a list of nodes.
use Rattle.std.specs.Prelude.{◌≡◌, List, [], ◌∷◌}
use Rattle.css_matching.specs.Placements.{Relates}
use Rattle.css_selectors.specs.Documents.{Document, shape}
use Rattle.css_selector_text.specs.Components.{Part, conditions_from}
use Rattle.css_selectors.specs.Meanings.{AreMet}

-- The nodes continue a placement from the node `before`, one for each part: each meets its part, and
-- the node before it is an ancestor of it (` `), its parent (`>`), the sibling directly before it (`+`)
-- or an earlier sibling (`~`), as the part's combinator says. The last is `end`.
abbrev pub ContinuesPlacement : {Node : Type 0} → Document Node → Node → List Part → List Node → Node
    → Type 0
ContinuesPlacement document before [] [] end = before ≡ end
ContinuesPlacement document before [] (n ∷ ns) end = ⊥
ContinuesPlacement document before (p ∷ ps) [] end = ⊥
ContinuesPlacement document before (p ∷ ps) (n ∷ ns) end =
    Relates (shape document) p.combinator before n × AreMet document (conditions_from p.conditions) n
    × ContinuesPlacement document n ps ns end

-- one node for each part, each meeting it and related to the node before it, the last being `end`
abbrev pub IsPlacementList : {Node : Type 0} → Document Node → List Part → List Node → Node → Type 0
IsPlacementList document [] nodes end = ⊥
IsPlacementList document (p ∷ ps) [] end = ⊥
IsPlacementList document (p ∷ ps) (n ∷ ns) end =
    AreMet document (conditions_from p.conditions) n × ContinuesPlacement document n ps ns end

-- there is such a list
abbrev pub HasPlacementList : {Node : Type 0} → Document Node → List Part → Node → Type 0
HasPlacementList {Node} document parts end =
    (nodes : List Node) × IsPlacementList document parts nodes end
