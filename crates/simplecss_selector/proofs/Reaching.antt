-- A placement exists exactly if the components can be placed from the last one on.
-- Serves `Selector::{matches, matches_counted}`, `laws::same_meanings_law` and `laws::key_law`.
use Rattle.std.proofs.Common.{◌≡◌, ℕ, suc, ◌<◌, List, [], ◌∷◌, ◌++◌, length, take, refl, ◌∙◌, ap, subst}
use Rattle.std.proofs.Math.Seq.{take-suc}
use Rattle.simplecss_grammar.specs.Components.{Component}
use Rattle.simplecss_selector.specs.Trees.{Tree}
use Rattle.simplecss_selector.specs.Placements.{ContinuesPlacement, HasPlacement}
use Rattle.simplecss_selector.specs.internal.PlacementSearch.{Reaches}
use Rattle.simplecss_selector.specs.Shapes.{backwards, first_of, component_at, any_component}

pub reaches_on : {Node : Type 0} (tree : Tree Node) (a : Component) (cs bs : List Component)
    (ns : List Node) (before end : Node) → ContinuesPlacement tree before cs ns end
    → Reaches tree (a ∷ bs) before → Reaches tree (backwards cs (a ∷ bs)) end
reaches_on tree a [] bs [] before end g r = subst (Reaches tree (a ∷ bs)) g r
reaches_on tree a [] bs (n ∷ ns) before end g r = absurd g
reaches_on tree a (c ∷ cs) bs [] before end g r = absurd g
reaches_on tree a (c ∷ cs) bs (n ∷ ns) before end g r =
    reaches_on tree c cs (a ∷ bs) ns n end g.2 (g.1, (before, g.0, r))

pub continues : {Node : Type 0} (tree : Tree Node) (a : Component) (cs bs : List Component)
    (end : Node) → Reaches tree (backwards cs (a ∷ bs)) end
    → (before : Node) × (ns : List Node) × ContinuesPlacement tree before cs ns end
    × Reaches tree (a ∷ bs) before
continues tree a [] bs end r = (end, [], refl, r)
continues tree a (c ∷ cs) bs end r =
    let (n, ns, g, (m, (b, s, t))) = continues tree c cs (a ∷ bs) end r in
    (b, n ∷ ns, (s, m, g), t)

pub reaches_from : {Node : Type 0} (tree : Tree Node) (cs : List Component) (end : Node)
    → HasPlacement tree cs end → Reaches tree (backwards cs []) end
reaches_from tree [] end (ns, p) = absurd p
reaches_from tree (c ∷ cs) end ([], p) = absurd p
reaches_from tree (c ∷ cs) end (n ∷ ns, p) = reaches_on tree c cs [] ns n end p.1 (p.0, tt)

pub placement_from : {Node : Type 0} (tree : Tree Node) (cs : List Component) (end : Node)
    → Reaches tree (backwards cs []) end → HasPlacement tree cs end
placement_from tree [] end r = absurd r
placement_from tree (c ∷ cs) end r =
    let h = continues tree c cs [] end r in (h.0 ∷ h.1, (h.3.0, h.2))

backwards_push : (cs : List Component) (c : Component) (after : List Component)
    → backwards (cs ++ (c ∷ [])) after ≡ c ∷ backwards cs after
backwards_push [] c after = refl
backwards_push (x ∷ xs) c after = backwards_push xs c (x ∷ after)

pub first_of-suc : (cs : List Component) (k : ℕ) → k < length cs
    → first_of cs (suc k) ≡ component_at cs k ∷ first_of cs k
first_of-suc cs k h = ap (λ xs. backwards xs []) (take-suc cs k any_component h)
    ∙ backwards_push (take k cs) (component_at cs k) []
