use Rattle.std.proofs.Common.{◌≡◌, Bool, true, false, ◌&&◌, ◌++◌, ◌∷◌, [], length, sym, ◌∙◌}
use Rattle.std.proofs.lemmas.Bool.{false≢true}
use Rattle.std.specs.Cmp.Lexicographic.{pointwise}
use Rattle.simplecss_selector.specs.internal.SelectorViews.{Tile, components_from}
use Rattle.simplecss_selector.specs.Equality.{selector_eq}
use Rattle.simplecss_selector.specs.contracts.selector.SubSelectorPartialEq.TheImpl.{eq-value as subselector_test}
use Rattle.simplecss_selector.specs.contracts.selector.FlatComponentPartialEq.TheImpl.{eq-value as flat_test}
use Rattle.simplecss_selector.proofs.FlatEquality.{flat_last_eq}
use Rattle.simplecss_selector.proofs.equality.SelectorPartialEq.eq.Goals as goal
use Rattle.simplecss_selector.proofs.equality.SelectorPartialEq.eq.Goals.{Joined-eq, then-eq, else-eq}

and_then : (a b r v : Bool) → r ≡ a → r ≡ true → v ≡ b → v ≡ (a && b)
and_then true b r v e t h = h
and_then false b r v e t h = absurd (false≢true (sym e ∙ t))

and_not : (a b r v : Bool) → r ≡ a → r ≡ false → v ≡ false → v ≡ (a && b)
and_not true b r v e f h = absurd (false≢true (sym f ∙ e))
and_not false b r v e f h = h

-- whether all components but the subselectors are equal
heads : (c : Joined-eq)
    → c.if-eq.value
    ≡ (pointwise flat_test.it c.self.inside.front.items c.other.inside.front.items
    && flat_test.it c.self.inside.last c.other.inside.last)
heads c =
    let front = rw (c.as_slice.ensures.value, c.as_slice-2.ensures.value) at c.eq.ensures in
    elim c.if-eq.branch [
      | then-eq w ↦ and_then _ _ _ _ front w.if-eq.true (w.value-is ∙ w.eq-then-eq.ensures)
      | else-eq w ↦ and_not _ _ _ _ front w.if-eq.false (w.value-is ∙ w.if-eq.false)
    ]

-- the flat parts are equal where the components are
all : (c : Joined-eq)
    → let a = c.self.inside in
    let b = c.other.inside in
    ((pointwise flat_test.it a.front.items b.front.items && flat_test.it a.last b.last)
    && pointwise subselector_test.it a.subselectors.items b.subselectors.items)
    ≡ selector_eq (components_from 0 (a.front.items ++ a.last ∷ []) a.subselectors.items)
    (components_from 0 (b.front.items ++ b.last ∷ []) b.subselectors.items)
all c =
    let a = c.self.inside in
    let b = c.other.inside in
    let t : Tile 0 (a.front.items ++ a.last ∷ []) (length a.subselectors.items) =
    rw (← a.subselectors.ok.0) c.self.invariant.tiled in
    let u : Tile 0 (b.front.items ++ b.last ∷ []) (length b.subselectors.items) =
    rw (← b.subselectors.ok.0) c.other.invariant.tiled in
    flat_last_eq a.front.items b.front.items a.last b.last a.subselectors.items
    b.subselectors.items t u

pub returns-then-eq-2 : goal.returns-then-eq-2
returns-then-eq-2 c =
    let at = (goal.at.returns-then-eq-2 c).Joined-eq in
    rw (← c.self.view_is, ← c.other.view_is)
    (and_then _ _ _ _ (heads at) c.if-eq-2.true (rw (
      c.as_slice-then-eq-2.ensures.value,
      c.as_slice-then-eq-2-2.ensures.value,
    ) at c.eq-then-eq-2.ensures) ∙ all at)

pub returns-else-eq-2 : goal.returns-else-eq-2
returns-else-eq-2 c =
    let at = (goal.at.returns-else-eq-2 c).Joined-eq in
    rw (← c.self.view_is, ← c.other.view_is)
    (and_not _ _ _ _ (heads at) c.if-eq-2.false c.if-eq-2.false ∙ all at)
