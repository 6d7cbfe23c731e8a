-- The components that the lists of a selector represent.
-- Serves `draft::Draft`, `==` of selectors, and `Selector::{combinator, component, last_index,
-- len}` (lists seen as components).
use Rattle.std.proofs.Common.{◌≡◌, ℕ, zero, suc, ◌+◌, ◌-◌, sub-one, ◌<◌, ◌≤◌, List, [], ◌∷◌, ◌++◌, length, get_or, refl, ap, sym, ◌∙◌, subst, arith}
use Rattle.std.specs.List.{slice_range}
use Rattle.std.proofs.lemmas.List.{length-append}
use Rattle.simplecss_grammar.specs.Components.{Component}
use Rattle.simplecss_selector.specs.internal.CombinatorViews.{combinator_of}
use Rattle.simplecss_selector.specs.Shapes.{component_at}
use Rattle.simplecss_selector.specs.internal.SelectorViews.{component_of_flat, components_from, Tile}
use Rattle.simplecss_selector.specs.declared.selector.FlatComponent.{FlatComponent}
use Rattle.simplecss_selector.specs.declared.selector.SubSelector.{SubSelector}

-- where the subselectors of a component begin
abbrev pub begin_of : ℕ → List FlatComponent → ℕ → FlatComponent → ℕ
begin_of start ps zero d = start
begin_of start ps (suc k) d = (get_or ps k d).end

pub components_from-length : (start : ℕ) (ps : List FlatComponent) (ss : List SubSelector)
    → length (components_from start ps ss) ≡ length ps
components_from-length start [] ss = refl
components_from-length start (p ∷ ps) ss = ap suc (components_from-length p.end ps ss)

pub components_from-at : (start : ℕ) (ps : List FlatComponent) (ss : List SubSelector) (k : ℕ)
    (d : FlatComponent) → k < length ps
    → component_at (components_from start ps ss) k
    ≡ component_of_flat (get_or ps k d) (slice_range ss (begin_of start ps k d) (get_or ps k d).end)
components_from-at start [] ss k d h = absurd (omega arith)
components_from-at start (p ∷ ps) ss zero d h = refl
components_from-at start (p ∷ ps) ss (suc zero) d h =
    components_from-at p.end ps ss zero d (omega arith)
components_from-at start (p ∷ ps) ss (suc (suc k)) d h =
    components_from-at p.end ps ss (suc k) d (omega arith)

pub combinator-at : (start : ℕ) (ps : List FlatComponent) (ss : List SubSelector) (k : ℕ)
    (d : FlatComponent) → k < length ps
    → (component_at (components_from start ps ss) k).combinator
    ≡ combinator_of (get_or ps k d).combinator
combinator-at start ps ss k d h =
    ap (λ (c : Component). c.combinator) (components_from-at start ps ss k d h)

pub Tile-le : (start : ℕ) (ps : List FlatComponent) (n : ℕ) → Tile start ps n → start ≤ n
Tile-le start [] n t = omega arith
Tile-le start (p ∷ ps) n t = let h = Tile-le p.end ps n t.1 in let e = t.0 in omega arith

pub Tile-at : (start : ℕ) (ps : List FlatComponent) (n k : ℕ) (d : FlatComponent) → Tile start ps n
    → k < length ps → (begin_of start ps k d ≤ (get_or ps k d).end) × ((get_or ps k d).end ≤ n)
Tile-at start [] n k d t h = absurd (omega arith)
Tile-at start (p ∷ ps) n zero d t h = (t.0, Tile-le p.end ps n t.1)
Tile-at start (p ∷ ps) n (suc zero) d t h = Tile-at p.end ps n zero d t.1 (omega arith)
Tile-at start (p ∷ ps) n (suc (suc k)) d t h = Tile-at p.end ps n (suc k) d t.1 (omega arith)

pub begin_is : (ps : List FlatComponent) (k start : ℕ) (d : FlatComponent) → (k ≡ 0 → start ≡ 0)
    → (0 < k → start ≡ (get_or ps (k - 1) d).end) → start ≡ begin_of 0 ps k d
begin_is ps zero start d first later = first refl
begin_is ps (suc k) start d first later = rw sub-one at (later (omega arith))

pub length_is : (ps : List FlatComponent) (last : FlatComponent) (ss : List SubSelector)
    (cs : List Component) → components_from 0 (ps ++ last ∷ []) ss ≡ cs → length ps + 1 ≡ length cs
length_is ps last ss cs view =
    omega (
      arith,
      components_from-length 0 (ps ++ last ∷ []) ss,
      length-append ps (last ∷ []),
      ap length view,
    )

pub index_within : (ps : List FlatComponent) (last : FlatComponent) (ss : List SubSelector)
    (cs : List Component) (k : ℕ) → components_from 0 (ps ++ last ∷ []) ss ≡ cs → k < length cs
    → k ≤ length ps
index_within ps last ss cs k view h =
    let same = length_is ps last ss cs view in
    omega (arith, same)

pub combinator_is : (ps : List FlatComponent) (ss : List SubSelector) (cs : List Component) (k : ℕ)
    (p : FlatComponent) → components_from 0 ps ss ≡ cs → k < length cs → p ≡ get_or ps k p
    → combinator_of p.combinator ≡ (component_at cs k).combinator
combinator_is ps ss cs k p view h e =
    let within : k < length ps = omega (arith, components_from-length 0 ps ss, ap length view) in
    ap (λ (q : FlatComponent). combinator_of q.combinator) e
    ∙ (sym (combinator-at 0 ps ss k p within)
    ∙ ap (λ (xs : List Component). (component_at xs k).combinator) view)

pub component_is : (ps : List FlatComponent) (ss : List SubSelector) (cs : List Component)
    (k start : ℕ) (p : FlatComponent) → components_from 0 ps ss ≡ cs → k < length cs
    → p ≡ get_or ps k p → start ≡ begin_of 0 ps k p
    → component_of_flat p (slice_range ss start p.end) ≡ component_at cs k
component_is ps ss cs k start p view h e b =
    let within : k < length ps = omega (arith, components_from-length 0 ps ss, ap length view) in
    let at = components_from-at 0 ps ss k p within in
    let here = ap (λ (xs : List Component). component_at xs k) view in
    rw b (subst (λ (q : FlatComponent). component_of_flat q
    (slice_range ss (begin_of 0 ps k p) q.end) ≡ component_at cs k) (sym e) (sym at ∙ here))

pub bounds_are : (ps : List FlatComponent) (last : FlatComponent) (ss : List SubSelector) (n : ℕ)
    (cs : List Component) (k start : ℕ) (p : FlatComponent)
    → components_from 0 (ps ++ last ∷ []) ss ≡ cs → Tile 0 (ps ++ last ∷ []) n → k < length cs
    → p ≡ get_or (ps ++ last ∷ []) k p → start ≡ begin_of 0 (ps ++ last ∷ []) k p
    → (start ≤ p.end) × (p.end ≤ n)
bounds_are ps last ss n cs k start p view t h e b =
    let at = Tile-at 0 (ps ++ last ∷ []) n k p t
    (omega (arith, components_from-length 0 (ps ++ last ∷ []) ss, ap length view)) in
    let ends : p.end ≡ (get_or (ps ++ last ∷ []) k p).end = ap (λ (q : FlatComponent). q.end) e in
    (omega (arith, at.0), omega (arith, at.1))
