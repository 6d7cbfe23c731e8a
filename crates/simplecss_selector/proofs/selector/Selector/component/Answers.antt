use Rattle.std.proofs.Common.{◌≡◌, ◌<◌, ◌≤◌, ◌-◌, List, ◌++◌, ◌∷◌, [], get_or, length, vec_len, ap, sym, ◌∙◌, arith}
use Rattle.std.proofs.lemmas.List.{get_or_read, get_or_append_left}
use Rattle.simplecss_selector.specs.declared.selector.FlatComponent.{FlatComponent}
use Rattle.simplecss_selector.proofs.Flat.{index_within, begin_of, begin_is, bounds_are, component_is}
use Rattle.simplecss_selector.proofs.selector.Selector.component.Goals as goal
use Rattle.simplecss_selector.proofs.selector.Selector.component.Goals.{After-deref-2, then-index-eq0, else-index-eq0}

pub flat_at-flat-requires : goal.flat_at-flat-requires
flat_at-flat-requires c =
    let s = c.self.inside in
    rw c.deref.ensures.value (index_within s.front.items s.last s.subselectors.items c.args.self.now
    c.args.index c.self.view_is c.requires)

pub index-requires : goal.index-requires
index-requires c =
    let s = c.self.inside in
    omega (
      arith,
      s.front.ok.0,
      index_within s.front.items s.last s.subselectors.items c.args.self.now c.args.index
          c.self.view_is c.requires,
    )

-- all flat components, the last included
abbrev all_flat : After-deref-2 → List FlatComponent
all_flat c =
    let s = c.self.inside in
    s.front.items ++ s.last ∷ []

flat_is : (c : After-deref-2)
    → c.flat_at-flat.result ≡ get_or (all_flat c) c.args.index c.flat_at-flat.result
flat_is c = rw c.deref.ensures.value at c.flat_at-flat.ensures

began : (c : After-deref-2)
    → c.if-index-eq0.start ≡ begin_of 0 (all_flat c) c.args.index c.flat_at-flat.result
began c =
    let s = c.self.inside in
    begin_is (all_flat c) c.args.index c.if-index-eq0.start c.flat_at-flat.result
    (λ z. elim c.if-index-eq0.branch
    [ then-index-eq0 w ↦ omega arith | else-index-eq0 w ↦ absurd (omega arith) ])
    (λ z. elim c.if-index-eq0.branch [
      | then-index-eq0 w ↦ absurd (omega arith)
      | else-index-eq0 w ↦
          (let before : c.args.index - 1 < length s.front.items = omega (
            arith,
            index_within s.front.items s.last s.subselectors.items c.args.self.now c.args.index
                c.self.view_is c.requires,
          ) in
          w.start-is
          ∙ ap (λ (q : FlatComponent). q.end) (get_or_read s.front.items
          (c.args.index - 1) w.index.result.now before w.index.ensures c.flat_at-flat.result)
          ∙ ap (λ (q : FlatComponent). q.end) (sym
          (get_or_append_left s.front.items _ c.flat_at-flat.result (c.args.index - 1) before)))
    ])

bounds : (c : After-deref-2)
    → (c.if-index-eq0.start ≤ c.flat_at-flat.result.end)
    × (c.flat_at-flat.result.end ≤ vec_len c.self.inside.subselectors)
bounds c =
    let s = c.self.inside in
    bounds_are s.front.items s.last s.subselectors.items (vec_len s.subselectors) c.args.self.now
    c.args.index _ _ c.self.view_is c.self.invariant.tiled c.requires (flat_is c) (began c)

pub between-requires : goal.between-requires
between-requires c = let b = bounds c in record { rising = b.0; within = omega (arith, b.1) }

pub returns : goal.returns
returns c =
    let s = c.self.inside in
    let d = (goal.at.returns c).After-deref-2 in
    rw (c.between.ensures, c.deref-2.ensures.value)
    (component_is (all_flat d) s.subselectors.items c.args.self.now c.args.index
    c.if-index-eq0.start c.flat_at-flat.result c.self.view_is c.requires (flat_is d) (began d))
