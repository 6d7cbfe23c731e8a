use Rattle.std.proofs.Common.{◌++◌, ◌∷◌, []}
use Rattle.simplecss_selector.specs.Shapes.{IsSelector}
use Rattle.simplecss_selector.proofs.Flat.{index_within, combinator_is}
use Rattle.simplecss_selector.proofs.selector.Selector.combinator.Goals as goal

pub flat_at-flat-requires : goal.flat_at-flat-requires
flat_at-flat-requires c =
    let s = c.self.inside in
    rw c.deref.ensures.value (index_within s.front.items s.last s.subselectors.items c.args.self.now
    c.args.index c.self.view_is c.requires)

pub returns-clause-value : goal.returns-clause-value
returns-clause-value c =
    let s = c.self.inside in
    combinator_is (s.front.items ++ s.last ∷ []) s.subselectors.items c.args.self.now c.args.index
    c.flat_at-flat.result c.self.view_is c.requires
    (rw c.deref.ensures.value at c.flat_at-flat.ensures)

pub returns-clause-first : goal.returns-clause-first
returns-clause-first c =
    let selector : IsSelector c.args.self.now = rw c.self.view_is at c.self.invariant.selector in
    rw (returns-clause-value c) (selector.1 c.args.index c.requires)
