use Rattle.std.proofs.Common.{sym, subst, arith}
use Rattle.std.proofs.lemmas.List.{get_or_default}
use Rattle.simplecss.specs.Matching.{AreMatches}
use Rattle.cssq.proofs.Among.{index_within}
use Rattle.cssq.proofs.cascade.Cascade.stated.Goals as goal

pub stated_at-requires : goal.stated_at-requires
stated_at-requires g c = λ k d within.
    let tree = g.E.Element.tree in
    let element = g.E.Element.node c.args.element.now in
    let indices = c.deref.result.now in
    let are = subst (λ selectors. AreMatches tree element selectors indices) c.self.invariant
    (subst (AreMatches tree element c.self.inside.search)
    (sym c.deref.ensures.value) c.in_ok-matching.ensures.matches) in
    let at = index_within tree element c.self.inside.rules.now indices are k within in
    let same = get_or_default indices k d 0 within in
    omega (arith, at, same)
