use Rattle.std.proofs.Common.{◌<◌, IfSome, [], length, reverse, refl, sym, ◌∙◌, subst, arith}
use Rattle.css_elements.specs.Ways.{LeadsTo}
use Rattle.css_elements.proofs.Walking.{leads_push, nearer, higher, inside, same_place, above_more, still_inside}
use Rattle.css_elements.proofs.ways.find_way.Goals as goal

pub climb-init : goal.climb-init
climb-init c = record {
  inside = c.requires.from;
  from = ([], refl);
  within = c.requires.to;
  leads = subst (λ xs. LeadsTo c.args.tree.now c.args.to (reverse xs) c.args.to)
      (sym c.requires.none) refl;
}

pub parent-above-requires : goal.parent-above-requires
parent-above-requires c =
    subst (λ a. IfSome a (λ i. i < length c.args.tree.now)) c.in-Some.ensures
    c.climb.invariant.within

pub climb-preserved-in-Some : goal.climb-preserved-in-Some
climb-preserved-in-Some c =
    let rows = c.args.tree.now in
    let lt : c.in-Some.index < length rows =
    subst (λ a. IfSome a (λ i. i < length rows)) c.in-Some.ensures c.climb.invariant.within in
    record {
      inside = c.climb.invariant.inside;
      from = c.climb.invariant.from;
      within = inside rows c.in-Some.index c.parent-above.result lt c.parent-above.ensures.before;
      leads = leads_push rows c.climb.between.items c.push.new.self.items c.in-Some.index c.climb.above
          c.parent-above.result c.args.to lt c.in-Some.ensures c.parent-above.ensures.value
          c.in_ok-push-in-Some.ensures.items c.climb.invariant.leads;
    }

pub climb-smaller-in-Some : goal.climb-smaller-in-Some
climb-smaller-in-Some c =
    let h = higher c.climb.above c.parent-above.result c.in-Some.index c.in-Some.ensures
    c.parent-above.ensures.before in
    omega (arith, h)

pub climb-preserved : goal.climb-preserved
climb-preserved c =
    let rows = c.args.tree.now in
    let place = c.climb.place in
    let next = c.parent_of-place.result in
    let up = c.parent_of-place.ensures.value in
    record {
      inside = still_inside rows place next c.climb.invariant.inside up c.parent_of-place.ensures.before;
      from = above_more rows place next c.args.from c.climb.invariant.inside up c.climb.invariant.from;
      within = c.climb.invariant.within;
      leads = c.climb.invariant.leads;
    }

pub climb-smaller : goal.climb-smaller
climb-smaller c =
    let h = nearer c.climb.place c.parent_of-place.result c.climb.above
    (sym c.are_same.ensures ∙ c.climb-test.true) c.in-None.ensures c.parent_of-place.ensures.before in
    omega (arith, h)

pub returns-clause-between : goal.returns-clause-between
returns-clause-between c =
    subst (λ p. LeadsTo c.args.tree.now p (reverse c.climb.between.items) c.args.to)
    (sym (same_place c.climb.place c.climb.above (sym c.are_same.ensures ∙ c.climb-test.false)))
    c.climb.invariant.leads
