use Rattle.std.proofs.Common.{rules, ◌<◌, IfSome, refl, ap, ◌∙◌}
use Rattle.cssq_tree.specs.ParentsAndSiblings.{depths_of}
use Rattle.cssq.proofs.Walking.{closed_one, depth_within, nearer, on_way, on_way_closed}
use Rattle.cssq.proofs.walk.Walk.close_for.Goals as goal

pub close-init : goal.close-init
close-init c = record {
  walk = c.requires.walk;
  path = refl;
  way = on_way (depths_of c.args.page.now) c.args.element c.parent-parent.result
      c.args.self.now.place (depth_within c.args.page.now c.args.element c.requires.element)
      c.parent-parent.ensures.value c.requires.before;
}

pub close-preserved : goal.close-preserved
close-preserved c =
    let after : IfSome c.parent-parent.result (λ index. index < c.in-Some.open) = search rules in
    record {
      walk = record {
        within = c.parent-self.ensures.within;
        opened = closed_one c.args.page.now c.close.self.path c.leave.new.self c.close.self.place
            c.parent-self.result c.in-Some.open c.close.invariant.walk.opened c.in-Some.is c.leave.ensures
            c.parent-self.ensures.value;
      };
      path = ap (λ p. p.selectors) c.leave.ensures ∙ c.close.invariant.path;
      way = on_way_closed (depths_of c.args.page.now) c.args.element c.in-Some.open
          c.parent-parent.result c.close.self.place c.parent-self.result
          (depth_within c.args.page.now c.args.element c.requires.element)
          c.parent-parent.ensures.value c.in-Some.is c.parent-self.ensures.value after
          c.close.invariant.way;
    }

pub close-smaller : goal.close-smaller
close-smaller c =
    nearer c.close.self.place c.parent-self.result c.in-Some.open c.in-Some.is c.parent-self.ensures.before
