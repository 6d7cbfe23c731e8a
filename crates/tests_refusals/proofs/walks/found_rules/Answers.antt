use Rattle.tests_refusals.proofs.walks.found_rules.Goals as goal

pub loop-element-init : goal.loop-element-init
loop-element-init c = record {
  along = c.in_ok-walk.ensures.along c.args.tree.now;
  selectors = c.in_ok-walk.ensures.selectors;
}
