use Rattle.std.proofs.Common.{sym, ◌∙◌}
use Rattle.css_elements.proofs.Walking.{still_above, closer, same_place}
use Rattle.simplecss_tree.proofs.rule_walk.Opened.close_to.Goals as goal

pub closes-preserved : goal.closes-preserved
closes-preserved c = record {
  opened = c.close.ensures.opened;
  selectors = c.close.ensures.selectors ∙ c.closes.invariant.selectors;
  above = still_above c.args.tree.now c.closes.self.place c.close.new.self.place c.args.above
      (sym c.is_at.ensures ∙ c.closes-test.true) c.closes.invariant.above c.close.ensures.place;
}

pub closes-smaller : goal.closes-smaller
closes-smaller c =
    closer c.args.tree.now c.closes.self.place c.close.new.self.place c.args.above
    (sym c.is_at.ensures ∙ c.closes-test.true) c.closes.invariant.above c.close.ensures.above

pub returns-clause-place : goal.returns-clause-place
returns-clause-place c =
    same_place c.closes.self.place c.args.above (sym c.is_at.ensures ∙ c.closes-test.false)
