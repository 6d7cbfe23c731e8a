use Rattle.simplecss_tree.proofs.Walking.{none_open}
use Rattle.simplecss_tree.proofs.rule_walk.RuleWalk.new.Goals as goal

pub returns-clause-along : goal.returns-clause-along
returns-clause-along g c = λ rows. record {
  selectors = c.in_ok-path.ensures.index;
  opened = none_open rows c.in_ok-path.path c.in_ok-path.ensures.listed c.in_ok-path.ensures.starts
      c.in_ok-path.ensures.marks;
}
