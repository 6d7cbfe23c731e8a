use Rattle.std.proofs.Common.{ap}
use Rattle.simplecss_tree.proofs.Walking.{closed_one}
use Rattle.simplecss_tree.proofs.rule_walk.Opened.close.Goals as goal

pub returns-in-Some-clause-opened : goal.returns-in-Some-clause-opened
returns-in-Some-clause-opened c =
    closed_one c.args.tree.now c.args.self.now.path c.leave.new.self c.args.self.now.place
    c.parent-self.result c.in-Some.last c.requires c.in-Some.is c.leave.ensures
    c.parent-self.ensures.value c.parent-self.ensures.before

pub returns-in-Some-clause-selectors : goal.returns-in-Some-clause-selectors
returns-in-Some-clause-selectors c = ap (λ p. p.selectors) c.leave.ensures
