use Rattle.std.proofs.Common.{◌<◌, IfSome, length, sym, subst}
use Rattle.simplecss_tree.specs.Walks.{IsOpenAt}
use Rattle.simplecss_tree.proofs.rule_walk.RuleWalk.matching.Goals as goal

pub close_to-requires-clause-opened : goal.close_to-requires-clause-opened
close_to-requires-clause-opened g c =
    subst (λ w. IsOpenAt c.args.tree.now w.path w.place) (sym c.self.view_is)
    c.requires.along.opened

pub find_way-requires-clause-from : goal.find_way-requires-clause-from
find_way-requires-clause-from g c =
    subst (λ w. IfSome w.place (λ i. i < length c.args.tree.now)) (sym c.self.view_is)
    c.requires.along.opened.within
