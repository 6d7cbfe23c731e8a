use Rattle.css_tree.proofs.Walking.{closed_one}
use Rattle.css_tree.proofs.tree_walk.Opened.close.Goals as goal

pub returns-in-Some-clause-opened : goal.returns-in-Some-clause-opened
returns-in-Some-clause-opened c =
    closed_one c.args.page.now c.args.self.now.walk c.leave.new.self c.args.self.now.place
    c.parent-self.result c.in-Some.last c.requires c.in-Some.is c.leave.ensures.needed
    c.leave.ensures.opened c.parent-self.ensures.value c.parent-self.ensures.before
