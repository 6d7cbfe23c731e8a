use Rattle.std.proofs.Common.{subst}
use Rattle.css_index.specs.Walks.{AreNeeds}
use Rattle.css_index.proofs.selector_walk.SelectorWalk.count.Goals as goal

pub returns : goal.returns
returns c = record {
  needs = subst (λ v. AreNeeds v.needed v.selectors v.needs) c.self.view_is c.self.invariant.are;
}
