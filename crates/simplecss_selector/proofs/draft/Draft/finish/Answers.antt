use Rattle.simplecss_selector.proofs.Filling.{drafted-finished}
use Rattle.simplecss_selector.proofs.draft.Draft.finish.Goals as goal

pub invariant_of-result : goal.invariant_of-result
invariant_of-result c = rw c.len.ensures c.self.invariant

pub returns : goal.returns
returns c =
    let s = c.self.inside in
    rw (c.len.ensures, ← c.self.view_is) (drafted-finished s.front.items s.subselectors.items _)
