use Rattle.std.proofs.Common.{refl, arith}
use Rattle.simplecss_selector.proofs.Filling.{flat_more}
use Rattle.simplecss_selector.proofs.draft.Draft.set_name.Goals as goal

pub invariant_of-self : goal.invariant_of-self
invariant_of-self c =
    let s = c.self.inside in
    flat_more s.front.items _ _ s.subselectors.items s.subselectors.items _ _ _ c.self.invariant
    refl (omega arith) refl
