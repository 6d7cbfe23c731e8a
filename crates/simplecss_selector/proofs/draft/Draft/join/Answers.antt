use Rattle.std.proofs.Common.{◌≡◌, length, refl, vec_len, arith}
use Rattle.simplecss_selector.specs.internal.SelectorViews.{IsFlat}
use Rattle.simplecss_selector.proofs.Filling.{flat_joined, drafted-joined, without_last}
use Rattle.simplecss_selector.proofs.draft.Draft.join.Goals as goal
use Rattle.simplecss_selector.proofs.draft.Draft.join.Goals.{After-pop}

pub invariant_of-self : goal.invariant_of-self
invariant_of-self c = rw c.in_err-push_few.ensures.err c.self.invariant

unpushed : (c : After-pop) → c.pop.new.self.items ≡ c.self.inside.front.items
unpushed c = without_last c.self.inside.front.items c.push_few.new.list.items c.pop.new.self.items _
    (vec_len c.push_few.new.list) c.in_ok-push_few.ensures.ok c.push_few.new.list.ok.0
    c.pop.ensures.rest

pub invariant_of-self-in-Err : goal.invariant_of-self-in-Err
invariant_of-self-in-Err c = rw (unpushed c, c.in-Err.ensures.err) c.self.invariant

pub returns-in-Err-clause-err : goal.returns-in-Err-clause-err
returns-in-Err-clause-err c = rw (unpushed c) c.self.view_is

pub invariant_of-self-2 : goal.invariant_of-self-2
invariant_of-self-2 c =
    let s = c.self.inside in
    let flat : IsFlat c.push_few.new.list.items s.subselectors.items (vec_len s.subselectors)
    s.stretch_ends.items = rw (c.in_ok-push_few.ensures.ok, c.len.ensures) c.self.invariant in
    let done : c.len-2.result ≡ length c.push_few.new.list.items =
    omega (arith, c.len-2.ensures, c.push_few.new.list.ok.0) in
    rw (c.in_default.ensures.ok)
    (flat_joined c.push_few.new.list.items _ s.subselectors.items
    (vec_len s.subselectors) c.len-2.result s.stretch_ends.items flat c.requires refl done)

pub returns-clause-ok : goal.returns-clause-ok
returns-clause-ok c =
    let s = c.self.inside in
    rw (c.in_ok-push_few.ensures.ok, c.len.ensures, ← c.self.view_is)
    (drafted-joined s.front.items s.subselectors.items _ _ refl refl)
