use Rattle.std.proofs.Common.{◌≡◌, ◌+◌, ◌++◌, ◌∷◌, [], length, vec_len, refl, ap, arith}
use Rattle.std.proofs.lemmas.Result.{on_err_weaker}
use Rattle.simplecss_selector.proofs.Filling.{both_on_ok, pushed_len, flat_more, drafted-narrowed}
use Rattle.simplecss_selector.proofs.draft.Draft.push_subselector.Goals as goal

pub invariant_of-self : goal.invariant_of-self
invariant_of-self c =
    let s = c.self.inside in
    let list = c.push_few.new.list in
    flat_more s.front.items _ _ s.subselectors.items list.items (vec_len s.subselectors)
    (vec_len list) s.stretch_ends.items c.self.invariant refl
    (pushed_len c.push_few.result s.subselectors.items list.items c.args.subselector
    (vec_len s.subselectors)
    (vec_len list) s.subselectors.ok.0 list.ok.0 c.push_few.ensures.ok c.push_few.ensures.err) refl

pub returns-clause-ok : goal.returns-clause-ok
returns-clause-ok c =
    let s = c.self.inside in
    both_on_ok c.push_few.result
    (λ (items : c.push_few.new.list.items ≡ s.subselectors.items ++ c.args.subselector ∷ []) (len :
    vec_len c.push_few.new.list ≡ vec_len s.subselectors + 1).
    rw (items, ← c.self.view_is) (drafted-narrowed s.front.items s.subselectors.items
    c.args.subselector _ _ _ _ c.self.invariant s.subselectors.ok.0 refl refl len))
    c.push_few.ensures.ok c.push_few.ensures.len

pub returns-clause-err : goal.returns-clause-err
returns-clause-err c =
    let s = c.self.inside in
    on_err_weaker c.push_few.result
    (λ (items : c.push_few.new.list.items ≡ s.subselectors.items).
    let len : vec_len c.push_few.new.list ≡ vec_len s.subselectors =
    omega (arith, ap length items, c.push_few.new.list.ok.0, s.subselectors.ok.0) in
    rw (items, len) c.self.view_is)
    c.push_few.ensures.err
