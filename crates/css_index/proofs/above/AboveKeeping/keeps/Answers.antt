use Rattle.std.proofs.Common.{◌≡◌, None, Some, refl, sym, ◌∙◌}
use Rattle.std.proofs.lemmas.Bool.{false≢true}
use Rattle.css_index.specs.internal.Walking.{need_of, walk_above}
use Rattle.css_index.proofs.WalkLemmas.{need_there, need_past, kept_here}
use Rattle.css_index.proofs.above.AboveKeeping.keeps.Goals as goal

pub returns-then-are_needed_open : goal.returns-then-are_needed_open
returns-then-are_needed_open c =
    let walk = walk_above c.args.self.now in
    let h = c.in-Some.ensures.lookup in
    let need = c.in-Some.need.now in
    let there = need_there need_of c.args.self.now.needs.now walk.needs c.args.index need refl h.3.0 h.1 in
    let kept = kept_here walk c.args.index (need_of need) walk.opened (need_of need).0
    c.deref.result.now there refl refl
    c.deref.ensures.value in (
      λ t. kept.0 (c.are_needed_open.ensures.0 c.if-are_needed_open.true, c.are_of_last.ensures.0 t),
      λ k. c.are_of_last.ensures.1 (kept.1 k).1,
    )

pub returns-else-are_needed_open : goal.returns-else-are_needed_open
returns-else-are_needed_open c =
    let walk = walk_above c.args.self.now in
    let h = c.in-Some.ensures.lookup in
    let need = c.in-Some.need.now in
    let there = need_there need_of c.args.self.now.needs.now walk.needs c.args.index need refl h.3.0 h.1 in
    let kept = kept_here walk c.args.index (need_of need) walk.opened (need_of need).0
    (need_of need).1 there refl refl refl in (
      λ t. absurd (false≢true (sym c.if-are_needed_open.false ∙ t)),
      λ k. c.are_needed_open.ensures.1 (kept.1 k).0,
    )

pub returns-in-None : goal.returns-in-None
returns-in-None c =
    let past = need_past need_of c.args.self.now.needs.now (walk_above c.args.self.now).needs
    c.args.index refl c.in-None.ensures.lookup.3 in (
      λ t. absurd (cc),
      λ k. absurd (let e : None ≡ Some k.0 = sym past ∙ k.1 in cc),
    )
