use Rattle.std.proofs.Common.{◌≡◌, ◌<◌, length, get_or, refl, ◌∙◌, arith, rules}
use Rattle.std.proofs.lemmas.Grind.{get_or_default_zero}
use Rattle.simplecss.proofs.RuleMoves.{moving_none, moving_more}
use Rattle.simplecss.proofs.sheet.order.arrange.Goals as goal

pub loop-index-init : goal.loop-index-init
loop-index-init c = moving_none c.args.rules.now.items c.args.order.now c.args.who.items
    c.args.at.items c.requires.who c.requires.at

pub swap-requires-in-loop-index-2-clause-j_in_bounds :
    goal.swap-requires-in-loop-index-2-clause-j_in_bounds
swap-requires-in-loop-index-2-clause-j_in_bounds c =
    let long = c.requires.order.long in
    let here : c.loop-index.index < length c.args.rules.now.items = omega arith in
    let many = c.loop-index.invariant.who_long in
    let is : c.index-other.result.now
    ≡ get_or c.loop-index.who.items c.loop-index.index c.index-other.result.now = search rules in
    let zero = get_or_default_zero c.loop-index.who.items c.loop-index.index
    c.index-other.result.now (omega arith) in
    let below = c.loop-index.invariant.who_below c.loop-index.index here in
    let wide = c.loop-index.invariant.at_long in
    omega (arith, c.loop-index.at.ok.0)

pub loop-index-preserved : goal.loop-index-preserved
loop-index-preserved c =
    let long = c.requires.order.long in
    let here : c.loop-index.index < length c.args.rules.now.items = omega arith in
    let first = get_or c.args.order.now c.loop-index.index 0 in
    let below = c.requires.order.below c.loop-index.index here in
    let who_long = c.loop-index.invariant.who_long in
    let at_long = c.loop-index.invariant.at_long in
    let from : c.index-from.result.now
    ≡ get_or c.loop-index.at.items first c.index-from.result.now = search rules in
    let other : c.index-other.result.now
    ≡ get_or c.loop-index.who.items c.loop-index.index c.index-other.result.now = search rules in
    moving_more c.args.rules.now.items c.args.order.now c.loop-index.index c.loop-index.rules.items
    c.loop-index.who.items c.loop-index.at.items
    c.loop-index.invariant c.requires.order here first c.index-from.result.now
    c.index-other.result.now refl
    (from ∙ get_or_default_zero c.loop-index.at.items first c.index-from.result.now (omega arith))
    (other ∙ get_or_default_zero c.loop-index.who.items c.loop-index.index c.index-other.result.now
    (omega arith))
    c.swap.new.self.items c.swap-in-loop-index.new.self.items c.swap-in-loop-index-2.new.self.items
    c.swap.ensures.by_index c.swap-in-loop-index.ensures.by_index
    c.swap-in-loop-index-2.ensures.by_index
    (omega (arith, c.swap.ensures.len, c.swap.new.self.ok.0, c.loop-index.rules.ok.0))
    (omega (
      arith,
      c.swap-in-loop-index.ensures.len,
      c.swap-in-loop-index.new.self.ok.0,
      c.loop-index.who.ok.0,
    ))
    (omega (
      arith,
      c.swap-in-loop-index-2.ensures.len,
      c.swap-in-loop-index-2.new.self.ok.0,
      c.loop-index.at.ok.0,
    ))
