use Rattle.std.proofs.Common.{◌≡◌, ◌-◌, ◌<◌, suc, IsTrue, length, subst, arith, sym, ◌∙◌}
use Rattle.std.specs.Prelude.{◌||◌, ◌&&◌}
use Rattle.css_tree.specs.Steps.{step, is_repeated, is_set}
use Rattle.css_tree.proofs.StepLemmas.{HandedFrom, handed_more, handed_all, read_set}
use Rattle.css_tree.proofs.numbered_tree.NumberedTree.preceding.Goals as goal

pub loop-index-preserved-in-Some : goal.loop-index-preserved-in-Some
loop-index-preserved-in-Some c =
    let rows = c.args.self.now.rows in
    let test = c.loop-index-test.true in
    let auto = c.loop-index.auto.index in
    let end = c.len-index.ensures in
    let less : c.loop-index.index - 1 < length rows = omega arith in
    let next : c.loop-index.index ≡ suc (c.loop-index.index - 1) = omega arith in
    let inv = c.loop-index.invariant.all in
    let k = c.loop-index.index - 1 in
    let found = c.loop-index.found.items in
    let marks = c.args.marks.now in
    let read : c.index.result.now ≡ is_set found k =
    read_set found k c.index.result.now (omega arith) c.index.ensures in
    let hands : IsTrue (is_set marks k || (is_repeated c.args.combinator && is_set found k)) =
    subst (λ f. IsTrue (is_set marks k || (is_repeated c.args.combinator && f))) read
    (subst (λ r. IsTrue (is_set marks k || (r && c.index.result.now))) c.is_repeated-repeated.ensures
    (sym c.hands_back.ensures ∙ c.if-hands_back.true)) in
    handed_more (step rows c.args.combinator) (is_repeated c.args.combinator) c.args.marks.now
    (length rows) c.loop-index.found.items (c.loop-index.index - 1) less
    (subst (HandedFrom (step rows c.args.combinator) (is_repeated c.args.combinator)
    c.args.marks.now (length rows) c.loop-index.found.items) next c.loop-index.invariant)
    c.in-Some.before (sym c.in-Some.ensures.value) c.in-Some.ensures.before hands

pub returns-clause-each : goal.returns-clause-each
returns-clause-each c =
    let rows = c.args.self.now.rows in
    let test = c.loop-index-test.false in
    let none : c.loop-index.index ≡ 0 = omega arith in
    handed_all c.args.self.now c.args.combinator c.args.marks.now c.loop-index.found.items
    (subst (HandedFrom (step rows c.args.combinator) (is_repeated c.args.combinator)
    c.args.marks.now (length rows) c.loop-index.found.items) none c.loop-index.invariant)
