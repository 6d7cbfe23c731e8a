use Rattle.std.proofs.Common.{◌<◌, ◌+◌, length, get_or, ap, refl, ◌∙◌, arith}
use Rattle.std.proofs.lemmas.Option.{slice_get-get_or}
use Rattle.std.proofs.lemmas.List.{length-append}
use Rattle.css_tree.specs.GroupViews.{is_in_group, nothing_seen}
use Rattle.css_tree.proofs.Counting.{count_below-at_most}
use Rattle.css_tree.proofs.Grouping.{all_more, before_more}
use Rattle.css_tree.proofs.groups.see_all.Goals as goal

pub overflow_add-all : goal.overflow_add-all
overflow_add-all c =
    let number = get_or c.args.numbers.now c.loop-i.i 0 in
    let known = ap (λ s. s.count) (c.loop-i.invariant.2 number) in
    let most = count_below-at_most (is_in_group c.args.numbers.now number) c.loop-i.i in
    let few = c.requires.few in let test = c.loop-i-test.true in
    omega (arith, known, most, few, test)

pub loop-i-preserved : goal.loop-i-preserved
loop-i-preserved c =
    let number = get_or c.args.numbers.now c.loop-i.i 0 in
    let seen = get_or c.loop-i.all number nothing_seen in
    let known = c.loop-i.invariant.2 number in
    let test = c.loop-i-test.true in
    let at = slice_get-get_or c.args.numbers.now c.loop-i.i 0 test in
    let least = c.requires.within c.loop-i.i 0 test in
    let same = c.loop-i.auto.all in
    let within : number < length c.loop-i.all = omega (arith, least, same) in (
      ap length c.in_ok-push.ensures.items ∙ length-append c.loop-i.before.items _
          ∙ ap (λ n. n + 1) c.loop-i.invariant.0,
      before_more c.args.numbers.now c.loop-i.before.items c.push.new.self.items c.loop-i.i number seen
          c.loop-i.invariant.0 c.in_ok-push.ensures.items at known c.loop-i.invariant.1,
      all_more c.args.numbers.now c.loop-i.all _ c.loop-i.i number seen at within known refl
          c.loop-i.invariant.2,
    )
