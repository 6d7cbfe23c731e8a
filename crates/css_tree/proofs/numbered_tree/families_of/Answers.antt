use Rattle.std.proofs.Common.{◌≡◌, ◌+◌, Some, length, ap, ◌∙◌, arith}
use Rattle.std.proofs.lemmas.List.{length-append}
use Rattle.css_tree.specs.Pages.{family}
use Rattle.css_tree.proofs.Numbering.{known_more}
use Rattle.css_tree.proofs.numbered_tree.families_of.Goals as goal

pub loop-index-preserved : goal.loop-index-preserved
loop-index-preserved c = (
  ap length c.in_ok-push.ensures.items ∙ length-append c.loop-index.families.items _
      ∙ ap (λ n. n + 1) c.loop-index.invariant.0,
  λ i lt.
      known_more (λ j f. f ≡ family c.args.tree.now j) c.loop-index.families.items c.push.new.self.items
      c.family_of.result c.loop-index.index i c.in_ok-push.ensures.items c.loop-index.invariant.0
      c.family_of.ensures c.loop-index.invariant.1 lt,
)

pub returns : goal.returns
returns c =
    let len = c.loop-index.invariant.0 in let test = c.loop-index-test.false in
    let most = c.loop-index.auto.index-end in let is = c.len-index-end.ensures in
    record {
      all = omega (arith, len, test, most, is);
      each = λ i lt. (let k = c.loop-index.invariant.1 i (omega (arith, lt, test, is)) in
          k.1 ∙ ap Some k.2);
    }
