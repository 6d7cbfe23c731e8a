use Rattle.std.proofs.Common.{◌+◌, length, get_or, ap, ◌∙◌}
use Rattle.std.proofs.lemmas.List.{length-append}
use Rattle.css_tree.specs.GroupViews.{nothing_seen}
use Rattle.css_tree.proofs.Numbering.{defaults_more}
use Rattle.css_tree.proofs.groups.nothing_seen.Goals as goal

pub loop-number-preserved : goal.loop-number-preserved
loop-number-preserved c = (
  ap length c.in_ok-push.ensures.items ∙ length-append c.loop-number.all.items _
      ∙ ap (λ n. n + 1) c.loop-number.invariant.0,
  λ i.
      ap (λ xs. get_or xs i nothing_seen) c.in_ok-push.ensures.items
      ∙ defaults_more nothing_seen c.loop-number.all.items c.loop-number.invariant.1 i,
)
