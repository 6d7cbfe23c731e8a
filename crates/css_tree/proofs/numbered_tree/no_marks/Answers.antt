use Rattle.std.proofs.Common.{◌+◌, false, length, get_or, ap, ◌∙◌}
use Rattle.std.proofs.lemmas.List.{length-append}
use Rattle.css_tree.proofs.Numbering.{defaults_more}
use Rattle.css_tree.proofs.numbered_tree.no_marks.Goals as goal

pub loop-index-preserved : goal.loop-index-preserved
loop-index-preserved c = (
  ap length c.in_ok-push.ensures.items ∙ length-append c.loop-index.marks.items _
      ∙ ap (λ n. n + 1) c.loop-index.invariant.0,
  λ i.
      ap (λ xs. get_or xs i false) c.in_ok-push.ensures.items
      ∙ defaults_more false c.loop-index.marks.items c.loop-index.invariant.1 i,
)
