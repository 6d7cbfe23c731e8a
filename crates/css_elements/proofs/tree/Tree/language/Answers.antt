use Rattle.std.proofs.Common.{◌∙◌, sym, arith}
use Rattle.css_elements.proofs.Languages.{language_at-parent}
use Rattle.css_elements.proofs.tree.Tree.language.Goals as goal

pub loop-language-preserved : goal.loop-language-preserved
loop-language-preserved c = (
  omega (arith, c.loop-language.invariant.0, c.in_ok-nearest.ensures.before),
  c.loop-language.invariant.1 ∙ language_at-parent c.args.self.now c.loop-language.nearest
      c.in_ok-nearest.nearest (sym c.in_default.ensures) (sym c.in_ok-nearest.ensures.value),
)
