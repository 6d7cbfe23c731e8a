use Rattle.css_tree.specs.HtmlViews.{AreAround}
use Rattle.css_tree.proofs.surroundings.all_surroundings.Given as goal

-- what is decided for the elements so far
abbrev pub invariant-loop-index : goal.invariant-loop-index
invariant-loop-index l = AreAround l.page.rows l.all.items l.index
