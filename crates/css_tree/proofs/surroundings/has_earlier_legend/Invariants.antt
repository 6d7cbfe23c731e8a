use Rattle.css_tree.proofs.SurroundingLemmas.{ArePassed}
use Rattle.css_tree.proofs.surroundings.has_earlier_legend.Given as goal

-- none of the siblings that were passed is a legend
abbrev pub invariant-siblings : goal.invariant-siblings
invariant-siblings l = ArePassed l.page.rows l.parent l.index l.earlier

abbrev pub decreases-siblings : goal.decreases-siblings
decreases-siblings l = l.earlier
