use Rattle.css_tree.proofs.KindLemmas.{IsCompared}
use Rattle.css_tree.proofs.kinds.kind_by_siblings.Given as goal

-- none of the siblings that were compared is alike
abbrev pub invariant-siblings : goal.invariant-siblings
invariant-siblings l = IsCompared l.tree l.namespaces l.index l.earlier

abbrev pub decreases-siblings : goal.decreases-siblings
decreases-siblings l = l.earlier
