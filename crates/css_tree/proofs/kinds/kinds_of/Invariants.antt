use Rattle.css_tree.specs.Keys.{HasKinds, AreNamed}
use Rattle.css_tree.proofs.kinds.kinds_of.Given as goal

-- the kinds of the elements so far
abbrev pub invariant-loop-index : goal.invariant-loop-index
invariant-loop-index l =
    HasKinds l.tree l.namespaces l.kinds.items l.index
    × AreNamed l.tree l.namespaces l.families l.named l.index
