use Rattle.css_tree.specs.Attributes.{AreFound}
use Rattle.css_tree.proofs.attributes.many_attributes.Given as goal

-- the attributes of the elements so far
abbrev pub invariant-loop-index : goal.invariant-loop-index
invariant-loop-index l = AreFound l.tree l.found
