use Rattle.css_tree.specs.Keys.{AreLanguages}
use Rattle.css_tree.proofs.numbered_tree.languages_of.Given as goal

-- the languages of the elements so far
abbrev pub invariant-loop-index : goal.invariant-loop-index
invariant-loop-index l = AreLanguages l.tree l.found.items l.index
