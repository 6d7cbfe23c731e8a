-- The elements that were visited are counted and answered.
use Rattle.css_selector_text.specs.Views.{progression_of}
use Rattle.css_tree.specs.Visits.{AreCounted}
use Rattle.css_tree.proofs.VisitLemmas.{AreAnswered}
use Rattle.css_tree.proofs.numbered_tree.NumberedTree.numbered.Given as goal

abbrev pub invariant-loop-before : goal.invariant-loop-before
invariant-loop-before l = record {
  counts : AreCounted l.end l.self.rows l.marks l.counts.items l.before;
  answers : AreAnswered l.end (progression_of l.progression) l.self.rows l.marks l.found.items l.before;
}
