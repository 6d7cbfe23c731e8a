-- The elements so far keep their marks if they satisfy the conditions.
use Rattle.css_matching.specs.ListTrees.{spot}
use Rattle.css_selector_text.specs.Components.{conditions_from}
use Rattle.css_selectors.specs.Meanings.{AreMet}
use Rattle.css_selector_text.specs.Views.{part_of}
use Rattle.css_tree.specs.Pages.{page_document}
use Rattle.css_tree.proofs.StepLemmas.{KeptBelow}
use Rattle.css_tree.proofs.numbered_tree.NumberedTree.keep_met.Given as goal

abbrev pub invariant-loop-index : goal.invariant-loop-index
invariant-loop-index l =
    KeptBelow (λ i. AreMet page_document (conditions_from (part_of l.part).conditions) (spot l.self i))
    l.fn.marks l.marks l.index
