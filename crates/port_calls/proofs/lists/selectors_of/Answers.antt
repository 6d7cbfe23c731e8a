use Rattle.simplecss.specs.Selectors.{reads}
use Rattle.simplecss.specs.SelectorLists.{last_item, list_fault, list_of}
use Rattle.simplecss.specs.ThisEdition.{this_edition}
use Rattle.port_calls.proofs.ListFacts.{selectors_are, none_are}
use Rattle.port_calls.proofs.lists.selectors_of.Goals as goal

pub returns-in-Ok : goal.returns-in-Ok
returns-in-Ok c =
    let text = c.args.text.now in
    let item = last_item this_edition text in
    selectors_are (list_fault this_edition text item (reads this_edition item).1)
    (list_of this_edition text) c.in-Ok.selectors.items
    (rw c.in-Ok.is at c.in_ok-selectors.ensures)

pub returns-in-Err : goal.returns-in-Err
returns-in-Err c =
    let text = c.args.text.now in
    let item = last_item this_edition text in
    none_are (list_fault this_edition text item (reads this_edition item).1) _
    (list_of this_edition text) (rw c.in-Err.is at c.in_ok-selectors.ensures)
