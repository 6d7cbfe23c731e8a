use Rattle.std.proofs.Common.{ap, sym, ◌∙◌}
use Rattle.css_selector_text.specs.declared.components.Condition.{Not}
use Rattle.css_selectors.specs.MarkedLists.{list_of}
use Rattle.css_selectors.specs.MarkedLists.ListText.{tested}
use Rattle.css_selector_text.specs.Views.{list_test_of}
use Rattle.css_tree.specs.Html.{list_in}
use Rattle.css_tree.proofs.HtmlLemmas.{lists}
use Rattle.css_tree.proofs.html.html_marked.Goals as goal

pub returns-in_ok-selectors_in-in-Tested : goal.returns-in_ok-selectors_in-in-Tested
returns-in_ok-selectors_in-in-Tested c =
    let old = c.in-Tested.selectors in
    let new = c.in_ok-selectors_in-in-Tested.field-0 in
    ap (tested (list_test_of c.in-Tested.test))
    (lists c.args.mode (Not old) old new c.as_slice-in-Tested.result.now
    c.as_slice-in-Tested.ensures.value c.in_ok-selectors_in-in-Tested.ensures)
    ∙ sym (ap (λ l. list_in c.args.mode (list_of l)) c.in-Tested.is)
