use Rattle.std.proofs.Common.{map, ap, sym, ◌∙◌}
use Rattle.std.proofs.lemmas.List.{length-map}
use Rattle.css_selectors.specs.MarkedLists.{list_of}
use Rattle.css_selector_text.specs.Views.{complex_of}
use Rattle.page_calls.specs.MarkedPages.{list_size}
use Rattle.page_calls.proofs.MarkCalls.{selector_count-from}
use Rattle.page_calls.proofs.marks.list_size.Goals as goal

pub returns-in-Tested-clause-size : goal.returns-in-Tested-clause-size
returns-in-Tested-clause-size c =
    let selectors = c.in-Tested.selectors.items in
    c.len-in-Tested.ensures ∙ c.in-Tested.selectors.ok.0 ∙ sym (length-map selectors complex_of)
    ∙ sym (selector_count-from (map complex_of selectors))
    ∙ sym (ap (λ list. list_size (list_of list)) c.in-Tested.is)
