use Rattle.std.proofs.Common.{List, Some, None, ap, sym, subst, ◌∙◌}
use Rattle.std.specs.Prelude.{MatchResult}
use Rattle.css_selector_text.specs.Components.{Selector}
use Rattle.css_selectors.specs.MarkedLists.{ListText}
use Rattle.css_selectors.specs.Numberings.{NumberingText, numbered_selectors}
use Rattle.call_answers.specs.Calls.{FailsLonger}
use Rattle.page_calls.specs.MarkedPages.{AreOnMarked}
use Rattle.page_calls.specs.Ranges.{AreNumbered, AreNumbersOn}
use Rattle.css_tree.proofs.AnsweredLemmas.{numbered-answered}
use Rattle.page_calls.proofs.MarkCalls.{without-lists}
use Rattle.page_calls.proofs.modern.ranges.numbered.Goals as goal

pub marked_numbers-requires : goal.marked_numbers-requires
marked_numbers-requires c =
    numbered-answered c.new-numbering.result c.number_all.new.self c.args.selectors.items
    c.in_ok-selectors.selectors.items c.deref.result.now c.lists.result.now c.new-numbering.ensures.lists
    c.new-numbering.ensures.numbers c.in_ok-selectors.ensures c.deref.ensures.value c.lists.ensures

pub returns-clause-answer : goal.returns-clause-answer
returns-clause-answer c =
    let most = c.args.most in
    let kind = c.args.kind in
    let range = c.args.range in
    let page = c.args.page.now in
    let out = c.marked_numbers.result in
    subst (λ (numbered : List Selector × NumberingText). MatchResult out
    (λ numbers. AreNumbered most range kind numbered page (Some numbers.items))
    (FailsLonger (AreNumbered most range kind numbered page None)))
    (sym c.in_ok-selectors.ensures
    ∙ ap (λ n. numbered_selectors n c.args.selectors.items)
    (without-lists c.new-numbering.result c.new-numbering.ensures.lists c.new-numbering.ensures.numbers))
    (subst (λ (selectors : List Selector). MatchResult out
    (λ numbers. AreOnMarked most kind c.number_all.new.self.lists page
    (AreNumbersOn most range kind selectors) (Some numbers.items))
    (FailsLonger (AreOnMarked most kind c.number_all.new.self.lists page
    (AreNumbersOn most range kind selectors) None)))
    c.deref.ensures.value
    (subst (λ (lists : List ListText). MatchResult out
    (λ numbers. AreOnMarked most kind lists page
    (AreNumbersOn most range kind c.deref.result.now) (Some numbers.items))
    (FailsLonger (AreOnMarked most kind lists page
    (AreNumbersOn most range kind c.deref.result.now) None)))
    c.lists.ensures c.marked_numbers.ensures.answer))
