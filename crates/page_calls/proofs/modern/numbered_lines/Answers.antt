use Rattle.std.proofs.Common.{List, Some, None, ap, sym, subst, ◌∙◌}
use Rattle.std.specs.Prelude.{MatchResult, string_bytes}
use Rattle.css_selector_text.specs.Components.{Selector}
use Rattle.css_selectors.specs.MarkedLists.{ListText}
use Rattle.css_selectors.specs.Numberings.{NumberingText, numbered_selectors}
use Rattle.call_answers.specs.Calls.{FailsLonger}
use Rattle.page_calls.specs.MarkedPages.{AreOnMarked}
use Rattle.page_calls.specs.ModernCalls.{AreLinesOn, AreNumberedLines}
use Rattle.css_tree.proofs.AnsweredLemmas.{numbered-answered}
use Rattle.page_calls.proofs.MarkCalls.{without-lists}
use Rattle.page_calls.proofs.modern.numbered_lines.Goals as goal

pub marked_lines-requires-clause-answered : goal.marked_lines-requires-clause-answered
marked_lines-requires-clause-answered c =
    numbered-answered c.new-numbering.result c.number_all.new.self c.args.selectors.items
    c.in_ok-selectors.selectors.items c.deref.result.now c.lists.result.now c.new-numbering.ensures.lists
    c.new-numbering.ensures.numbers c.in_ok-selectors.ensures c.deref.ensures.value c.lists.ensures

pub returns : goal.returns
returns c =
    let most = c.args.most in
    let content = c.args.content in
    let kind = c.args.kind in
    let page = c.args.page in
    let lines = c.marked_lines.result in
    subst (λ (numbered : List Selector × NumberingText). MatchResult lines
    (λ text. AreNumberedLines most content kind numbered page (Some (string_bytes text)))
    (FailsLonger (AreNumberedLines most content kind numbered page None)))
    (sym c.in_ok-selectors.ensures
    ∙ ap (λ n. numbered_selectors n c.args.selectors.items)
    (without-lists c.new-numbering.result c.new-numbering.ensures.lists c.new-numbering.ensures.numbers))
    (subst (λ (selectors : List Selector). MatchResult lines
    (λ text. AreOnMarked most kind c.number_all.new.self.lists page
    (AreLinesOn most content kind selectors) (Some (string_bytes text)))
    (FailsLonger (AreOnMarked most kind c.number_all.new.self.lists page
    (AreLinesOn most content kind selectors) None)))
    c.deref.ensures.value
    (subst (λ (lists : List ListText). MatchResult lines
    (λ text. AreOnMarked most kind lists page
    (AreLinesOn most content kind c.deref.result.now) (Some (string_bytes text)))
    (FailsLonger (AreOnMarked most kind lists page
    (AreLinesOn most content kind c.deref.result.now) None)))
    c.lists.ensures c.marked_lines.ensures))
