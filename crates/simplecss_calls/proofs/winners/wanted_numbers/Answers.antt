use Rattle.std.proofs.Common.{MatchResult, Some, None, map, sym, subst}
use Rattle.std.proofs.lemmas.List.{map-id}
use Rattle.css_tree.specs.Marks.{AreMarked}
use Rattle.page_calls.specs.declared.modern.document_kind.DocumentKind.{DocumentKind}
use Rattle.call_answers.specs.Calls.{FailsLonger}
use Rattle.page_calls.specs.MarkedPages.{list_as}
use Rattle.page_calls.specs.Readings.{selector_as}
use Rattle.simplecss_calls.specs.WinnerNumbers.{AreWon}
use Rattle.simplecss_calls.specs.internal.Contents.{asked_by, own_by}
use Rattle.simplecss_calls.proofs.winners.wanted_numbers.Goals as goal

pub numbers_as_written-requires : goal.numbers_as_written-requires
numbers_as_written-requires c =
    subst (λ lists. AreMarked lists c.args.page.now) (map-id c.args.rules.now.lists)
    (subst (λ (kind : DocumentKind). AreMarked (map (list_as kind) c.args.rules.now.lists) c.args.page.now)
    c.in-AsWritten.is c.requires)

pub numbers_in_html-requires : goal.numbers_in_html-requires
numbers_in_html-requires c =
    subst (λ (kind : DocumentKind). AreMarked (map (list_as kind) c.args.rules.now.lists) c.args.page.now)
    c.in-Html.is c.requires

pub returns-in-AsWritten : goal.returns-in-AsWritten
returns-in-AsWritten c =
    let rules = c.args.rules.now.rules in
    let page = c.args.page.now in
    subst (λ (kind : DocumentKind). MatchResult c.numbers_as_written.result
    (λ out. AreWon (asked_by c.args.wanted) (own_by c.args.wanted) c.args.most c.args.range (selector_as kind) rules page (Some out.items))
    (FailsLonger (AreWon (asked_by c.args.wanted) (own_by c.args.wanted) c.args.most c.args.range (selector_as kind) rules page None)))
    (sym c.in-AsWritten.is) c.numbers_as_written.ensures

pub returns-in-Html : goal.returns-in-Html
returns-in-Html c =
    let rules = c.args.rules.now.rules in
    let page = c.args.page.now in
    subst (λ (kind : DocumentKind). MatchResult c.numbers_in_html.result
    (λ out. AreWon (asked_by c.args.wanted) (own_by c.args.wanted) c.args.most c.args.range (selector_as kind) rules page (Some out.items))
    (FailsLonger (AreWon (asked_by c.args.wanted) (own_by c.args.wanted) c.args.most c.args.range (selector_as kind) rules page None)))
    (sym c.in-Html.is) c.numbers_in_html.ensures
