use Rattle.std.proofs.Common.{List, MatchResult, map, None, Some, ap, sym, subst, ◌∙◌}
use Rattle.std.proofs.lemmas.List.{map-id}
use Rattle.css_selector_text.specs.Components.{Selector}
use Rattle.css_tree.specs.Answered.{IsMarkedFor}
use Rattle.call_answers.specs.Calls.{FailsLonger}
use Rattle.page_calls.specs.Ranges.{AreNumbersIn}
use Rattle.page_calls.specs.Readings.{selector_as}
use Rattle.page_calls.proofs.modern.ranges.range_numbers.Goals as goal

pub numbers_as_written-requires : goal.numbers_as_written-requires
numbers_as_written-requires c =
    subst (λ (selectors : List Selector). IsMarkedFor selectors c.args.page.now)
    (ap (λ reading. map (selector_as reading) c.args.selectors.now) c.in-AsWritten.is ∙ map-id c.args.selectors.now)
    c.requires

pub numbers_as_written-requires-in-Html : goal.numbers_as_written-requires-in-Html
numbers_as_written-requires-in-Html c =
    subst (λ (selectors : List Selector). IsMarkedFor selectors c.args.page.now)
    (ap (λ reading. map (selector_as reading) c.args.selectors.now) c.in-Html.is
    ∙ sym (c.deref.ensures.value ∙ c.in_ok-selectors-in-Html.ensures)) c.requires

pub returns-in-AsWritten : goal.returns-in-AsWritten
returns-in-AsWritten c =
    let selectors = c.args.selectors.now in
    subst (λ (selectors : List Selector). MatchResult c.numbers_as_written.result
    (λ numbers. AreNumbersIn c.args.most c.args.range selectors c.args.page.now (Some numbers.items))
    (FailsLonger (AreNumbersIn c.args.most c.args.range selectors c.args.page.now None)))
    (sym (ap (λ reading. map (selector_as reading) selectors) c.in-AsWritten.is ∙ map-id selectors))
    c.numbers_as_written.ensures

pub returns-in_ok-selectors-in-Html : goal.returns-in_ok-selectors-in-Html
returns-in_ok-selectors-in-Html c =
    subst (λ (selectors : List Selector). MatchResult c.numbers_as_written-in-Html.result
    (λ numbers. AreNumbersIn c.args.most c.args.range selectors c.args.page.now (Some numbers.items))
    (FailsLonger (AreNumbersIn c.args.most c.args.range selectors c.args.page.now None)))
    (c.deref.ensures.value ∙ c.in_ok-selectors-in-Html.ensures
    ∙ sym (ap (λ reading. map (selector_as reading) c.args.selectors.now) c.in-Html.is))
    c.numbers_as_written-in-Html.ensures
