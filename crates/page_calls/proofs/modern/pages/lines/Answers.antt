use Rattle.std.proofs.Common.{List, MatchResult, map, string_bytes, None, Some, ap, sym, subst, ◌∙◌}
use Rattle.std.proofs.lemmas.List.{map-id}
use Rattle.css_selector_text.specs.Components.{Selector}
use Rattle.css_tree.specs.Answered.{IsMarkedFor}
use Rattle.call_answers.specs.Calls.{FailsLonger}
use Rattle.page_calls.specs.ModernLines.{AreModernLines}
use Rattle.page_calls.specs.Readings.{selector_as}
use Rattle.page_calls.proofs.modern.pages.lines.Goals as goal

pub lines_as_written-requires-clause-marked : goal.lines_as_written-requires-clause-marked
lines_as_written-requires-clause-marked c =
    subst (λ (selectors : List Selector). IsMarkedFor selectors c.args.page.now)
    (ap (λ reading. map (selector_as reading) c.args.selectors.now) c.in-AsWritten.is ∙ map-id c.args.selectors.now)
    c.requires.marked

pub lines_as_written-requires-in-Html-clause-marked : goal.lines_as_written-requires-in-Html-clause-marked
lines_as_written-requires-in-Html-clause-marked c =
    subst (λ (selectors : List Selector). IsMarkedFor selectors c.args.page.now)
    (ap (λ reading. map (selector_as reading) c.args.selectors.now) c.in-Html.is
    ∙ sym (c.deref.ensures.value ∙ c.in_ok-selectors-in-Html.ensures)) c.requires.marked

pub returns-in-AsWritten : goal.returns-in-AsWritten
returns-in-AsWritten c =
    let selectors = c.args.selectors.now in
    let most = c.args.most in
    let content = c.args.content in
    subst (λ (selectors : List Selector). MatchResult c.lines_as_written.result
    (λ text. AreModernLines most content selectors c.args.page.now (Some (string_bytes text)))
    (FailsLonger (AreModernLines most content selectors c.args.page.now None)))
    (sym (ap (λ reading. map (selector_as reading) selectors) c.in-AsWritten.is ∙ map-id selectors))
    c.lines_as_written.ensures

pub returns-in_ok-selectors-in-Html : goal.returns-in_ok-selectors-in-Html
returns-in_ok-selectors-in-Html c =
    let most = c.args.most in
    let content = c.args.content in
    subst (λ (selectors : List Selector). MatchResult c.lines_as_written-in-Html.result
    (λ text. AreModernLines most content selectors c.args.page.now (Some (string_bytes text)))
    (FailsLonger (AreModernLines most content selectors c.args.page.now None)))
    (c.deref.ensures.value ∙ c.in_ok-selectors-in-Html.ensures
    ∙ sym (ap (λ reading. map (selector_as reading) c.args.selectors.now) c.in-Html.is))
    c.lines_as_written-in-Html.ensures
