use Rattle.std.proofs.Common.{MatchResult, ℕ, List, Some, None, Option, map, ap, sym, subst, option_map, ◌∙◌}
use Rattle.std.specs.Borrow.{Bor}
use Rattle.css_styles.specs.StyleViews.{names_of}
use Rattle.call_answers.specs.Calls.{FailsLonger}
use Rattle.page_calls.specs.Readings.{selector_as}
use Rattle.simplecss_calls.specs.WinnerNumbers.{AreWon}
use Rattle.simplecss_calls.specs.declared.contents.AskedProperties.{AskedProperties}
use Rattle.simplecss_calls.specs.internal.Contents.{asked_in}
use Rattle.call_answers.proofs.PageLines.{memory_due}
use Rattle.simplecss_calls.proofs.winners.range_winners.Goals as goal

abbrev asked_of : Option (Bor AskedProperties) → Option (List (List (List ℕ)))
asked_of asked = option_map (λ (a : Bor AskedProperties). asked_in a.now) asked

pub returns-in-None : goal.returns-in-None
returns-in-None c =
    let own = map (λ text. text.now) c.args.own.now in
    let are = λ (asked : Option (List (List (List ℕ)))).
    AreWon asked own c.args.most c.args.range (selector_as c.args.kind) c.args.rules.now.rules c.args.page.now in
    subst (λ (o : Option (Bor AskedProperties)). MatchResult c.wanted_numbers.result
    (λ out. are (asked_of o) (Some out.items)) (FailsLonger (are (asked_of o) None))) (sym c.in-None.is)
    c.wanted_numbers.ensures

pub returns-in_err-groups-in-Some : goal.returns-in_err-groups-in-Some
returns-in_err-groups-in-Some c =
    let own = map (λ text. text.now) c.args.own.now in
    let are = AreWon (asked_of c.args.asked) own c.args.most c.args.range (selector_as c.args.kind)
    c.args.rules.now.rules c.args.page.now in
    memory_due (λ out. are (Some out.items)) (are None) c.from_residual.result
    c.from_residual.ensures.1

pub returns-in_ok-groups-in-Some : goal.returns-in_ok-groups-in-Some
returns-in_ok-groups-in-Some c =
    let own = map (λ text. text.now) c.args.own.now in
    let are = λ (asked : Option (List (List (List ℕ)))).
    AreWon asked own c.args.most c.args.range (selector_as c.args.kind) c.args.rules.now.rules c.args.page.now in
    subst (λ (asked : Option (List (List (List ℕ)))). MatchResult c.wanted_numbers-in-Some.result
    (λ out. are asked (Some out.items)) (FailsLonger (are asked None)))
    (ap Some (ap names_of c.as_slice.ensures.value ∙ c.in_ok-groups-in-Some.ensures)
    ∙ ap asked_of (sym c.in-Some.is))
    c.wanted_numbers-in-Some.ensures
