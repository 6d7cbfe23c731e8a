use Rattle.std.proofs.Common.{ℕ, ◌≡◌, List, Option, MatchResult, Some, None, map, refl, ap, subst, sym, ◌∙◌}
use Rattle.std.specs.Option.{option_copied, option_map}
use Rattle.css_sheet.specs.SheetOrder.{SheetRuleText}
use Rattle.call_answers.specs.Calls.{FailsLonger}
use Rattle.page_calls.specs.Readings.{selector_as}
use Rattle.simplecss_calls.specs.declared.contents.Content.{Content}
use Rattle.std.specs.Borrow.{Bor}
use Rattle.simplecss_calls.specs.ExplainNumbers.{AreExplained}
use Rattle.simplecss_calls.specs.declared.contents.AskedProperties.{AskedProperties}
use Rattle.simplecss_calls.specs.internal.Contents.{asked_in, content_of}
use Rattle.simplecss_calls.specs.Asked.{AreNumbers}
use Rattle.simplecss_calls.specs.WinnerNumbers.{AreMatched, AreWon}
use Rattle.simplecss_calls.proofs.element_numbers.range_numbers.Goals as goal

-- the names of properties that are borrowed are those of the properties
asked-borrowed : (asked : Option (Bor AskedProperties))
    → option_map (λ one. asked_in one.now) asked ≡ option_map asked_in (option_copied asked)
asked-borrowed None = refl
asked-borrowed (Some one) = refl

pub returns-in-Won : goal.returns-in-Won
returns-in-Won c =
    let own = map (λ text. text.now) c.args.own.now in
    let read = selector_as c.args.kind in
    let rules = c.args.rules.now.rules in
    let page = c.args.page.now in
    subst (λ (content : Content). MatchResult c.range_winners.result
    (λ out. AreNumbers (content_of content) own c.args.most c.args.range read rules page (Some out.items))
    (FailsLonger (AreNumbers (content_of content) own c.args.most c.args.range read rules page None)))
    (sym c.in-Won.is)
    (subst (λ (asked : Option (List (List (List ℕ)))). MatchResult c.range_winners.result
    (λ out. AreWon asked own c.args.most c.args.range read rules page (Some out.items))
    (FailsLonger (AreWon asked own c.args.most c.args.range read rules page None)))
    (asked-borrowed c.as_ref.result ∙ ap (option_map asked_in) c.as_ref.ensures.value) c.range_winners.ensures)

pub returns-in-Matched : goal.returns-in-Matched
returns-in-Matched c =
    let own = map (λ text. text.now) c.args.own.now in
    let read = selector_as c.args.kind in
    let page = c.args.page.now in
    subst (λ (content : Content). MatchResult c.range_matches.result
    (λ out. AreNumbers (content_of content) own c.args.most c.args.range read c.args.rules.now.rules page (Some out.items))
    (FailsLonger (AreNumbers (content_of content) own c.args.most c.args.range read c.args.rules.now.rules page None)))
    (sym c.in-Matched.is)
    c.range_matches.ensures

pub returns-in-Explained : goal.returns-in-Explained
returns-in-Explained c =
    let own = map (λ text. text.now) c.args.own.now in
    let read = selector_as c.args.kind in
    let rules = c.args.rules.now.rules in
    let page = c.args.page.now in
    subst (λ (content : Content). MatchResult c.range_explained.result
    (λ out. AreNumbers (content_of content) own c.args.most c.args.range read rules page (Some out.items))
    (FailsLonger (AreNumbers (content_of content) own c.args.most c.args.range read rules page None)))
    (sym c.in-Explained.is)
    (subst (λ (names : List (Bor (List ℕ))). MatchResult c.range_explained.result
    (λ out. AreExplained (map (λ name. name.now) names) own c.args.most c.args.range read rules page (Some out.items))
    (FailsLonger (AreExplained (map (λ name. name.now) names) own c.args.most c.args.range read rules page None)))
    c.deref.ensures.value c.range_explained.ensures)
