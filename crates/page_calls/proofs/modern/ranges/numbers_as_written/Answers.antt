use Rattle.std.proofs.Common.{List, MatchResult, None, Some, refl, sym, subst, ◌∙◌}
use Rattle.std.proofs.lemmas.List.{map-id}
use Rattle.css_selector_text.specs.Components.{Selector}
use Rattle.css_tree.specs.Answered.{IsMarkedFor}
use Rattle.css_tree.specs.Pages.{Page}
use Rattle.call_answers.specs.Calls.{FailsLonger}
use Rattle.page_calls.specs.Ranges.{AreNumbersIn}
use Rattle.call_answers.proofs.PageLines.{memory_due}
use Rattle.page_calls.proofs.modern.ranges.numbers_as_written.Goals as goal

pub returns-in_err-walk : goal.returns-in_err-walk
returns-in_err-walk c =
    let are = AreNumbersIn c.args.most c.args.range c.args.selectors.now c.args.page.now in
    memory_due (λ numbers. are (Some numbers.items)) (are None) c.from_residual.result
    c.from_residual.ensures.1

pub new-requires : goal.new-requires
new-requires c = λ lifetimes. (
  (refl, (refl, tt)),
  subst (λ (selectors : List Selector). IsMarkedFor selectors c.args.page.now) (sym (map-id c.args.selectors.now))
      c.requires,
)

pub returns : goal.returns
returns c =
    subst (λ (page : Page). MatchResult c.numbers_by.result
    (λ numbers. AreNumbersIn c.args.most c.args.range c.args.selectors.now page (Some numbers.items))
    (FailsLonger (AreNumbersIn c.args.most c.args.range c.args.selectors.now page None))) c.in_ok-walk.ensures.page
    (subst (λ (selectors : List Selector). MatchResult c.numbers_by.result
    (λ numbers. AreNumbersIn c.args.most c.args.range selectors c.in_ok-walk.walk.page (Some numbers.items))
    (FailsLonger (AreNumbersIn c.args.most c.args.range selectors c.in_ok-walk.walk.page None)))
    (c.in_ok-walk.ensures.selectors ∙ map-id c.args.selectors.now) c.numbers_by.ensures)
