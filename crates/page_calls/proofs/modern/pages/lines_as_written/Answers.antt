use Rattle.std.proofs.Common.{List, MatchResult, length, string_bytes, None, Some, refl, ap, sym, subst, ◌∙◌, arith}
use Rattle.std.proofs.lemmas.List.{map-id}
use Rattle.css_selector_text.specs.Components.{Selector}
use Rattle.css_tree.specs.Answered.{IsMarkedFor}
use Rattle.css_tree.specs.Pages.{Page}
use Rattle.call_answers.specs.Calls.{FailsLonger}
use Rattle.page_calls.specs.ModernLines.{AreModernLines}
use Rattle.call_answers.proofs.PageLines.{memory_due}
use Rattle.page_calls.proofs.modern.pages.lines_as_written.Goals as goal

pub returns-in_err-walk : goal.returns-in_err-walk
returns-in_err-walk c =
    let are = AreModernLines c.args.most c.args.content c.args.selectors.now c.args.page.now in
    memory_due (λ text. are (Some (string_bytes text))) (are None) c.from_residual.result
    c.from_residual.ensures.1

pub lines_by-requires : goal.lines_by-requires
lines_by-requires c =
    let same = ap length (c.in_ok-walk.ensures.selectors ∙ map-id c.args.selectors.now) in
    omega (arith, same, c.requires.few)

pub new-requires : goal.new-requires
new-requires c = λ lifetimes. (
  (refl, (refl, tt)),
  subst (λ (selectors : List Selector). IsMarkedFor selectors c.args.page.now) (sym (map-id c.args.selectors.now))
      c.requires.marked,
)

pub returns : goal.returns
returns c =
    let most = c.args.most in
    let content = c.args.content in
    subst (λ (page : Page). MatchResult c.lines_by.result
    (λ text. AreModernLines most content c.args.selectors.now page (Some (string_bytes text)))
    (FailsLonger (AreModernLines most content c.args.selectors.now page None))) c.in_ok-walk.ensures.page
    (subst (λ (selectors : List Selector). MatchResult c.lines_by.result
    (λ text. AreModernLines most content selectors c.in_ok-walk.walk.page (Some (string_bytes text)))
    (FailsLonger (AreModernLines most content selectors c.in_ok-walk.walk.page None)))
    (c.in_ok-walk.ensures.selectors ∙ map-id c.args.selectors.now) c.lines_by.ensures)
