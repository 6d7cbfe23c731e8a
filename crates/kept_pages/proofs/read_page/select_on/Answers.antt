use Rattle.std.proofs.Common.{map, ap, subst, ◌∙◌}
use Rattle.css_selector_text.specs.NameViews.{prefix_of}
use Rattle.css_selector_text.specs.Names.{Names}
use Rattle.css_tree.specs.Pages.{Page, with_scope}
use Rattle.call_answers.specs.Calls.{declared_by}
use Rattle.call_answers.specs.Outcomes.{numbers_outcome}
use Rattle.page_calls.specs.Ranges.{IsRangeSelected}
use Rattle.kept_pages.specs.Pages.{scoped}
use Rattle.kept_pages.proofs.ReadPages.{scoped-same}
use Rattle.kept_pages.proofs.read_page.select_on.Goals as goal

pub returns-clause-answer : goal.returns-clause-answer
returns-clause-answer c =
    let asked = c.args.asked in
    let old = c.on-page.result in
    let new = c.set_scope.new.self in
    let outcome = numbers_outcome c.select_range-outcome.result in
    let same = scoped-same old new asked.scope c.set_scope.ensures.rows
    (c.set_scope.ensures.given ∙ ap (with_scope old.given) c.scope_of.ensures) c.set_scope.ensures.marks
    c.set_scope.ensures.html
    ∙ ap (λ page. scoped page asked.scope) c.on-page.ensures in
    subst (λ (page : Page). IsRangeSelected asked.most asked.range c.args.kind
    (declared_by (map (λ name. name.now) c.args.read.now.states.items)
    (map prefix_of c.args.read.now.prefixes.items)) asked.selectors.now page outcome) same
    (subst (λ (names : Names). IsRangeSelected asked.most asked.range c.args.kind names asked.selectors.now new outcome)
    c.names_in.ensures c.select_range-outcome.ensures.answer)
