use Rattle.std.proofs.Common.{◌≡◌, IfOk, true, map, sym, subst}
use Rattle.std.proofs.lemmas.Result.{IfOk-weaker}
use Rattle.css_selector_text.specs.Components.{conditions_from}
use Rattle.css_selector_text.specs.Views.{condition_of}
use Rattle.css_selectors.specs.Meanings.{AreMet, Matches}
use Rattle.css_tree.specs.Html.{condition_in, html_selector}
use Rattle.css_tree.specs.declared.html.HtmlMode.TheVariants.{NoQuirks}
use Rattle.simplecss_calls.proofs.FirstConditions.{last_read}
use Rattle.simplecss_calls.proofs.tested.is_passed_over.Goals as goal

pub returns-in-NoQuirks : goal.returns-in-NoQuirks
returns-in-NoQuirks g c =
    let d = g.E.Element.document in
    let n = g.E.Element.node c.args.element.now in
    let s = c.args.selector.now in
    subst (λ mode. IfOk c.lacks_first.result (λ passed. passed ≡ true → ¬ Matches d (html_selector mode s) n))
    (sym c.in-NoQuirks.is)
    (IfOk-weaker c.lacks_first.result
    (λ lacks. lacks ≡ true → ¬ AreMet d (conditions_from (map (condition_in NoQuirks)
    (map condition_of c.last_conditions.result.now))) n)
    (λ passed. passed ≡ true → ¬ Matches d (html_selector NoQuirks s) n)
    (λ passed lacks yes m. lacks yes (subst (λ cs. AreMet d (conditions_from (map (condition_in NoQuirks) cs)) n)
    (sym c.last_conditions.ensures) (last_read d n NoQuirks s m)))
    c.lacks_first.ensures)
