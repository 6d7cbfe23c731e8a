use Rattle.std.proofs.Common.{◌≡◌, ◌++◌, ℕ, List, length, map, sym, ap, ◌∙◌}
use Rattle.std.proofs.lemmas.List.{length-map}
use Rattle.std.proofs.lemmas.Result.{IfOk-weaker}
use Rattle.css_explain.specs.ExplainViews.{explained_of}
use Rattle.css_explain.specs.Explanations.{explanation}
use Rattle.css_sheet.specs.SheetRuleViews.{sheet_rule_of}
use Rattle.css_styles.specs.Contenders.{OwnText}
use Rattle.css_styles.specs.StyleViews.{own_of as own_text}
use Rattle.page_calls.specs.Readings.{selector_as}
use Rattle.simplecss_calls.specs.ExplainNumbers.{IsExplainedBy, explained_line}
use Rattle.simplecss_calls.specs.WinnerNumbers.{own_at, selectors_read}
use Rattle.simplecss_calls.specs.internal.Contents.{names_of_asked as names_of, own_of_asked as own_of}
use Rattle.simplecss_calls.proofs.explained.push_tested.Goals as goal

pub returns : goal.returns
returns c =
    let all = map sheet_rule_of c.args.rules.now in
    let names = names_of c.args.asked in
    let indices = c.find_matching.new.indices.items in
    let line = explained_line (length c.args.rules.now) (map explained_of c.deref-2.result.now) in
    let said : line ≡ explained_line (length all) (explanation all indices (own_at (own_of c.args.asked)
    c.args.element) names) =
    ap (explained_line (length c.args.rules.now)) (ap (map explained_of) c.deref-2.ensures.value
    ∙ c.in_ok-all.ensures
    ∙ ap (λ (found : List ℕ). explanation all found (own_text c.own_at-own.result) names) c.deref.ensures.value
    ∙ ap (λ (own : OwnText). explanation all indices own names) c.own_at-own.ensures)
    ∙ ap (λ count. explained_line count (explanation all indices (own_at (own_of c.args.asked)
    c.args.element) names)) (sym (length-map c.args.rules.now sheet_rule_of)) in
    IfOk-weaker c.push_line.result
    (λ _. c.push_line.new.out.items ≡ c.args.out.now.items ++ line)
    (λ _. (numbers : List ℕ) × IsExplainedBy names (own_of c.args.asked) (selectors_read
    (selector_as c.args.kind) all) all c.args.page.now c.args.element numbers
    × (c.push_line.new.out.items ≡ c.args.out.now.items ++ numbers))
    (λ _ pushed. (line, (indices, c.in_ok-find_matching.ensures, said), pushed))
    c.push_line.ensures
