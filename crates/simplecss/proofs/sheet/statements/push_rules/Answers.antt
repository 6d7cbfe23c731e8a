use Rattle.std.proofs.Common.{◌++◌, ◌∷◌, [], map, sym, ap, ◌∙◌, append_assoc}
use Rattle.std.proofs.lemmas.List.{map-append}
use Rattle.simplecss_declaration.specs.DeclarationViews.{declaration_of}
use Rattle.simplecss.specs.declared.sheet.rules.Rule.{Rule}
use Rattle.simplecss.specs.RuleViews.{rule_of}
use Rattle.simplecss.specs.internal.SharedBlocks.{rule_with}
use Rattle.simplecss.proofs.sheet.statements.push_rules.Goals as goal

pub selectors-preserved : goal.selectors-preserved
selectors-preserved c =
    let old = map rule_of c.args.rules.now.items in
    let before = c.selectors.rules.items in
    let given = rule_with (map declaration_of c.args.declarations.now) in
    let selector = c.in-Some.selector in
    let rule : Rule =
    record { selector = selector; declarations = c.in_ok-declarations.declarations } in
    ap (map rule_of) c.in_ok-push.ensures.items ∙ map-append rule_of before (rule ∷ [])
    ∙ ap (λ all. map rule_of before ++ rule_with (map declaration_of all) selector ∷ [])
    c.in_ok-declarations.ensures.items
    ∙ ap (λ l. l ++ given selector ∷ []) c.selectors.invariant
    ∙ append_assoc old (map given c.selectors.yielded) (given selector ∷ [])
    ∙ ap (λ l. old ++ l) (sym (map-append given c.selectors.yielded (selector ∷ [])))
