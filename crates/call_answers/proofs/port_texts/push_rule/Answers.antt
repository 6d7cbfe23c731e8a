use Rattle.std.proofs.Common.{◌++◌, string_bytes, length, refl, sym, ap, ◌∙◌}
use Rattle.std.proofs.lemmas.List.{length-map}
use Rattle.std.proofs.lemmas.Result.{on_ok_weaker}
use Rattle.simplecss.specs.DeclarationViews.{declaration_of, declarations_of}
use Rattle.simplecss.specs.RuleViews.{rule_of}
use Rattle.call_answers.specs.PortTexts.{declaration_texts}
use Rattle.call_answers.proofs.PortSteps.{rule_written}
use Rattle.call_answers.proofs.port_texts.push_rule.Goals as goal

pub returns : goal.returns
returns c =
    let declarations = c.args.rule.now.declarations.items in
    on_ok_weaker c.push_declarations.result
    (λ wrote. rule_written (rule_of c.args.rule.now) (string_bytes c.args.out.now)
    (string_bytes c.write.new.self) (string_bytes c.push_declarations.new.out)
    c.specificity.result c.as_str-selector.result.now _ _
    c.specificity.ensures (c.as_str-selector.ensures.value ∙ c.in_ok-printed.ensures.ok) refl
    (ap length c.as_slice-declarations.ensures.value ∙ sym (length-map declarations declaration_of))
    c.in_ok-write.ensures.bytes
    (wrote ∙ ap (λ ds. string_bytes c.write.new.self ++ declaration_texts (declarations_of ds))
    c.as_slice-declarations.ensures.value))
    c.push_declarations.ensures
