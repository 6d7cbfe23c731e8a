use Rattle.std.proofs.Common.{◌++◌, ◌∙◌, Some, ap, append-nil, map, sym}
use Rattle.std.proofs.lemmas.Option.{slice_get-get_or, slice_get_past}
use Rattle.css_styles.specs.Contenders.{declared_in, in_rule, in_turn}
use Rattle.css_sheet.specs.SheetRuleViews.{sheet_rule_of}
use Rattle.css_explain.specs.internal.Parts.{contender_of}
use Rattle.css_explain.proofs.GatherLemmas.{at-none, at-plain, at-pseudo, then-ok}
use Rattle.css_explain.proofs.gathering.push_rule.Goals as goal

pub returns-in_default : goal.returns-in_default
returns-in_default c =
    let old = map contender_of c.args.found.now.items in
    sym (append-nil old) ∙ sym (ap (λ cs. old ++ cs) (at-none c.args.rules.now c.args.index
    (slice_get_past c.args.rules.now c.args.index c.in_default.ensures.lookup.3)))

pub returns-then-is_some : goal.returns-then-is_some
returns-then-is_some c =
    let rule = c.in-Some.rule.now in
    let old = map contender_of c.args.found.now.items in
    sym (append-nil old)
    ∙ sym (ap (λ cs. old ++ cs)
    (at-pseudo c.args.rules.now c.args.index rule
    (slice_get-get_or c.args.rules.now c.args.index rule c.in-Some.ensures.lookup.3.0
    ∙ ap Some (sym c.in-Some.ensures.lookup.1)) (sym c.is_some.ensures ∙ c.if-is_some.true)))

pub returns : goal.returns
returns c =
    let rules = c.args.rules.now in
    let rule = c.in-Some.rule.now in
    let old = map contender_of c.args.found.now.items in
    let turn = in_turn (in_rule c.args.index (sheet_rule_of rule)) 0 in
    then-ok c.push_part.result
    (λ pushed. pushed
    ∙ ap (λ is. old ++ turn (declared_in is)) c.of_block-declarations.ensures.to_come
    ∙ sym (ap (λ cs. old ++ cs)
    (at-plain rules c.args.index rule
    (slice_get-get_or rules c.args.index rule c.in-Some.ensures.lookup.3.0
    ∙ ap Some (sym c.in-Some.ensures.lookup.1)) (sym c.is_some.ensures ∙ c.if-is_some.false))))
    c.push_part.ensures
