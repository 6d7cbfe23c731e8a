use Rattle.std.proofs.Common.{◌∙◌, ap, arith, length, map, rules, of_calls}
use Rattle.std.proofs.lemmas.Fn.{always_returns_same}
use Rattle.css_text.specs.Ranks.{ordered_by}
use Rattle.css_sheet.specs.SheetLayers.{sheet_layers}
use Rattle.css_sheet.specs.SheetOrder.{is_before, numbered_rules, ranked, rule_key}
use Rattle.css_sheet.specs.SheetRuleViews.{sheet_of, sheet_rule_of}
use Rattle.css_sheet.proofs.SheetRuleLemmas.{ranked-declarations, sorted-rules}
use Rattle.css_sheet.proofs.sheet_order.read_sheets.Goals as goal

-- std's stable sort by the keys
pub returns-clause-rules : goal.returns-clause-rules
returns-clause-rules g c = λ answers k.
    let read = c.in_ok-read.ensures.gathers answers k in
    sorted-rules c.rank.new.rules.items c.sort_by_cached_key.new.self.items
    c.in_ok-sort_by_cached_key.ensures.permutation
    (c.in_ok-sort_by_cached_key.ensures.sorted (λ rule. rule_key (sheet_rule_of rule))
    (always_returns_same _ _ _ (λ a r f w. search (rules, of_calls))))
    (c.in_ok-sort_by_cached_key.ensures.stable (λ rule. rule_key (sheet_rule_of rule))
    (always_returns_same _ _ _ (λ a r f w. search (rules, of_calls))))
    ∙ ap (ordered_by is_before) (c.rank.ensures
    ∙ ap (λ known. map (ranked known (map sheet_of c.args.sheets.now)) (map sheet_rule_of c.in_ok-read.read.gathered.rules.items)) read.0
    ∙ ap (map (ranked _ (map sheet_of c.args.sheets.now))) read.1)

pub returns-clause-within : goal.returns-clause-within
returns-clause-within g c = λ answers k.
    let read = c.in_ok-read.ensures.gathers answers k in
    let left = read.3 in
    let sheets = map sheet_of c.args.sheets.now in
    let same = ranked-declarations (sheet_layers answers sheets) sheets (numbered_rules answers sheets) in
    omega (arith, left, same)

pub returns-clause-few_layers : goal.returns-clause-few_layers
returns-clause-few_layers g c = λ answers k.
    let all = ap length (c.in_ok-read.ensures.gathers answers k).0 in
    let few = c.in_ok-read.ensures.few in
    omega (arith, all, few)
