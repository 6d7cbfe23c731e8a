use Rattle.std.proofs.Common.{ℕ, map, ap, ◌∙◌, arith, get_or}
use Rattle.css_cascade.specs.LayerViews.{known_of}
use Rattle.css_cascade.specs.Layers.{place_of}
use Rattle.css_sheet.specs.SheetOrder.{ranked}
use Rattle.css_sheet.specs.SheetRuleViews.{sheet_of, sheet_rule_of}
use Rattle.css_sheet.proofs.WrittenItems.{written-more, written-others}
use Rattle.css_sheet.proofs.sheet_order.rank.Goals as goal

pub rules-preserved : goal.rules-preserved
rules-preserved c =
    let items = c.rules.rule-items in
    let index = c.rules.rule-index in
    let known = known_of c.args.layers.now in
    let sheets = map sheet_of c.args.sheets.now in
    let item = get_or items index c.rule-item.result in
    let same = c.rules.invariant.others in
    record {
      done = written-more index items _ same sheet_rule_of (ranked known sheets) _
          c.rule-item.result (omega (arith, c.rules-test.true, c.rules.auto.rule-items))
          c.rules.invariant.done
          (ap (λ layer. record (sheet_rule_of item) { origin = c.origin_at-rule.result; layer = layer })
          c.rank-rule.ensures
          ∙ ap (λ origin. record (sheet_rule_of item) {
            origin = origin;
            layer = place_of (sheet_rule_of item).layer known;
          }) c.origin_at-rule.ensures);
      others = written-others index items _ same _;
    }
