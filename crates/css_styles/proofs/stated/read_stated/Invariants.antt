use Rattle.std.proofs.Common.{◌≡◌, ◌≤◌, ◌+◌, ◌++◌, length, map}
use Rattle.std.specs.List.{All}
use Rattle.css_sheet.specs.SheetRuleViews.{sheet_rule_of}
use Rattle.css_syntax.specs.ListReaders.{items_to_come}
use Rattle.css_styles.specs.Contenders.{declared_in, in_rule, in_turn, rule_declarations}
use Rattle.css_styles.specs.internal.Numbered.{IsMore, IsNumbered, numbered_of}
use Rattle.css_styles.proofs.stated.read_stated.Given as goal

-- Those so far with those of the items that are to come are all; and those so far have numbers.
abbrev pub invariant-items : goal.invariant-items
invariant-items l = record {
  come : map numbered_of l.stated.items
      ++ in_turn (in_rule l.rule_place (sheet_rule_of l.rule)) l.place (declared_in (items_to_come l.declarations))
      ≡ in_turn (in_rule l.rule_place (sheet_rule_of l.rule)) 0 (rule_declarations (sheet_rule_of l.rule));
  numbered : All (IsNumbered l.properties) l.stated.items;
  more : IsMore l.fn.properties l.properties;
  counted : l.place + length (items_to_come l.declarations) ≤ length l.rule.block.now;
}

abbrev pub decreases-items : goal.decreases-items
decreases-items l = length (items_to_come l.declarations)
