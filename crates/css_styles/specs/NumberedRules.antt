-- Rules whose selectors ask lists by numbers: those that `&` stands for, and those of pseudo-classes such as
-- `:has()`.
use Rattle.std.specs.Prelude.{List, [], ◌∷◌}
use Rattle.css_selector_text.specs.Components.{Selector}
use Rattle.css_selectors.specs.Numberings.{NumberingText, no_lists, with_each_list, numbered_selector}
use Rattle.css_sheet.specs.SheetOrder.{SheetRuleText}

-- the rule with another selector
abbrev pub with_selector : SheetRuleText → Selector → SheetRuleText
with_selector rule selector = record {
  origin = rule.origin;
  layer = rule.layer;
  sheet = rule.sheet;
  start = rule.start;
  text = rule.text;
  selector = selector;
  pseudo_element = rule.pseudo_element;
  block = rule.block;
}

-- the rule with numbers in its selector, after these lists, and the lists with those that it adds
abbrev pub numbered_rule : NumberingText → SheetRuleText → SheetRuleText × NumberingText
numbered_rule lists rule = (
  with_selector rule (numbered_selector lists rule.selector).0,
  (numbered_selector lists rule.selector).1,
)

-- the same of rules, one after another
abbrev pub numbered_rules : NumberingText → List SheetRuleText → List SheetRuleText × NumberingText
numbered_rules lists [] = ([], lists)
numbered_rules lists (rule ∷ rules) = (
  (numbered_rule lists rule).0 ∷ (numbered_rules (numbered_rule lists rule).1 rules).0,
  (numbered_rules (numbered_rule lists rule).1 rules).1,
)

-- The rules of sheets with numbers in their selectors, and the lists of these numbers, where `&` stands for
-- lists of selectors that are numbered first.
abbrev pub numbered_sheets : (nested : List (List Selector)) → List SheetRuleText
    → List SheetRuleText × NumberingText
numbered_sheets nested rules = numbered_rules (with_each_list no_lists nested) rules
