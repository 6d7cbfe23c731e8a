-- What contracts see of placed rules and declarations.
use Rattle.css_syntax.specs.Views.{prelude_of}
use Rattle.css_lint.specs.declared.placed_rules.DeclaringRule.{DeclaringRule}
use Rattle.css_lint.specs.declared.placed_rules.Setting.{Setting}
use Rattle.css_lint.specs.PlacedRules.{RuleAt, SetText}

abbrev pub set_of : Setting → SetText
set_of one = record {
  name = one.name.now;
  important = one.important;
  start = one.start;
  size = one.size;
}

abbrev pub rule_at : DeclaringRule → RuleAt
rule_at one = record {
  prelude = prelude_of one.prelude;
  start = one.start;
  text = one.text.now;
  end = one.end;
}
