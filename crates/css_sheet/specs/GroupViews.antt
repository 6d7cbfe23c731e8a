-- What contracts see of group rules.
use Rattle.css_sheet.specs.declared.groups.Group.{Group}
use Rattle.css_sheet.specs.declared.sheet_rules.GroupRule.{GroupRule}
use Rattle.css_sheet.specs.SheetItems.{GroupText}
use Rattle.css_sheet.specs.Sheets.{GroupRuleText}

abbrev pub group_text : Group → GroupText
group_text g = record {
  name = g.name.now;
  prelude = g.prelude.now;
  text = g.text.now;
}

abbrev pub group_rule_of : GroupRule → GroupRuleText
group_rule_of r = record {
  keyword = r.keyword.now;
  prelude = r.prelude.now;
  number = r.number;
}
