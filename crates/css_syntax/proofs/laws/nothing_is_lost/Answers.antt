use Rattle.css_syntax.proofs.AllCutUp.{loses-no_item, loses-no_statement}
use Rattle.css_syntax.proofs.PartsCutUp.{loses-no_part, loses-no_rule_part}
use Rattle.css_syntax.proofs.laws.nothing_is_lost.Goals as goal

pub returns-clause-items : goal.returns-clause-items
returns-clause-items c = loses-no_item

pub returns-clause-statements : goal.returns-clause-statements
returns-clause-statements c = loses-no_statement

pub returns-clause-parts : goal.returns-clause-parts
returns-clause-parts c = loses-no_part

pub returns-clause-rule_parts : goal.returns-clause-rule_parts
returns-clause-rule_parts c = loses-no_rule_part
