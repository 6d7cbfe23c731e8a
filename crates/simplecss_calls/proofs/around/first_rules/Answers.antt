use Rattle.std.proofs.Common.{sym}
use Rattle.std.specs.List.{take-map}
use Rattle.css_sheet.specs.GroupViews.{group_rule_of}
use Rattle.simplecss_calls.proofs.around.first_rules.Goals as goal

pub returns-then-count-rules : goal.returns-then-count-rules
returns-then-count-rules c = sym (take-map group_rule_of c.args.count c.args.rules.now)
