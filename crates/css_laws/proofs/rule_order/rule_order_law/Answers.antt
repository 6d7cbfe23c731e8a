use Rattle.css_laws.proofs.OrderLemmas.{rule_beats}
use Rattle.css_laws.proofs.rule_order.rule_order_law.Goals as goal

pub returns : goal.returns
returns c = rule_beats
