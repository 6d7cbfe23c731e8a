use Rattle.std.proofs.Common.{length, ◌∙◌}
use Rattle.std.proofs.lemmas.List.{length-map}
use Rattle.simplecss.specs.RuleViews.{rule_of, rules_of}
use Rattle.simplecss.specs.internal.RuleOrders.{no_rule, IsOrder, OrdersRules}
use Rattle.simplecss.proofs.RuleMoves.{moved_map}
use Rattle.simplecss.proofs.sheet.order.sort_rules.Goals as goal

pub arrange-requires-clause-order : goal.arrange-requires-clause-order
arrange-requires-clause-order c =
    let here = c.in_ok-order.ensures in
    let all : OrdersRules (rules_of c.args.rules.now.items) c.in_ok-order.order.items =
    rw c.deref.ensures.value at here in
    let slice : OrdersRules (rules_of c.args.rules.now.items) c.as_slice.result.now =
    rw c.as_slice.ensures.value all in
    rw (length-map c.args.rules.now.items rule_of) at slice.order

pub returns-clause-ok : goal.returns-clause-ok
returns-clause-ok c =
    let here = c.in_ok-order.ensures in
    let all : OrdersRules (rules_of c.args.rules.now.items) c.in_ok-order.order.items =
    rw c.deref.ensures.value at here in
    let slice : OrdersRules (rules_of c.args.rules.now.items) c.as_slice.result.now =
    rw c.as_slice.ensures.value all in
    let order : IsOrder (length c.args.rules.now.items) c.as_slice.result.now =
    rw (length-map c.args.rules.now.items rule_of) at slice.order in
    moved_map rule_of no_rule c.args.rules.now.items c.arrange.new.rules.items c.as_slice.result.now
    order c.arrange.ensures.len c.arrange.ensures.moved
    ∙ slice.gives
