use Rattle.std.proofs.Common.{length, sym, ◌∙◌, subst, arith}
use Rattle.simplecss_tree.specs.Walks.{IsOpenAt}
use Rattle.css_elements.proofs.Walking.{leads_pop, none_left, node_is, node_there, same_end}
use Rattle.simplecss_tree.proofs.Walking.{open_above, entered}
use Rattle.simplecss_tree.proofs.rule_walk.Opened.open_all.Goals as goal

pub unwrap-node-requires : goal.unwrap-node-requires
unwrap-node-requires c =
    let rows = c.args.tree.now in
    let pop = leads_pop rows c.opens.between.items c.pop.new.self.items c.in-Some.next
    c.opens.self.place c.args.element c.in-Some.ensures.items c.opens.invariant.leads in
    node_there rows (length rows) c.in-Some.next c.node.result pop.0 c.node.ensures

pub opens-preserved : goal.opens-preserved
opens-preserved c =
    let rows = c.args.tree.now in
    let next = c.in-Some.next in
    let pop = leads_pop rows c.opens.between.items c.pop.new.self.items next
    c.opens.self.place c.args.element c.in-Some.ensures.items c.opens.invariant.leads in
    let node = node_is rows (length rows) next c.node.result c.unwrap-node.result
    c.unwrap-node.ensures c.node.ensures in
    let opened = c.in_ok-enter.ensures.opened (open_above rows c.opens.self.path c.opens.self.place
    next c.unwrap-node.result c.opens.invariant.opened (sym pop.1) node) in
    record {
      opened = entered rows c.enter.new.self next c.unwrap-node.result pop.0 node opened;
      selectors = c.in_ok-enter.ensures.index ∙ c.opens.invariant.selectors;
      leads = pop.2;
    }

pub returns-clause-place : goal.returns-clause-place
returns-clause-place c =
    same_end c.args.tree.now c.opens.between.items c.opens.self.place c.args.element
    (none_left c.opens.between.items (omega (arith, c.in_default.ensures.cases.0, c.opens.between.ok.0)))
    c.opens.invariant.leads

pub returns-clause-opened : goal.returns-clause-opened
returns-clause-opened c =
    subst (IsOpenAt c.args.tree.now c.opens.self.path)
    (same_end c.args.tree.now c.opens.between.items c.opens.self.place c.args.element
    (none_left c.opens.between.items (omega (arith, c.in_default.ensures.cases.0, c.opens.between.ok.0)))
    c.opens.invariant.leads) c.opens.invariant.opened
