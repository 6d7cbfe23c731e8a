use Rattle.std.proofs.Common.{Some, ℕ, length, reverse, sym, ◌∙◌, subst, arith}
use Rattle.css_index.specs.Walks.{IsOpenTo}
use Rattle.css_tree.specs.Pages.{Page, page_document}
use Rattle.css_tree.specs.Walks.{IsOpenAt}
use Rattle.css_tree.specs.Reports.{reported_of}
use Rattle.css_elements.specs.Ways.{LeadsTo}
use Rattle.css_elements.proofs.Walking.{leads_pop, none_left, node_is, node_there}
use Rattle.css_tree.proofs.Walking.{open_above}
use Rattle.css_tree.proofs.tree_walk.Opened.open_all.Goals as goal

pub unwrap-node-requires : goal.unwrap-node-requires
unwrap-node-requires c =
    let pop = leads_pop c.args.page.now.rows c.opens.between.items c.pop.new.self.items c.in-Some.index
    c.opens.self.place c.args.element c.in-Some.ensures.items c.opens.invariant.leads in
    node_there c.args.page.now (length c.args.page.now.rows) c.in-Some.index c.node.result pop.0 c.node.ensures

pub opens-preserved : goal.opens-preserved
opens-preserved c =
    let page = c.args.page.now in
    let index = c.in-Some.index in
    let pop = leads_pop page.rows c.opens.between.items c.pop.new.self.items index
    c.opens.self.place c.args.element c.in-Some.ensures.items c.opens.invariant.leads in
    let node = node_is page (length page.rows) index c.node.result c.unwrap-node.result c.unwrap-node.ensures
    c.node.ensures in
    let opened = c.in_ok-enter.ensures.opened (open_above page c.opens.self.walk c.opens.self.place
    index c.unwrap-node.result c.opens.invariant.opened (sym pop.1) node) in
    record {
      opened = record {
        within = pop.0;
        opened = subst (λ n. IsOpenTo {Node = Page × ℕ} {Self = Page × ℕ} page_document (λ n. n)
            reported_of c.enter.new.self (Some n)) node opened;
      };
      selectors = c.in_ok-enter.ensures.selectors ∙ c.opens.invariant.selectors;
      leads = pop.2;
    }

pub returns-in_err-enter-clause-opened : goal.returns-in_err-enter-clause-opened
returns-in_err-enter-clause-opened c =
    subst (λ walk. IsOpenAt c.args.page.now walk c.opens.self.place) (sym c.in_err-enter.ensures.err)
    c.opens.invariant.opened

pub returns-clause-place : goal.returns-clause-place
returns-clause-place c =
    subst (λ xs. LeadsTo c.args.page.now.rows c.opens.self.place (reverse xs) c.args.element)
    (none_left c.opens.between.items (omega (arith, c.in_default.ensures.cases.0, c.opens.between.ok.0)))
    c.opens.invariant.leads
