use Rattle.std.proofs.Common.{map, sym, ap, ◌∙◌}
use Rattle.std.proofs.lemmas.List.{map-id}
use Rattle.simplecss.specs.SelectorLists.{list_of}
use Rattle.simplecss.specs.ThisEdition.{this_edition}
use Rattle.call_answers.specs.Calls.{passed_of}
use Rattle.port_calls.proofs.PageCalls.{select_due}
use Rattle.port_calls.proofs.port.select.Goals as goal

pub returns : goal.returns
returns c =
    select_due c.args.most c.args.text.now (passed_of c.args.tree)
    c.in_ok-selectors.selectors.items c.in_ok-tree.tree
    c.in_ok-text.ensures.1 (ap (list_of this_edition) (sym c.in_ok-text.ensures.0)
    ∙ c.in_ok-selectors.ensures) c.in_ok-tree.ensures.0 c.in_ok-tree.ensures.1
    (map (λ selector. selector) c.deref.result.now)
    (map-id c.deref.result.now ∙ c.deref.ensures.value)
    c.lines.result c.lines.ensures
