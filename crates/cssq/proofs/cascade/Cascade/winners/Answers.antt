use Rattle.std.proofs.Common.{IfOk, sym, subst}
use Rattle.std.proofs.lemmas.Result.{IfOk-weaker}
use Rattle.simplecss.specs.DeclarationViews.{declarations_of}
use Rattle.cssq.specs.Winners.{IsStated, ListsInOrder, WinsForItsName}
use Rattle.cssq.proofs.BestIndices.{has_winners, own_names}
use Rattle.cssq.proofs.cascade.Cascade.winners.Given.{Over}
use Rattle.cssq.proofs.cascade.Cascade.winners.Goals.{After-drop-stated}
use Rattle.cssq.proofs.cascade.Cascade.winners.Goals as goal

-- what wins is listed in order
listed : (g : Over) (c : After-drop-stated g)
    → IfOk c.winners_of.result (λ all. ListsInOrder (WinsForItsName g.E.Element.tree
    (g.E.Element.node c.args.element.now) c.args.self.now) (declarations_of all.items))
listed g c =
    let tree = g.E.Element.tree in
    let n = g.E.Element.node c.args.element.now in
    let rules = c.args.self.now in
    let stated = subst (λ items. ListsInOrder (IsStated tree n rules) (declarations_of items))
    (sym c.deref.ensures.value) c.in_ok-stated.ensures.stated in
    IfOk-weaker c.winners_of.result _
    (λ all. ListsInOrder (WinsForItsName tree n rules) (declarations_of all.items))
    (λ all h. h n rules stated) c.winners_of.ensures

pub returns-clause-winners : goal.returns-clause-winners
returns-clause-winners g c =
    let has = IsStated g.E.Element.tree (g.E.Element.node c.args.element.now) c.args.self.now in
    IfOk-weaker c.winners_of.result _ _ (λ all. has_winners has (declarations_of all.items))
    (listed g c)

pub returns-clause-names : goal.returns-clause-names
returns-clause-names g c =
    let has = IsStated g.E.Element.tree (g.E.Element.node c.args.element.now) c.args.self.now in
    IfOk-weaker c.winners_of.result _ _ (λ all. own_names has (declarations_of all.items))
    (listed g c)
