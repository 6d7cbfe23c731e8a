use Rattle.std.proofs.Common.{map, refl, sym, subst, arith}
use Rattle.std.proofs.lemmas.List.{get_or_default}
use Rattle.simplecss.specs.ListTrees.{spot}
use Rattle.simplecss.specs.Matching.{AreMatches}
use Rattle.simplecss_tree.specs.TreeNodes.{element_tree}
use Rattle.cssq.proofs.Among.{index_within}
use Rattle.call_answers.proofs.pages.push_won.Goals.{After-as_slice}
use Rattle.call_answers.proofs.pages.push_won.Goals as goal

-- the indices are those of the rules that match the element
found : (c : After-as_slice)
    → AreMatches element_tree (spot c.args.tree.now c.args.element)
    (map (λ rule. rule.selector) c.args.rules.now) c.as_slice.result.now
found c =
    subst (λ selectors. AreMatches element_tree (spot c.args.tree.now c.args.element) selectors
    c.as_slice.result.now) c.requires.rules
    (subst (AreMatches element_tree (spot c.args.tree.now c.args.element) c.args.walk.now.selectors)
    (sym c.as_slice.ensures.value) c.in_ok-matching.ensures.matches)

pub push_among-requires : goal.push_among-requires
push_among-requires c = λ k d within.
    let at = index_within element_tree _ c.args.rules.now _
    (found (goal.at.push_among-requires c).After-as_slice) k within in
    let same = get_or_default c.as_slice.result.now k d 0 within in
    omega (arith, at, same)

pub returns-clause-written : goal.returns-clause-written
returns-clause-written c =
    c.push_among.ensures c.args.tree.now c.args.element refl
    (found (goal.at.returns-clause-written c).After-as_slice)
