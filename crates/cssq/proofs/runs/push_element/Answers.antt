use Rattle.std.proofs.Common.{map, sym, subst, arith}
use Rattle.std.proofs.lemmas.List.{get_or_default}
use Rattle.simplecss.specs.Matching.{AreMatches}
use Rattle.cssq_tree.specs.PageNodes.{spot, page_tree}
use Rattle.cssq.proofs.Among.{index_within}
use Rattle.cssq.proofs.runs.push_element.Goals.{After-as_slice}
use Rattle.cssq.proofs.runs.push_element.Goals as goal

-- the indices are those of the rules that match the element
found : (c : After-as_slice)
    → AreMatches page_tree (spot c.args.page.now c.args.element)
    (map (λ rule. rule.selector) c.args.rules.now) c.as_slice.result.now
found c =
    subst (λ selectors. AreMatches page_tree (spot c.args.page.now c.args.element) selectors
    c.as_slice.result.now) c.requires.index
    (subst (AreMatches page_tree (spot c.args.page.now c.args.element) c.args.index.now)
    (sym c.as_slice.ensures.value) c.in_ok-matching.ensures.matches)

pub push_answer-requires-clause-within : goal.push_answer-requires-clause-within
push_answer-requires-clause-within c = λ k d within.
    let at = index_within page_tree _ c.args.rules.now _
    (found (goal.at.push_answer-requires-clause-within c).After-as_slice) k within in
    let same = get_or_default c.as_slice.result.now k d 0 within in
    omega (arith, at, same)

pub returns-clause-reported : goal.returns-clause-reported
returns-clause-reported c =
    c.push_answer.ensures c.args.page.now (found (goal.at.returns-clause-reported c).After-as_slice)
