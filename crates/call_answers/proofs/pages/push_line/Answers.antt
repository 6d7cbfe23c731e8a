use Rattle.std.proofs.Common.{◌+◌, map, refl, sym, subst, arith}
use Rattle.std.proofs.lemmas.List.{get_or_default, length-map}
use Rattle.std.proofs.lemmas.Result.{on_ok_weaker}
use Rattle.simplecss.specs.ListTrees.{spot}
use Rattle.simplecss.specs.Matching.{AreMatches}
use Rattle.simplecss_tree.specs.TreeNodes.{element_tree}
use Rattle.cssq.proofs.Indexed.{wanted_at}
use Rattle.call_answers.specs.AnswerLines.{indices_line}
use Rattle.call_answers.proofs.pages.push_line.Given.{Over}
use Rattle.call_answers.proofs.pages.push_line.Goals.{After-as_slice}
use Rattle.call_answers.proofs.pages.push_line.Goals as goal

-- the indices are those of the selectors that match the element
found : (g : Over) (c : After-as_slice g)
    → AreMatches element_tree (spot c.args.tree.now c.args.element)
    (map g.T.HasSelector.selector_in c.args.rules.now) c.as_slice.result.now
found g c =
    subst (λ selectors. AreMatches element_tree (spot c.args.tree.now c.args.element) selectors
    c.as_slice.result.now) c.requires.rules
    (subst (AreMatches element_tree (spot c.args.tree.now c.args.element) c.args.walk.now.selectors)
    (sym c.as_slice.ensures.value) c.in_ok-matching.ensures.matches)

pub push_indices-requires : goal.push_indices-requires
push_indices-requires g c = λ k d within.
    let bound = c.requires.fits in
    let at = (wanted_at (found g c) k within).0 in
    let same = get_or_default c.as_slice.result.now k d 0 within in
    let all = length-map c.args.rules.now g.T.HasSelector.selector_in in
    omega (arith, bound, at, same, all)

pub returns-clause-written : goal.returns-clause-written
returns-clause-written g c =
    let indices = c.as_slice.result.now in
    let are = found g (goal.at.returns-clause-written g c).After-as_slice in
    on_ok_weaker c.push_indices.result (λ wrote. (
      indices_line c.args.content (c.args.element + 1) indices,
      (indices, are, refl),
      wrote,
    )) c.push_indices.ensures
