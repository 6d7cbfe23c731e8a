use Rattle.std.proofs.Common.{◌+◌, get_or, refl, sym, subst, arith}
use Rattle.std.proofs.lemmas.List.Elements.{Contains-get_or}
use Rattle.std.proofs.lemmas.Option.{slice_get_within}
use Rattle.std.proofs.lemmas.Result.{on_ok_weaker}
use Rattle.css_matching.specs.ListTrees.{spot}
use Rattle.css_index.specs.Found.{AreMatches}
use Rattle.css_tree.specs.Pages.{page_document}
use Rattle.call_answers.specs.AnswerLines.{indices_line}
use Rattle.page_calls.proofs.modern.pages.push_line.Goals.{After-as_slice}
use Rattle.page_calls.proofs.modern.pages.push_line.Goals as goal

-- the indices are those of the selectors that match the element
found : (c : After-as_slice)
    → AreMatches page_document (spot c.args.walk.now.page c.args.element) c.args.walk.now.walk.selectors
    c.as_slice.result.now
found c =
    subst (AreMatches page_document (spot c.args.walk.now.page c.args.element)
    c.args.walk.now.walk.selectors) (sym c.as_slice.ensures.value) c.in_ok-matching.ensures.matches

pub push_indices-requires : goal.push_indices-requires
push_indices-requires c = λ k d within.
    let indices = c.as_slice.result.now in
    let bound = c.requires.fits in
    let there = ((found c).exactly (get_or indices k d)).0 (Contains-get_or indices k d within) in
    let less = slice_get_within c.args.walk.now.walk.selectors (get_or indices k d) there.0 there.1 in
    omega (arith, bound, less)

pub returns-clause-written : goal.returns-clause-written
returns-clause-written c =
    let indices = c.as_slice.result.now in
    on_ok_weaker c.push_indices.result (λ wrote. (
      indices_line c.args.content (c.args.element + 1) indices,
      (indices, found (goal.at.returns-clause-written c).After-as_slice, refl),
      wrote,
    )) c.push_indices.ensures
