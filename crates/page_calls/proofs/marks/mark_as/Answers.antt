use Rattle.std.proofs.Common.{◌≡◌, List, MatchResult, map, ap, sym, subst, ◌∙◌}
use Rattle.std.proofs.lemmas.List.{map-id}
use Rattle.css_selectors.specs.MarkedLists.{ListText, list_of}
use Rattle.css_tree.specs.Marks.{AreMarked, with_marks}
use Rattle.call_answers.specs.declared.answer.CallError.TheVariants.{Memory}
use Rattle.page_calls.specs.MarkedPages.{list_as}
use Rattle.page_calls.proofs.marks.mark_as.Goals as goal

pub returns-in-AsWritten-clause-answers : goal.returns-in-AsWritten-clause-answers
returns-in-AsWritten-clause-answers c =
    let before = c.args.page.now in
    let page = c.mark_lists.new.page in
    let lists = map list_of c.args.lists.now in
    subst (λ (all : List ListText). MatchResult c.mark_lists.result
    (λ _. (page ≡ with_marks before page.marks) × AreMarked all page) (λ failure. failure ≡ Memory))
    (sym (ap (λ kind. map (list_as kind) lists) c.in-AsWritten.is ∙ map-id lists))
    c.mark_lists.ensures.answers

pub returns-in_ok-lists-in-Html-clause-answers : goal.returns-in_ok-lists-in-Html-clause-answers
returns-in_ok-lists-in-Html-clause-answers c =
    let before = c.args.page.now in
    let page = c.mark_lists-in-Html.new.page in
    let lists = map list_of c.args.lists.now in
    subst (λ (all : List ListText). MatchResult c.mark_lists-in-Html.result
    (λ _. (page ≡ with_marks before page.marks) × AreMarked all page) (λ failure. failure ≡ Memory))
    (ap (map list_of) c.deref.ensures.value ∙ c.in_ok-lists-in-Html.ensures
    ∙ sym (ap (λ kind. map (list_as kind) lists) c.in-Html.is))
    c.mark_lists-in-Html.ensures.answers
