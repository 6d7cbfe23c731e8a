use Rattle.std.proofs.Common.{length, map, refl, sym, subst}
use Rattle.std.specs.Prelude.{All}
use Rattle.std.proofs.lemmas.List.{length-map, map-id}
use Rattle.css_selectors.specs.MarkedLists.{list_of}
use Rattle.css_tree.specs.Answered.{IsMarkedFor, SelectorIsAnswered}
use Rattle.css_tree.proofs.AnsweredLemmas.{marked-for, numbered-answered}
use Rattle.css_inline.proofs.deciding.decide.Goals as goal

-- the page is marked with the lists that numbering has made
pub new-requires : goal.new-requires
new-requires c = λ lifetimes. (
  (refl, (refl, tt)),
  subst (λ selectors. IsMarkedFor selectors c.mark.new.self) (sym (map-id c.deref.result.now))
      (marked-for (map list_of c.lists.result.now) c.deref.result.now c.mark.new.self c.in_ok-mark.ensures.marks
      (subst (λ n. All (SelectorIsAnswered n) c.deref.result.now) (sym (length-map c.lists.result.now list_of))
      (numbered-answered c.new-numbering.result c.number_all.new.self c.args.selectors.items
      c.in_ok-selectors.selectors.items c.deref.result.now c.lists.result.now c.new-numbering.ensures.lists
      c.new-numbering.ensures.numbers c.in_ok-selectors.ensures c.deref.ensures.value c.lists.ensures))),
)
