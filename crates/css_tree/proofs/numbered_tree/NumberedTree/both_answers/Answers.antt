use Rattle.std.proofs.Common.{◌≡◌, ◌<◌, ◌↔◌, IsTrue, false, get_or, length, map, ap, sym, subst, ◌∙◌}
use Rattle.css_selectors.specs.MarkedLists.{list_of}
use Rattle.css_tree.specs.Marks.{IsMarkedBy, with_marks}
use Rattle.css_tree.proofs.MarkLemmas.{others_outside}
use Rattle.css_tree.proofs.numbered_tree.NumberedTree.both_answers.Goals as goal
use Rattle.css_tree.proofs.numbered_tree.NumberedTree.both_answers.Goals.{then-differ+in_ok-own, else-differ+in_ok-own-2}

-- a list that is not of `:has()` has the same elements, whatever the marks inside of it
pub returns-clause-each : goal.returns-clause-each
returns-clause-each c i within =
    let page = c.args.self.now in
    let list = list_of c.args.list.now in
    let marks = map (λ answers. answers.items) c.args.inside.now.items in
    let inside = with_marks page marks in
    let other = others_outside list (sym c.is_of_has.ensures ∙ c.if-is_of_has.false) page inside i in
    elim c.if-differ.branch [
      | then-differ+in_ok-own w ↦
          (let own = ap (λ v. v.items) w.own-is in
          let same = c.answers_by.ensures.page in
          let a = subst (λ p. IsTrue (get_or w.in_ok-own.own.items i false) ↔ IsMarkedBy list p p i) same
          (w.in_ok-own.ensures.each i (subst (λ p. i < length p.rows) (sym same) within)) in
          let b = subst (λ items. IsTrue (get_or items i false) ↔ IsMarkedBy list page page i) (sym own) a in
          (λ h. other.0 (b.0 h), λ h. b.1 (other.1 h)))
      | else-differ+in_ok-own-2 w ↦
          (let own = ap (λ v. v.items) w.own-is ∙ w.in_ok-own-2.ensures.items ∙ w.deref.ensures.value in
          let a = subst (λ items. IsTrue (get_or items i false) ↔ IsMarkedBy list inside inside i) (sym own)
          (c.in_ok-inner.ensures.each i within) in
          subst (λ m. IsTrue (get_or c.if-differ.own.items i false)
          ↔ IsMarkedBy list (with_marks page m) inside i) (c.requires w.if-differ.false) a)
    ]
