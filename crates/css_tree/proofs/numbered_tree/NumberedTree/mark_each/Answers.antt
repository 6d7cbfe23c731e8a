use Rattle.std.proofs.Common.{◌≡◌, ◌<◌, ◌+◌, ◌∷◌, ◌++◌, List, Bool, false, [], length, map, take, refl, ap, sym, subst, ◌∙◌}
use Rattle.std.proofs.lemmas.List.{map-append, map_more}
use Rattle.css_selectors.specs.MarkedLists.{list_of}
use Rattle.css_tree.proofs.MarkLemmas.{AreMarkedWith, marked_more, none_marked}
use Rattle.css_tree.proofs.numbered_tree.NumberedTree.mark_each.Goals as goal
use Rattle.css_tree.proofs.numbered_tree.NumberedTree.mark_each.Goals.{then-differ, else-differ}

pub loop-list-init : goal.loop-list-init
loop-list-init c =
    let none = ap (map (λ answers. answers.items)) c.new-inside.ensures.items in
    record {
      rows = refl;
      given = refl;
      html = refl;
      marks = subst (λ (marks : List (List Bool)). AreMarkedWith marks [] c.args.self.now) (sym none)
          (none_marked c.args.self.now c.requires);
      same = λ h. none ∙ sym c.requires;
    }

pub loop-list-preserved : goal.loop-list-preserved
loop-list-preserved c =
    let i = c.loop-list.list-index in
    let lists = c.args.lists.now in
    let old = c.loop-list.invariant in
    let page = c.loop-list.self in
    let new = c.push_answers.new.self in
    let marks = map (λ answers. answers.items) c.loop-list.inside.items in
    let own = c.in_ok-own.own.items in
    let inner = c.in_ok-own.inner.items in
    let both = c.in_ok-own.ensures in
    let pushed = c.push_answers.ensures in
    let is = c.both_answers.ensures.page in
    let rows = pushed.rows ∙ ap (λ p. p.rows) is in
    let given = pushed.given ∙ ap (λ p. p.given) is in
    let html = pushed.html ∙ ap (λ p. p.is_html) is in
    let added = c.in_ok-push_answers.ensures.marks ∙ ap (λ p. p.marks ++ own ∷ []) is in
    let more = map_more list_of lists i c.list-item.result c.loop-list-test.true
    ∙ ap (λ list. map list_of (take i lists) ++ list_of list ∷ []) (sym c.list-item.is) in
    let inside = ap (map (λ answers. answers.items)) (c.in_ok-push.ensures.items
    ∙ ap (λ all. all ++ c.in_ok-own.inner ∷ []) c.both_answers.ensures.marks)
    ∙ map-append (λ answers. answers.items) c.loop-list.inside.items (c.in_ok-own.inner ∷ []) in
    record {
      rows = rows ∙ old.rows;
      given = given ∙ old.given;
      html = html ∙ old.html;
      marks = subst (λ all. AreMarkedWith all (map list_of (take (i + 1) lists)) new) (sym inside)
          (subst (λ all. AreMarkedWith (marks ++ inner ∷ []) all new) (sym more)
          (marked_more (map list_of (take i lists)) (list_of c.list-item.result) page new own inner
          marks old.marks rows given html added both.each both.each_inside));
      same = λ h. elim c.if-differ.branch [
        | then-differ w ↦
            (let one = w.differ-is in
            let other = w.if-differ.true in
            absurd (cc))
        | else-differ w ↦
            (let alike = both.alike w.if-differ.false (sym w.is_of_has-differ.ensures ∙ sym w.differ-is ∙ h) in
            inside ∙ ap (λ all. all ++ inner ∷ []) (old.same w.if-differ.false)
            ∙ ap (λ x. page.marks ++ x ∷ []) (sym alike) ∙ sym added)
      ];
    }
