use Rattle.std.proofs.Common.{◌≡◌, ◌++◌, ◌∷◌, [], sym, ap, ◌∙◌, rules, map}
use Rattle.std.specs.Option.{option_map}
use Rattle.css_sheet.specs.OpenParents.{Parent}
use Rattle.css_sheet.specs.ParentViews.{parent_of}
use Rattle.css_sheet.proofs.ParentLemmas.{leaves-some}
use Rattle.css_sheet.proofs.parents.OpenParents.leave.Goals as goal

pub returns-in-Some : goal.returns-in-Some
returns-in-Some c =
    let before = c.args.self.now in
    let front = c.pop.new.self.items in
    let items : before.outer.items ≡ front ++ c.in-Some.last ∷ [] = search rules in
    ap (λ (p : Parent). record {
      innermost = p;
      outer = map (option_map parent_of) front;
      lists = map (λ list. list.items) before.lists.items;
    }) c.or_same-self.ensures
    ∙ sym (leaves-some before front c.in-Some.last items)
