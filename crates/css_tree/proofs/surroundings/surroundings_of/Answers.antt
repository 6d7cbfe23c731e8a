use Rattle.std.proofs.Common.{ap, sym, ◌∙◌}
use Rattle.std.proofs.lemmas.Option.{get_or_from_slice_get}
use Rattle.css_tree.specs.Surroundings.{surroundings, within}
use Rattle.css_tree.proofs.SurroundingLemmas.{surroundings-child}
use Rattle.css_tree.proofs.surroundings.surroundings_of.Goals as goal

pub returns-in-Some : goal.returns-in-Some
returns-in-Some c =
    let rows = c.args.page.now.rows in
    let i = c.args.index in
    let p = c.in-Some.parent in
    c.surroundings_within.ensures
    ∙ ap (within rows p i) (get_or_from_slice_get c.args.before.now p (surroundings rows p) _
    (c.requires.before.each p c.in-Some.ensures.before))
    ∙ surroundings-child rows i p (sym c.in-Some.ensures.value)
