use Rattle.std.proofs.Common.{◌<◌, length, ap, sym, ◌∙◌, arith}
use Rattle.std.proofs.lemmas.Option.{get_or_from_slice_get}
use Rattle.css_tree.specs.Surroundings.{surroundings}
use Rattle.css_tree.proofs.html_states.checked_groups.Goals as goal

pub add_group-requires-clause-around : goal.add_group-requires-clause-around
add_group-requires-clause-around c =
    let rows = c.args.page.now.rows in
    let i = c.loop-index.index in
    let test = c.loop-index-test.true in let count = c.len-index-end.ensures in
    let within : i < length rows = omega (arith, test, count) in
    get_or_from_slice_get c.args.around.now i (surroundings rows i) _ (c.requires.each i within)
    ∙ ap (λ n. surroundings n.0 n.1) (sym c.plain.ensures)
