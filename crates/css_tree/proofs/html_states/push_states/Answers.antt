use Rattle.std.proofs.Common.{◌<◌, length, arith}
use Rattle.std.proofs.lemmas.Option.{get_or_from_slice_get}
use Rattle.css_tree.specs.HtmlViews.{html_states}
use Rattle.css_tree.specs.Surroundings.{surroundings}
use Rattle.css_tree.proofs.SurroundingLemmas.{images_more}
use Rattle.css_tree.proofs.html_states.push_states.Goals as goal

pub next_states-next-requires-clause-around : goal.next_states-next-requires-clause-around
next_states-next-requires-clause-around c =
    let rows = c.args.page.now.rows in
    let i = c.loop-index.index in
    let test = c.loop-index-test.true in let count = c.len-index-end.ensures in
    let within : i < length rows = omega (arith, test, count) in
    get_or_from_slice_get c.args.around.now i (surroundings rows i) _ (c.requires.around.each i within)

pub loop-index-preserved : goal.loop-index-preserved
loop-index-preserved c =
    let so_far = c.loop-index.invariant.states in
    let more = images_more (html_states c.args.page.now.rows) c.loop-index.states.items
    c.push.new.self.items c.next_states-next.result c.loop-index.index c.in_ok-push.ensures.items
    c.next_states-next.ensures.value so_far.all so_far.each in
    record {
      states = record { all = more.0; each = more.1 };
      submits = c.next_states-next.ensures.submits;
    }
