use Rattle.css_tree.specs.Surroundings.{surroundings}
use Rattle.css_tree.proofs.SurroundingLemmas.{images_more}
use Rattle.css_tree.proofs.surroundings.all_surroundings.Goals as goal

pub loop-index-preserved : goal.loop-index-preserved
loop-index-preserved c =
    let so_far = c.loop-index.invariant in
    let more = images_more (surroundings c.args.page.now.rows) c.loop-index.all.items
    c.push.new.self.items c.surroundings_of-decided.result c.loop-index.index
    c.in_ok-push.ensures.items c.surroundings_of-decided.ensures so_far.all so_far.each in
    record { all = more.0; each = more.1 }
