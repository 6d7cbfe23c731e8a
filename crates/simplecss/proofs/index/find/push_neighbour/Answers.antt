use Rattle.std.proofs.Common.{None, Some, refl}
use Rattle.std.proofs.lemmas.Result.{on_ok_weaker}
use Rattle.simplecss.proofs.BucketIndices.{no_neighbour}
use Rattle.simplecss.proofs.index.find.push_neighbour.Goals as goal

pub returns-in-Some : goal.returns-in-Some
returns-in-Some g c =
    rw c.in-Some.is (on_ok_weaker c.push_keys_of.result
    (λ adds. (Some (g.E.Keyed.reported c.in-Some.node), (c.in-Some.node, refl, refl), adds))
    c.push_keys_of.ensures)

pub returns-in-None : goal.returns-in-None
returns-in-None g c =
    rw c.in-None.is (None, tt, no_neighbour c.args.lasts.now c.args.indices.now.items)
