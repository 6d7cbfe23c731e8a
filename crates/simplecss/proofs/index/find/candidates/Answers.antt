use Rattle.std.proofs.Common.{ap, sym, ◌∙◌}
use Rattle.std.proofs.lemmas.Result.{on_ok_weaker}
use Rattle.simplecss.proofs.index.find.candidates.Goals as goal

pub find_again-requires-clause-within : goal.find_again-requires-clause-within
find_again-requires-clause-within g c =
    λ index has. (c.in_ok-find_beside.ensures.2.within index has).0

pub returns-clause-found : goal.returns-clause-found
returns-clause-found g c =
    let beside = c.in_ok-find_beside.ensures in
    let name_is = ap (λ reported. reported.name) beside.1.own ∙ sym c.local_name.ensures in
    let class_is = ap (λ reported. reported.class) beside.1.own ∙ sym c.class_value.ensures in
    on_ok_weaker c.find_again.result (λ found.
    (beside.0, beside.1, found beside.0 name_is class_is beside.2)) c.find_again.ensures.found
