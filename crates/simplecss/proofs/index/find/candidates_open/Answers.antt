use Rattle.std.proofs.Common.{ap, sym, ◌∙◌}
use Rattle.std.proofs.lemmas.Result.{on_ok_weaker}
use Rattle.simplecss.proofs.index.find.candidates_open.Goals as goal

pub find_named-requires : goal.find_named-requires
find_named-requires g c = λ index has. (c.in_ok-find_beside_open.ensures.2.within index has).0

pub returns : goal.returns
returns g c =
    let beside = c.in_ok-find_beside_open.ensures in
    let name_is = ap (λ reported. reported.name) beside.1.own ∙ sym c.local_name.ensures in
    let class_is = ap (λ reported. reported.class) beside.1.own ∙ sym c.class_value.ensures in
    on_ok_weaker c.find_named.result
    (λ kept. (beside.0, beside.1, kept beside.0 name_is class_is beside.2)) c.find_named.ensures
