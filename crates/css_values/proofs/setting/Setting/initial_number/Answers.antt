use Rattle.std.proofs.Common.{◌≡◌, Some, map, arith, rules}
use Rattle.std.proofs.lemmas.List.{length-map}
use Rattle.css_values.specs.Registered.{registration_number}
use Rattle.css_values.specs.Views.{registration_of}
use Rattle.css_values.proofs.RegisteredLemmas.{registration-below}
use Rattle.css_values.proofs.setting.Setting.initial_number.Goals as goal

pub overflow_add-result : goal.overflow_add-result
overflow_add-result c =
    let registered = map registration_of c.self.inside.registered.now in
    let found : Some c.in_ok-number.number ≡ registration_number registered c.args.name.now = search rules in
    let below = registration-below registered c.args.name.now c.in_ok-number.number found in
    let size = length-map c.self.inside.registered.now registration_of in
    let room = c.self.invariant.2 in
    omega (arith, below, size, room)
