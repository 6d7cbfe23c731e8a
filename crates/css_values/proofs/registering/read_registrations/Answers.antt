use Rattle.std.proofs.Common.{◌≡◌, ◌∙◌, ◌++◌, ◌<◌, ◌+◌, ◌-◌, ℕ, map, take, length, arith, ap, sym}
use Rattle.std.specs.Option.{option_to_list}
use Rattle.std.proofs.lemmas.List.{get_or-map, length-map}
use Rattle.css_values.specs.Registrations.{Stated, registration_of, registrations_of}
use Rattle.css_values.specs.Views.{registration_of as registration_text, stated_of}
use Rattle.css_values.proofs.RegisteringLemmas.{no_rule, registrations-more}
use Rattle.css_values.proofs.registering.read_registrations.Goals as goal

pub rules-preserved : goal.rules-preserved
rules-preserved c =
    let all = map stated_of c.args.rules.now in
    let n = c.rules.number - 1 in
    let within : n < length c.args.rules.now = omega arith in
    let l : n < length all = omega (arith, length-map c.args.rules.now stated_of) in
    let next : n + 1 ≡ c.rules.number = omega arith in (
      omega arith,
      registrations-more all n (map registration_text c.rules.found.items)
          (map registration_text c.push_registration.new.found.items) l
          (c.in_ok-push_registration.ensures
          ∙ ap (λ (rule : Stated). map registration_text c.rules.found.items ++ option_to_list (registration_of rule))
          (sym (get_or-map stated_of c.args.rules.now n _ no_rule within)))
          ∙ ap (λ (k : ℕ). map registration_text c.rules.found.items ++ registrations_of (take k all)) next
          ∙ c.rules.invariant.1,
    )
