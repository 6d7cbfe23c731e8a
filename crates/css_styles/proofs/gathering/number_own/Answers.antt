use Rattle.std.proofs.Common.{◌≡◌, ◌<◌, ◌+◌, ◌∙◌, length, None, Some, ap, sym, arith, rules}
use Rattle.css_styles.specs.Properties.{number_in, property_key}
use Rattle.css_styles.proofs.NumberLemmas.{number-after, number-more, number-within}
use Rattle.css_styles.proofs.gathering.number_own.Goals as goal

pub returns-in-Some-clause-number : goal.returns-in-Some-clause-number
returns-in-Some-clause-number c =
    let key = property_key c.args.name.now in
    let known : number_in c.args.known.now key ≡ Some c.in-Some.number = search rules in
    number-more c.args.known.now c.args.others.now key c.in-Some.number known

pub overflow_add-result : goal.overflow_add-result
overflow_add-result c =
    let within : c.in_ok-number.number < length c.number.new.self =
    number-within c.number.new.self (property_key c.args.name.now) c.in_ok-number.number
    c.in_ok-number.ensures.number in
    omega (arith, within, c.in_ok-number.ensures.few, c.len.ensures.few)

pub returns-clause-number : goal.returns-clause-number
returns-clause-number c =
    let key = property_key c.args.name.now in
    let none : number_in c.args.known.now key ≡ None = search rules in
    number-after c.args.known.now c.number.new.self key c.in_ok-number.number none
    c.in_ok-number.ensures.number
    ∙ ap (λ n. Some (n + c.in_ok-number.number)) (sym c.len.ensures.len)
