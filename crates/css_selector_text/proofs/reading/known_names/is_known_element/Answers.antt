use Rattle.std.proofs.Common.{◌∙◌, arith}
use Rattle.css_selector_text.specs.reading.KnownNames.{known_elements}
use Rattle.css_selector_text.proofs.KnownLemmas.{at_least, between}
use Rattle.css_selector_text.proofs.reading.known_names.is_known_element.Goals as goal

pub returns-in-0-to-6 : goal.returns-in-0-to-6
returns-in-0-to-6 c =
    let n = c.args.name.now in
    c.is_one_of.ensures
    ∙ between 0 6 known_elements n (omega (arith, c.in-0-to-6)) (omega (arith, c.in-0-to-6))

pub returns-in-7-to-10 : goal.returns-in-7-to-10
returns-in-7-to-10 c =
    let n = c.args.name.now in
    c.is_one_of-in-7-to-10.ensures
    ∙ between 7 10 known_elements n (omega (arith, c.in-7-to-10)) (omega (arith, c.in-7-to-10))

pub returns-in-11-to-12 : goal.returns-in-11-to-12
returns-in-11-to-12 c =
    let n = c.args.name.now in
    c.is_one_of-in-11-to-12.ensures
    ∙ between 11 12 known_elements n (omega (arith, c.in-11-to-12)) (omega (arith, c.in-11-to-12))

pub returns-in-13-to-14 : goal.returns-in-13-to-14
returns-in-13-to-14 c =
    let n = c.args.name.now in
    c.is_one_of-in-13-to-14.ensures
    ∙ between 13 14 known_elements n (omega (arith, c.in-13-to-14)) (omega (arith, c.in-13-to-14))

pub returns-in_default : goal.returns-in_default
returns-in_default c =
    let n = c.args.name.now in
    c.is_one_of-in_default.ensures
    ∙ at_least 15 known_elements n (omega (arith, c.in_default))
