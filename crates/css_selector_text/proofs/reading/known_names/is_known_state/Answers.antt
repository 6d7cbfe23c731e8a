use Rattle.std.proofs.Common.{◌∙◌, arith}
use Rattle.css_selector_text.specs.reading.KnownNames.{known_states}
use Rattle.css_selector_text.proofs.KnownLemmas.{at_least, between}
use Rattle.css_selector_text.proofs.reading.known_names.is_known_state.Goals as goal

pub returns-in-0-to-4 : goal.returns-in-0-to-4
returns-in-0-to-4 c =
    let n = c.args.name.now in
    c.is_one_of-in-0-to-4.ensures
    ∙ between 0 4 known_states n (omega (arith, c.in-0-to-4)) (omega (arith, c.in-0-to-4))

pub returns-in-5 : goal.returns-in-5
returns-in-5 c =
    let n = c.args.name.now in
    c.is_one_of.ensures
    ∙ between 5 5 known_states n (omega (arith, c.in-5.is)) (omega (arith, c.in-5.is))

pub returns-in-6-to-7 : goal.returns-in-6-to-7
returns-in-6-to-7 c =
    let n = c.args.name.now in
    c.is_one_of-in-6-to-7.ensures
    ∙ between 6 7 known_states n (omega (arith, c.in-6-to-7)) (omega (arith, c.in-6-to-7))

pub returns-in-8 : goal.returns-in-8
returns-in-8 c =
    let n = c.args.name.now in
    c.is_one_of-in-8.ensures
    ∙ between 8 8 known_states n (omega (arith, c.in-8.is)) (omega (arith, c.in-8.is))

pub returns-in-9-to-10 : goal.returns-in-9-to-10
returns-in-9-to-10 c =
    let n = c.args.name.now in
    c.is_one_of-in-9-to-10.ensures
    ∙ between 9 10 known_states n (omega (arith, c.in-9-to-10)) (omega (arith, c.in-9-to-10))

pub returns-in-11-to-12 : goal.returns-in-11-to-12
returns-in-11-to-12 c =
    let n = c.args.name.now in
    c.is_one_of-in-11-to-12.ensures
    ∙ between 11 12 known_states n (omega (arith, c.in-11-to-12)) (omega (arith, c.in-11-to-12))

pub returns-in-13-to-14 : goal.returns-in-13-to-14
returns-in-13-to-14 c =
    let n = c.args.name.now in
    c.is_one_of-in-13-to-14.ensures
    ∙ between 13 14 known_states n (omega (arith, c.in-13-to-14)) (omega (arith, c.in-13-to-14))

pub returns-in_default : goal.returns-in_default
returns-in_default c =
    let n = c.args.name.now in
    c.is_one_of-in_default.ensures
    ∙ at_least 15 known_states n (omega (arith, c.in_default))
