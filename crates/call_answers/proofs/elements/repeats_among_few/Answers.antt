use Rattle.std.proofs.Common.{◌≡◌, ◌*◌, ◌<◌, false, [], Bor, List, ℕ, length, map, sym, ap, subst, ◌∙◌, arith}
use Rattle.std.proofs.lemmas.List.{get_or-map}
use Rattle.call_answers.specs.Elements.{keys_in, has_key, repeats_key}
use Rattle.call_answers.proofs.RepeatedKeys.{repeats_one, repeats_none}
use Rattle.call_answers.proofs.elements.repeats_among_few.Goals as goal

pub returns-then-has_key : goal.returns-then-has_key
returns-then-has_key c =
    let fields = c.args.fields.now in
    let all = map (λ field. field.now) fields in
    let i = c.loop-i.i in
    let none : Bor (List ℕ) = record { ref_ptr = (0, 0); now = [] } in
    let less = c.loop-i-test.true in
    let within : 2 * i < length fields = omega (arith, c.requires, less) in
    sym (repeats_one all i c.args.count less
    (ap (has_key (keys_in all i)) (get_or-map (λ field. field.now) fields (2 * i) none [] within)
    ∙ sym c.has_key.ensures ∙ c.if-has_key.true))

pub loop-i-preserved : goal.loop-i-preserved
loop-i-preserved c =
    let fields = c.args.fields.now in
    let all = map (λ field. field.now) fields in
    let i = c.loop-i.i in
    let none : Bor (List ℕ) = record { ref_ptr = (0, 0); now = [] } in
    let less = c.loop-i-test.true in
    let within : 2 * i < length fields = omega (arith, c.requires, less) in
    repeats_none all i c.loop-i.invariant
    (ap (has_key (keys_in all i)) (get_or-map (λ field. field.now) fields (2 * i) none [] within)
    ∙ sym c.has_key.ensures ∙ c.if-has_key.false)

pub returns : goal.returns
returns c =
    let most = c.loop-i.auto.i-end in
    let end = c.loop-i-test.false in
    let same : c.loop-i.i ≡ c.args.count = omega (arith, most, end) in
    sym (subst (λ n. repeats_key (map (λ field. field.now) c.args.fields.now) n ≡ false) same
    c.loop-i.invariant)
