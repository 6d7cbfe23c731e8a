use Rattle.std.proofs.Common.{◌≡◌, ◌*◌, ◌<◌, false, [], Bor, List, ℕ, length, map, sym, ap, subst, ◌∙◌, arith}
use Rattle.std.specs.Prelude.{bytes_eq}
use Rattle.std.proofs.lemmas.List.{get_or-map}
use Rattle.call_answers.specs.Elements.{keys_in, has_key}
use Rattle.call_answers.proofs.RepeatedKeys.{has_one, has_none}
use Rattle.call_answers.proofs.elements.has_key.Goals as goal

pub returns-then-eq : goal.returns-then-eq
returns-then-eq c =
    let fields = c.args.fields.now in
    let key = c.args.key.now in
    let i = c.loop-i.i in
    let none : Bor (List ℕ) = record { ref_ptr = (0, 0); now = [] } in
    let less = c.loop-i-test.true in
    let within : 2 * i < length fields = omega (arith, c.requires, less) in
    sym (has_one (map (λ field. field.now) fields) key i c.args.count less
    (ap (λ k. bytes_eq k key) (get_or-map (λ field. field.now) fields (2 * i) none [] within)
    ∙ sym c.eq.ensures ∙ c.if-eq.true))

pub loop-i-preserved : goal.loop-i-preserved
loop-i-preserved c =
    let fields = c.args.fields.now in
    let key = c.args.key.now in
    let i = c.loop-i.i in
    let none : Bor (List ℕ) = record { ref_ptr = (0, 0); now = [] } in
    let less = c.loop-i-test.true in
    let within : 2 * i < length fields = omega (arith, c.requires, less) in
    has_none (map (λ field. field.now) fields) key i c.loop-i.invariant
    (ap (λ k. bytes_eq k key) (get_or-map (λ field. field.now) fields (2 * i) none [] within)
    ∙ sym c.eq.ensures ∙ c.if-eq.false)

pub returns : goal.returns
returns c =
    let most = c.loop-i.auto.i-end in
    let end = c.loop-i-test.false in
    let same : c.loop-i.i ≡ c.args.count = omega (arith, most, end) in
    sym (subst (λ n. has_key (keys_in (map (λ field. field.now) c.args.fields.now) n) c.args.key.now ≡ false)
    same c.loop-i.invariant)
