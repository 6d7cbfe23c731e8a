use Rattle.std.proofs.Common.{◌+◌, length, drop, refl, sym, ap, ◌∙◌, arith, length-drop}
use Rattle.std.specs.Prelude.{◌||◌}
use Rattle.std.proofs.lemmas.List.{take_rest}
use Rattle.simplecss_selector.specs.Operators.{is_word_of}
use Rattle.simplecss_selector.proofs.WordLemmas.{is_word_of-at, is_word_of-none}
use Rattle.simplecss_selector.proofs.operator.has_word.Goals as goal

pub overflow_add-rest : goal.overflow_add-rest
overflow_add-rest c = omega (
  arith,
  c.in-Some.ensures.some.0,
  c.words.invariant.no_longer,
  c.as_bytes-rest.type_inv.0,
  ap length c.as_bytes-rest.ensures.value,
)

pub returns-then-eq : goal.returns-then-eq
returns-then-eq c =
    let r = c.words.rest.now in
    let some = c.in-Some.ensures.some in
    let first = rw c.as_bytes.ensures.value at (sym c.if-eq.ensures) in
    sym (c.words.invariant.same ∙ is_word_of-at c.args.word.now r c.in-Some.end some.0 some.1 some.2
    ∙ ap (λ t. t || is_word_of c.args.word.now (drop (c.in-Some.end + 1) r)) first)

pub words-preserved : goal.words-preserved
words-preserved c =
    let r = c.words.rest.now in
    let some = c.in-Some.ensures.some in
    let other = rw c.as_bytes.ensures.value at (sym c.if-eq.ensures) in
    rw (take_rest r (c.in-Some.end + 1)) (record {
      no_longer = omega (arith, c.words.invariant.no_longer, length-drop (c.in-Some.end + 1) r);
      same =
          c.words.invariant.same
          ∙ is_word_of-at c.args.word.now r c.in-Some.end some.0 some.1 some.2
          ∙ ap (λ t. t || is_word_of c.args.word.now (drop (c.in-Some.end + 1) r)) other;
    })

pub returns : goal.returns
returns c =
    let last = rw c.as_bytes-2.ensures.value at c.eq-2.ensures in
    last ∙ sym (c.words.invariant.same
    ∙ is_word_of-none c.args.word.now c.words.rest.now (c.in_default.ensures.none refl))
