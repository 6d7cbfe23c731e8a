use Rattle.std.proofs.Common.{◌≡◌, ℕ, List, ◌++◌, ◌∙◌, refl, sym, ap, arith, length, drop, encode_utf8, true, false}
use Rattle.std.specs.Str.Iter.{chars_rest}
use Rattle.std.proofs.lemmas.Str.{IsUtf8-had, IsCharBoundary-from_drop}
use Rattle.css_text.specs.Characters.{is_name_char}
use Rattle.css_text.specs.Names.{past_name_chars}
use Rattle.css_text.specs.ThisEdition.{this_edition}
use Rattle.css_text.proofs.bytes.NameLemmas.{step_over, past_name_chars-passes, past_name_chars-fails, past_name_chars-none}
use Rattle.css_text.proofs.scan.wide_name_chars_len.Goals as goal

pub loop-c-preserved : goal.loop-c-preserved
loop-c-preserved c =
    let here : drop c.loop-c.len c.args.text.now ≡ encode_utf8 c.in-Some.c
    ++ chars_rest c.next.new.self = c.loop-c.invariant.rest ∙ c.in-Some.ensures.steps.0 in
    let utf8 = IsUtf8-had (drop c.loop-c.len c.args.text.now) c.loop-c.invariant.utf8 in
    let passes : is_name_char this_edition c.in-Some.c ≡ true =
    sym c.is_name_char.ensures ∙ c.if-not-is_name_char.false in
    let step = step_over c.args.text.now (chars_rest c.next.new.self) c.loop-c.len c.in-Some.c
    c.len_utf8-len.result c.loop-c.invariant.within utf8 here c.len_utf8-len.ensures.value in
    record {
      within = step.within;
      rest = step.rest_is;
      utf8 = ∣ step.utf8 ∣₁;
      run = c.loop-c.invariant.run
          ∙ past_name_chars-passes this_edition _
          (chars_rest c.next.new.self) c.in-Some.c utf8 here passes
          ∙ ap (past_name_chars this_edition) (sym step.rest_is);
    }

pub returns-in-None-clause-len : goal.returns-in-None-clause-len
returns-in-None-clause-len c =
    c.loop-c.invariant.run
    ∙ past_name_chars-none this_edition (drop c.loop-c.len c.args.text.now)
    (ap (λ (xs : List ℕ). length xs) c.loop-c.invariant.rest ∙ c.in-None.ensures.steps.0.0)

pub returns-then-not-is_name_char-clause-len : goal.returns-then-not-is_name_char-clause-len
returns-then-not-is_name_char-clause-len c =
    let here : drop c.loop-c.len c.args.text.now ≡ encode_utf8 c.in-Some.c
    ++ chars_rest c.next.new.self = c.loop-c.invariant.rest ∙ c.in-Some.ensures.steps.0 in
    let utf8 = IsUtf8-had (drop c.loop-c.len c.args.text.now) c.loop-c.invariant.utf8 in
    let fails : is_name_char this_edition c.in-Some.c ≡ false =
    sym c.is_name_char.ensures ∙ c.if-not-is_name_char.true in
    c.loop-c.invariant.run
    ∙ past_name_chars-fails this_edition _ (chars_rest c.next.new.self) c.in-Some.c utf8 here fails

pub returns-then-not-is_name_char-clause-boundary :
    goal.returns-then-not-is_name_char-clause-boundary
returns-then-not-is_name_char-clause-boundary c =
    IsCharBoundary-from_drop c.args.text.now c.loop-c.len c.loop-c.invariant.within
    (IsUtf8-had (drop c.loop-c.len c.args.text.now) c.loop-c.invariant.utf8)

pub loop-c-init : goal.loop-c-init
loop-c-init c = record {
  within = omega arith;
  rest = sym
      (ap chars_rest c.into_iter-c-iterator.ensures.into_iter_gives ∙ c.chars-c-items.ensures.rest);
  utf8 = ∣ c.utf8.text ∣₁;
  run = refl;
}

pub returns-in-None-clause-boundary : goal.returns-in-None-clause-boundary
returns-in-None-clause-boundary c =
    IsCharBoundary-from_drop c.args.text.now c.loop-c.len c.loop-c.invariant.within
    (IsUtf8-had (drop c.loop-c.len c.args.text.now) c.loop-c.invariant.utf8)
