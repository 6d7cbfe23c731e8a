use Rattle.std.proofs.Common.{◌∙◌, sym}
use Rattle.css_html.specs.References.{next_digit, numbered}
use Rattle.css_text.proofs.reading.EachLemmas.{took}
use Rattle.css_html.proofs.ReferenceLemmas.{next_digit-takes, number-step, number-stop, digits-step, digits-stop}
use Rattle.css_html.proofs.references.numbered_character.Goals as goal

pub digits-smaller : goal.digits-smaller
digits-smaller c =
    took (next_digit c.args.hexadecimal) (next_digit-takes c.args.hexadecimal) c.digits.rest.now
    c.in-Some.after.now c.in-Some.value c.in-Some.ensures.next

pub digits-preserved : goal.digits-preserved
digits-preserved c = record {
  character = number-step c.args.hexadecimal c.digits.number c.with_digit-number.result c.in-Some.value
      c.digits.rest.now c.in-Some.after.now c.with_digit-number.ensures.value c.in-Some.ensures.next
      ∙ c.digits.invariant.character;
  left = digits-step c.args.hexadecimal c.in-Some.value c.digits.rest.now c.in-Some.after.now
      c.in-Some.ensures.next
      ∙ c.digits.invariant.left;
  small = c.with_digit-number.ensures.bound;
}

pub returns-clause-character : goal.returns-clause-character
unfolding numbered
returns-clause-character c =
    c.character_of.ensures
    ∙ sym (number-stop c.args.hexadecimal c.digits.number c.digits.rest.now c.in_default.ensures.next)
    ∙ c.digits.invariant.character

pub returns-clause-left : goal.returns-clause-left
returns-clause-left c =
    sym (digits-stop c.args.hexadecimal c.digits.rest.now c.in_default.ensures.next)
    ∙ c.digits.invariant.left
