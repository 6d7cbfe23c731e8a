use Rattle.std.proofs.Common.{◌<◌, length, sym, ap, ◌∙◌, subst, arith, rules}
use Rattle.std.proofs.lemmas.Grind.{common_steps}
use Rattle.css_selector_text.proofs.KeptLemmas.{part_goes, part_less, part_rests}
use Rattle.css_selector_text.specs.reading.Grammar.{past_part}
use Rattle.css_selector_text.proofs.reading.compounds.past_part.Goals as goal

pub values-smaller : goal.values-smaller
values-smaller c =
    subst (λ l. length l < length c.values.rest.now) (ap (λ p. p.1) c.read_value.ensures)
    (part_less c.values.rest.now (sym c.ends_part.ensures ∙ c.values-test.true))

pub values-preserved : goal.values-preserved
values-preserved c = record {
  text = first_of (search rules, grind (arith, common_steps));
  left = ap past_part (sym (ap (λ p. p.1) c.read_value.ensures))
      ∙ part_goes c.values.rest.now
      (sym c.ends_part.ensures ∙ c.values-test.true)
      ∙ c.values.invariant.left;
}

pub returns : goal.returns
returns c =
    sym (part_rests c.values.rest.now
    (sym c.ends_part.ensures ∙ c.values-test.false))
    ∙ c.values.invariant.left
