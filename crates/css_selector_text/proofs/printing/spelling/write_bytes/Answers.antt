use Rattle.std.proofs.Common.{◌++◌, flat_map, append_assoc, ap, ◌∙◌, refl, arith, rules}
use Rattle.std.proofs.lemmas.Grind.{common_steps}
use Rattle.css_selector_text.specs.printing.Printing.{byte_text}
use Rattle.css_text.proofs.round_trip.StyledWrites.{styled_two}
use Rattle.css_selector_text.proofs.printing.spelling.write_bytes.Goals as goal

pub runs-preserved : goal.runs-preserved
runs-preserved g c = record {
  text = first_of (search rules, grind (arith, common_steps));
  written = λ flush.
      let before = c.runs.invariant.written flush in
      let next = c.in_ok-rest.ensures.written before.1.flush in (
        before.0 ++ next.0,
        styled_two _ _ _ _ _ _ _ before.1 next.1 refl,
        append_assoc before.0 next.0 (flat_map (byte_text c.args.quote) c.in_ok-rest.rest.now)
            ∙ ap (λ l. before.0 ++ l) next.2 ∙ before.2,
      );
}
