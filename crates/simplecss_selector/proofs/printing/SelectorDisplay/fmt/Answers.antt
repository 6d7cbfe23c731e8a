use Rattle.std.proofs.Common.{ap, arith, rules}
use Rattle.std.specs.List.{flat_map}
use Rattle.std.proofs.lemmas.List.{take_all}
use Rattle.std.proofs.Output.{has_written_styled_of_eq}
use Rattle.simplecss_grammar.specs.Printing.{component_text}
use Rattle.simplecss_selector.specs.Shapes.{any_component}
use Rattle.css_text.proofs.round_trip.StyledWrites.{plain_of_styled, styled_step_at}
use Rattle.simplecss_selector.proofs.printing.SelectorDisplay.fmt.Goals as goal

pub returns-clause-styled : goal.returns-clause-styled
returns-clause-styled g c = λ flush ok. has_written_styled_of_eq _ _ _ _ _
    (ap (flat_map component_text) (take_all c.loop-index.index c.args.self.now (omega arith)))
    (c.loop-index.invariant flush)

pub returns-clause-writes : goal.returns-clause-writes
returns-clause-writes g c =
    λ plain ok. plain_of_styled _ _ _ _ plain (returns-clause-styled g c plain.flush ok)

pub loop-index-preserved : goal.loop-index-preserved
loop-index-preserved g c = λ plain.
    let so_far = c.loop-index.invariant plain in
    styled_step_at _ component_text c.args.self.now c.loop-index.index any_component _ _ _
    (omega arith) so_far
    (has_written_styled_of_eq _ _ _ _ _ (ap component_text c.component.ensures)
    (c.write_component.ensures so_far.flush (search rules)))
