use Rattle.css_text.specs.ThisEdition.{this_edition}
use Rattle.simplecss_grammar.proofs.reading.SequenceLemmas.{sequence_of-two}
use Rattle.simplecss_selector.proofs.laws.at_most_two_errors.Goals as goal

pub returns : goal.returns
returns c = sequence_of-two this_edition
