-- What is left after a selector is no more than the text.
-- Serves `consume_parts` and `read_rules` (their loops end).
use Rattle.std.proofs.Common.{ℕ, ◌≤◌, List, length}
use Rattle.css_text.specs.Characters.{Edition}
use Rattle.simplecss_grammar.specs.Selectors.{reads}
use Rattle.css_text.proofs.reading.EndsLemmas.{length-ends}
use Rattle.simplecss_grammar.proofs.reading.SequenceEndLemmas.{reads-ends}

pub length-reads : (edition : Edition) (text : List ℕ) → length (reads edition text).1 ≤ length text
length-reads edition text = length-ends text (reads edition text).1 (reads-ends edition text)
