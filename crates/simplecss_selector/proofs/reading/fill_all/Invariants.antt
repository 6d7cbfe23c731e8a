use Rattle.std.proofs.Common.{◌≡◌, length}
use Rattle.simplecss_grammar.specs.TokenSequences.{items}
use Rattle.simplecss_grammar.specs.Selectors.{outcome}
use Rattle.simplecss_grammar.specs.Skipped.{refusal_in}
use Rattle.simplecss_selector.specs.internal.SelectorDrafts.{selector_after}
use Rattle.simplecss_selector.specs.SelectorTokenizers.{whole_text, still_to_come}
use Rattle.simplecss_selector.proofs.reading.fill_all.Given as goal

-- what is read when the rest is put into the draft, is what was to be read at the start
abbrev pub invariant-loop-item : goal.invariant-loop-item
invariant-loop-item g l = record {
  same : whole_text l.tokenizer ≡ whole_text l.initial.tokenizer;
  whole : selector_after l.draft (outcome (still_to_come l.tokenizer))
      ≡ selector_after l.initial.draft (outcome (still_to_come l.initial.tokenizer));
  why : refusal_in l.text (still_to_come l.tokenizer)
      ≡ refusal_in l.text (still_to_come l.initial.tokenizer);
  state : g.P.Report.state l.report ≡ g.P.Report.state l.initial.report;
}

abbrev pub decreases-loop-item : goal.decreases-loop-item
decreases-loop-item g l = length (items (still_to_come l.tokenizer))
