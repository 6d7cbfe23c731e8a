use Rattle.std.proofs.Common.{◌≡◌, ◌≤◌, length}
use Rattle.simplecss_selector.specs.Operators.{is_word_of}
use Rattle.simplecss_selector.proofs.operator.has_word.Given as goal

-- the word is one of the whole exactly if it is one of the rest
abbrev pub invariant-words : goal.invariant-words
invariant-words l = record {
  no_longer : length l.rest ≤ length l.value;
  same : is_word_of l.word l.value ≡ is_word_of l.word l.rest;
}

abbrev pub decreases-words : goal.decreases-words
decreases-words l = length l.rest
