use Rattle.std.proofs.Common.{◌≡◌, length, true}
use Rattle.css_selector_text.specs.AttributeTests.{is_word_of}
use Rattle.css_selectors.proofs.attributes.is_word.Given as goal

abbrev pub invariant-words : goal.invariant-words
invariant-words l = is_word_of true l.ignores_case l.text l.rest ≡ is_word_of true l.ignores_case l.text l.value

abbrev pub decreases-words : goal.decreases-words
decreases-words l = length l.rest
