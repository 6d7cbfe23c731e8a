use Rattle.std.proofs.Common.{◌⊎◌, ◌↔◌, ℕ, false, List, map, length, Contains, IsTrue}
use denote.Text.{Utf8}
use denote.Shadow.{shadow}
use Rattle.css_selector_text.specs.AttributeTests.{is_satisfied}
use Rattle.css_selector_text.specs.Components.Comparison.{has_word}
use Rattle.css_index.proofs.words.distinct_words.Given as goal

-- the words so far are those of the value that are not words of the rest
abbrev pub invariant-words : goal.invariant-words
invariant-words l = shadow (Utf8 l.rest)
    × ((text : List ℕ) → IsTrue (is_satisfied has_word false text l.value)
    ↔ (Contains (map (λ word. word.now) l.words.items) text
    ⊎ IsTrue (is_satisfied has_word false text l.rest)))

abbrev pub decreases-words : goal.decreases-words
decreases-words l = length l.rest
