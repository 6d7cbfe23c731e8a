use Rattle.std.proofs.Common.{◌⊎◌, ◌↔◌, ℕ, false, List, map, Contains, IsTrue}
use denote.Text.{Utf8}
use denote.Shadow.{shadow}
use Rattle.css_selector_text.specs.AttributeTests.{is_satisfied}
use Rattle.css_selector_text.specs.Components.Comparison.{has_word}
use Rattle.css_selectors.specs.Keys.Key.{by_class}
use Rattle.css_index.specs.internal.Added.{AreAdded}
use Rattle.css_index.specs.internal.Filed.{found_by_any}
use Rattle.css_index.proofs.table.Table.push_first_words.Given as goal

-- the words so far are those of the value that are not words of the rest, and of what was found by them what is
-- kept was added
abbrev pub invariant-words : goal.invariant-words
invariant-words g l = shadow (Utf8 l.rest) × (words : List (List ℕ))
    × ((text : List ℕ) → IsTrue (is_satisfied has_word false text l.value)
    ↔ (Contains words text ⊎ IsTrue (is_satisfied has_word false text l.rest)))
    × AreAdded (g.K.Keeping.Keeps l.kept) l.initial.indices.items
    (found_by_any l.self (map by_class words)) l.indices.items
