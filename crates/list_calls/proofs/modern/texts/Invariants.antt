use Rattle.std.proofs.Common.{◌≡◌, ◌++◌, length, map, string_bytes}
use Rattle.css_selector_text.specs.reading.ReadViews.{placed_of}
use Rattle.call_answers.specs.SelectorNumbers.{printed_texts}
use Rattle.list_calls.proofs.modern.texts.Given as goal

-- the texts of the selectors so far, and of those that are left
abbrev pub invariant-selectors : goal.invariant-selectors
invariant-selectors l =
    string_bytes l.out ++ printed_texts (map placed_of l.left)
    ≡ printed_texts (map placed_of l.all)

abbrev pub decreases-selectors : goal.decreases-selectors
decreases-selectors l = length l.left
