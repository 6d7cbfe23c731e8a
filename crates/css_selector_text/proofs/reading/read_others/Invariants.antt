use Rattle.std.proofs.Common.{◌≡◌, ◌∷◌, [], map}
use denote.Text.{Utf8}
use denote.Shadow.{shadow}
use Rattle.css_selector_text.specs.reading.Grammar.{next_placed}
use Rattle.css_selector_text.specs.reading.Readings.{items, items_up_to, found_before}
use Rattle.css_selector_text.specs.reading.ReadViews.{read_of, placed_of}
use Rattle.css_selector_text.specs.NameViews.{names_of}
use Rattle.css_selector_text.proofs.reading.read_others.Given as goal

abbrev pub invariant-selectors : goal.invariant-selectors
invariant-selectors l = record {
  text : shadow (Utf8 l.rest);
  found : found_before (map placed_of l.selectors.items) (items_up_to l.left (next_placed (names_of l.names) l.start) l.rest)
      ≡ found_before (read_of l.fn.first ∷ []) (items (next_placed (names_of l.names) l.start) l.fn.text);
}

abbrev pub decreases-selectors : goal.decreases-selectors
decreases-selectors l = l.left
