use Rattle.std.proofs.Common.{◌≡◌, ◌<◌, ◌∷◌, [], length, map}
use denote.Text.{Utf8}
use denote.Shadow.{shadow}
use Rattle.css_selector_text.specs.reading.Grammar.{next_part}
use Rattle.css_selector_text.specs.reading.Readings.{items, items_up_to, found_before}
use Rattle.css_selector_text.specs.Views.{part_of}
use Rattle.css_selector_text.specs.NameViews.{names_of}
use Rattle.css_selector_text.proofs.reading.read_more.Given as goal

abbrev pub invariant-parts : goal.invariant-parts
invariant-parts l = record {
  text : shadow (Utf8 l.rest);
  found : found_before (map part_of l.parts.items) (items_up_to l.left (next_part (names_of l.names)) l.rest)
      ≡ found_before (part_of l.fn.first ∷ []) (items (next_part (names_of l.names)) l.fn.text);
  some : 0 < length l.parts.items;
}

abbrev pub decreases-parts : goal.decreases-parts
decreases-parts l = l.left
