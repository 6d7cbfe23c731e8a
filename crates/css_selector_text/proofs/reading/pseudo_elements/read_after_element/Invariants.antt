use Rattle.std.proofs.Common.{◌≡◌, map}
use denote.Text.{Utf8}
use denote.Shadow.{shadow}
use Rattle.css_selector_text.specs.reading.Grammar.{after_element}
use Rattle.css_selector_text.specs.reading.Readings.{items, items_up_to, found_before}
use Rattle.css_selector_text.specs.Views.{condition_of}
use Rattle.css_selector_text.specs.NameViews.{names_of}
use Rattle.css_selector_text.proofs.reading.pseudo_elements.read_after_element.Given as goal

abbrev pub invariant-conditions : goal.invariant-conditions
invariant-conditions l = record {
  text : shadow (Utf8 l.rest);
  found : found_before (map condition_of l.conditions.items)
      (items_up_to l.left (after_element (names_of l.names)) l.rest)
      ≡ items (after_element (names_of l.names)) l.fn.text;
}

abbrev pub decreases-conditions : goal.decreases-conditions
decreases-conditions l = l.left
