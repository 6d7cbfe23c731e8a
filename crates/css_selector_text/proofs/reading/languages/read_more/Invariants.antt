use Rattle.std.proofs.Common.{◌≡◌, ◌∷◌, [], map}
use denote.Text.{Utf8}
use denote.Shadow.{shadow}
use Rattle.css_selector_text.specs.reading.Grammar.{next_range}
use Rattle.css_selector_text.specs.reading.Readings.{items, items_up_to, found_before}
use Rattle.std.specs.Cow.{cow_str_bytes}
use Rattle.css_selector_text.proofs.reading.languages.read_more.Given as goal

abbrev pub invariant-languages : goal.invariant-languages
invariant-languages l = record {
  text : shadow (Utf8 l.rest);
  found : found_before (map cow_str_bytes l.ranges.items) (items_up_to l.left next_range l.rest)
      ≡ found_before (cow_str_bytes l.fn.first ∷ []) (items next_range l.fn.text);
}

abbrev pub decreases-languages : goal.decreases-languages
decreases-languages l = l.left
