-- What reading a selector returned.
use Rattle.std.specs.Prelude.{◌≡◌, ◌≢◌, List, [], map, Result, Ok, Err, Vec}
use Rattle.css_selector_text.specs.declared.refusal.Refusal.{Refusal}
use Rattle.css_selector_text.specs.declared.refusal.Why.TheVariants.{Memory}
use Rattle.css_selector_text.specs.declared.selector.Listed.{Listed}
use Rattle.css_selector_text.specs.Components.{Placed, Selector}
use Rattle.css_selector_text.specs.reading.ReadViews.{placed_of}
use Rattle.css_selector_text.specs.reading.Readings.{Reading, got, refused}

-- the selector that the text is, or why it is none, unless memory was wanting
abbrev pub Parses : Result Selector Refusal → Reading Selector → Type 0
Parses (Ok s) reading = got s [] ≡ reading
Parses (Err e) reading = e.why ≢ Memory → refused e.why e.rest.now ≡ reading

-- the same of a list of selectors with where they are
abbrev pub ParsesPlaced : {Z : Type 0} → Result (Vec Listed Z) Refusal → Reading (List Placed) → Type 0
ParsesPlaced (Ok v) reading = got (map placed_of v.items) [] ≡ reading
ParsesPlaced (Err e) reading = e.why ≢ Memory → refused e.why e.rest.now ≡ reading

-- the same of a list of selectors
abbrev pub ParsesList : {Z : Type 0} → Result (Vec Selector Z) Refusal → Reading (List Selector) → Type 0
ParsesList (Ok v) reading = got v.items [] ≡ reading
ParsesList (Err e) reading = e.why ≢ Memory → refused e.why e.rest.now ≡ reading
