-- What contracts see of the selectors of rule sets, and of statements with them.
use Rattle.std.specs.Prelude.{List, map, Result, Ok, Err}
use Rattle.std.specs.Option.{option_map}
use Rattle.css_syntax.specs.declared.quality.Fault.{Fault}
use Rattle.css_selector_text.specs.declared.selector.Listed.{Listed}
use Rattle.css_selector_text.specs.Components.{Placed}
use Rattle.css_selector_text.specs.reading.ReadViews.{placed_of}
use Rattle.css_sheet.specs.declared.selectors.RuleSelector.{RuleSelector}
use Rattle.css_sheet.specs.RuleSelectors.{SelectorRead}

abbrev pub rule_selector_of : RuleSelector → SelectorRead
rule_selector_of s = record {
  text = s.text.now;
  selector = s.selector;
  pseudo_element = option_map (λ name. name.now) s.pseudo_element;
}

-- the selectors, which `items` says of a value, or why there are none
abbrev pub listed_result : {V : Type 0} → (V → List RuleSelector) → Result V Fault
    → Result (List SelectorRead) Fault
listed_result items (Ok selectors) = Ok (map rule_selector_of (items selectors))
listed_result items (Err fault) = Err fault

-- the same of the selectors of a list with where they are
abbrev pub placed_result : {V : Type 0} → (V → List Listed) → Result V Fault
    → Result (List Placed) Fault
placed_result items (Ok all) = Ok (map placed_of (items all))
placed_result items (Err fault) = Err fault
