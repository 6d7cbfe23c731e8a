-- What is read of a nested rule's list is printed as a text that is read as it is.
-- Serves `printing_laws::printing_law`.
use Rattle.std.proofs.Common.{◌≡◌, ℕ, Bool, true, false, List, [], ◌∷◌, ◌++◌, Option, None, Some, refl, ap, ◌∙◌}
use Rattle.std.specs.Prelude.{if◌then◌else◌}
use Rattle.std.proofs.lemmas.List.Elements.{All-nil}
use Rattle.css_selector_text.specs.declared.components.Nesting.{Nesting}
use Rattle.css_selector_text.specs.Components.{Part, Placed, Selector, outermost}
use Rattle.css_selector_text.specs.reading.Grammar.{outside, selector, selector_with, nesting_part}
use Rattle.css_selector_text.specs.reading.Nested.{absolute, has_nesting, nested_selector, nesting_in}
use Rattle.css_selector_text.specs.printing.Printing.{selector_text}
use Rattle.css_selector_text.specs.reading.Readings.{got}
use Rattle.css_selector_text.specs.printing.WellFormed.{IsWellFormed, IsFurtherCondition}
use Rattle.css_selector_text.proofs.round_trip.NestedPrints.{selector_prints}
use Rattle.css_selector_text.proofs.round_trip.SelectorsAgain.{selector-again}
use Rattle.css_selector_text.specs.reading.Defaults.{in_default, selector_in}
use Rattle.css_selector_text.specs.Names.{Names}

-- `&` and what is after it are each in the default namespace
nesting_first : (o : Option ℕ) (ps : List Part)
    → in_default o (nesting_part outermost ∷ ps)
    ≡ in_default o (nesting_part outermost ∷ []) ++ in_default o ps
nesting_first None ps = refl
nesting_first (Some number) ps = refl

-- with an `&` before it, too
absolute_well : (names : Names) (p : Placed) → IsWellFormed names p.selector
    → IsWellFormed names (absolute names p)
absolute_well names p w = by (has_nesting p)
  where
    old : Selector
    old = selector_in names w.0

    joined : Selector → Selector
    joined s = selector_with (nesting_in names outermost ++ s.parts) s.pseudo_element

    by : (t : Bool) → IsWellFormed names (if t then p.selector else joined p.selector)
    by true = w
    by false = (
      selector_with (nesting_part outermost ∷ w.0.parts) w.0.pseudo_element,
      (refl, ((refl, All-nil (IsFurtherCondition (outside names))), w.1.1), w.1.2),
      ap (λ ps. selector_with ps w.0.pseudo_element) (nesting_first names.default_namespace w.0.parts)
          ∙ ap joined w.2,
    )

pub read_again : (names : Names) (list : Nesting) (p : Placed) → IsWellFormed names p.selector
    → selector names (selector_text (nested_selector names list p)) ≡ got (absolute names p) []
read_again names list p w =
    ap (selector names) (selector_prints list (absolute names p))
    ∙ selector-again names (absolute names p) (absolute_well names p w)
