-- What `&` counts in the rules in a rule, computed with the definitions.
use Rattle.std.specs.Prelude.{◌≡◌, refl, ℕ, List, [], ◌∷◌, codes, Option, Some, None}
use Rattle.css_matching.specs.declared.Combinator.TheVariants.{Descendant}
use Rattle.css_selector_text.specs.Components.{Condition, Selector}
use Rattle.css_selector_text.specs.Components.Condition.{simple}
use Rattle.css_selector_text.specs.Components.Simple.{class, id}
use Rattle.css_selector_text.specs.Specificities.{nothing, one_class, one_id}
use Rattle.css_sheet.specs.NestedSelectors.{nesting_counts}
use Rattle.css_sheet.specs.RuleSelectors.{SelectorRead}

abbrev of : Condition → Selector
of one = record {
  parts = record { combinator = Descendant; conditions = one ∷ [] } ∷ [];
  pseudo_element = None;
}

abbrev read : Option (List ℕ) → Condition → SelectorRead
read element one = record { text = []; selector = Some (of one); pseudo_element = element }

-- `.o`, `#z` and `#z::before`, and a selector that is unsupported
abbrev o : SelectorRead
o = read None (simple (class (codes "o")))

abbrev z : SelectorRead
z = read None (simple (id (codes "z")))

abbrev z_before : SelectorRead
z_before = read (Some (codes "before")) (simple (id (codes "z")))

abbrev unsupported : SelectorRead
unsupported = record { text = []; selector = None; pseudo_element = None }

pub counted :
    (nesting_counts (o ∷ z_before ∷ []) ≡ one_class)
    × (nesting_counts (z_before ∷ o ∷ []) ≡ one_class)
    × (nesting_counts (o ∷ z ∷ z_before ∷ []) ≡ one_id)
    × (nesting_counts (z_before ∷ unsupported ∷ []) ≡ nothing)
counted = (refl, refl, refl, refl)
