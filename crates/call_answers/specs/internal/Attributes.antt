-- What private contracts see of attributes in namespaces.
use Rattle.std.specs.Prelude.{ℕ, List, map}
use Rattle.std.specs.Global.{Vec}
use Rattle.css_selectors.specs.Documents.{NamespacedAttribute}
use Rattle.css_selectors.specs.ElementViews.{namespaced_attribute_of}
use Rattle.css_selectors.specs.declared.element.NamespacedAttribute.{NamespacedAttribute as NamespacedAttributeOf}
use Rattle.call_answers.specs.declared.elements.PlacedAttribute.{PlacedAttribute}

-- lists of them
abbrev pub lists_of : List (Vec NamespacedAttributeOf) → List (List NamespacedAttribute)
lists_of lists = map (λ (list : Vec NamespacedAttributeOf). map namespaced_attribute_of list.items) lists

abbrev pub placed_attribute_of : PlacedAttribute → ℕ × NamespacedAttribute
placed_attribute_of placed = (placed.element, namespaced_attribute_of placed.attribute)
