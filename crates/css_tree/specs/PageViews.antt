-- What values of the crate denote as parts of a page.
use Rattle.std.specs.Prelude.{List, map}
use Rattle.std.specs.Global.{Vec}
use Rattle.css_selectors.specs.Documents.{NamespacedAttribute as Attribute}
use Rattle.css_selectors.specs.ElementViews.{namespaced_attribute_of}
use Rattle.css_selectors.specs.declared.element.NamespacedAttribute.{NamespacedAttribute}
use Rattle.css_tree.specs.Pages.{NamedState as State}
use Rattle.css_tree.specs.declared.numbered_tree.NamedState.{NamedState}

-- a state as it is named
abbrev pub state_of : NamedState → State
state_of state = record { name = state.name.now; elements = state.elements.items }

-- the attributes of an element that are in namespaces
abbrev pub attributes_of : Vec NamespacedAttribute → List Attribute
attributes_of attributes = map namespaced_attribute_of attributes.items
