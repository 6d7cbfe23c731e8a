-- What contracts see of an attribute in a namespace: the number, and the bytes of the name and of the value.
use Rattle.css_selectors.specs.declared.element.NamespacedAttribute.{NamespacedAttribute as NamespacedAttributeOf}
use Rattle.css_selectors.specs.Documents.{NamespacedAttribute}

abbrev pub namespaced_attribute_of : NamespacedAttributeOf → NamespacedAttribute
namespaced_attribute_of a = record {
  namespace = a.namespace;
  name = a.name.now;
  value = a.value.now;
}
