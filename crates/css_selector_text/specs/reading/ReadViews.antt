-- What contracts see of a selector that was read.
use Rattle.std.specs.Prelude.{map}
use Rattle.std.specs.Option.{option_map}
use Rattle.css_selector_text.specs.declared.reading.read.Read.{Read}
use Rattle.css_selector_text.specs.declared.selector.Listed.{Listed}
use Rattle.css_selector_text.specs.Components.{Placed}
use Rattle.css_selector_text.specs.Views.{part_of, pseudo_element_of}

abbrev pub read_of : Read → Placed
read_of r = record {
  selector = record {
    parts = map part_of r.parts.items;
    pseudo_element = option_map pseudo_element_of r.pseudo_element;
  };
  from = r.from.now;
  element = r.element.now;
  to = r.to.now;
}

abbrev pub placed_of : Listed → Placed
placed_of l = record {
  selector = l.selector;
  from = l.from.now;
  element = l.element.now;
  to = l.to.now;
}
