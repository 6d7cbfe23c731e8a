-- What contracts see of what a caller declares, and of where a condition is read.
use Rattle.std.specs.Prelude.{ℕ, List, map}
use Rattle.std.specs.Borrow.{Bor}
use Rattle.css_selector_text.specs.declared.names.Names.{Names as NamesOf}
use Rattle.css_selector_text.specs.declared.names.Prefix.{Prefix as PrefixOf}
use Rattle.css_selector_text.specs.declared.reading.room.Room.{Room as RoomOf}
use Rattle.css_selector_text.specs.Names.{Names}
use Rattle.css_selector_text.specs.reading.Rooms.{Room}

abbrev pub texts_of : List (Bor (List ℕ)) → List (List ℕ)
texts_of texts = map (λ one. one.now) texts

abbrev pub prefix_of : PrefixOf → List ℕ × ℕ
prefix_of prefix = (prefix.name.now, prefix.number)

abbrev pub names_of : NamesOf → Names
names_of names = record {
  states = texts_of names.states.now;
  functions = texts_of names.functions.now;
  elements = texts_of names.elements.now;
  element_functions = texts_of names.element_functions.now;
  default_namespace = names.default_namespace;
  prefixes = map prefix_of names.prefixes.now;
}

abbrev pub room_seen : RoomOf → Room
room_seen room = record {
  depth = room.depth;
  in_has = room.in_has;
  names = names_of room.names.now;
}
