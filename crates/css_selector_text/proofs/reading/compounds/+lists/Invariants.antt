use Rattle.std.proofs.Common.{◌≡◌, ◌∷◌, [], map, ◌+◌, ◌*◌}
use denote.Text.{Utf8}
use denote.Shadow.{shadow}
use Rattle.std.specs.Option.{option_map, option_to_list}
use Rattle.css_selector_text.specs.Components.Condition.{simple}
use Rattle.css_selector_text.specs.reading.Grammar.{next_condition, next_part_in, next_listed, selectors_after, keep}
use Rattle.css_selector_text.specs.reading.Readings.{items, items_up_to, found_before}
use Rattle.css_selector_text.specs.NameViews.{names_of, room_seen}
use Rattle.css_selector_text.specs.Views.{complex_of, part_of, condition_of, simple_of}
use Rattle.css_selector_text.proofs.reading.compounds.+lists.Given as goal

abbrev pub invariant-read_more-conditions : goal.invariant-read_more-conditions
invariant-read_more-conditions l = record {
  text : shadow (Utf8 l.rest);
  found : found_before (map condition_of l.conditions.items) (items_up_to l.left (next_condition (room_seen l.room)) l.rest)
      ≡ found_before (map (λ s. simple (simple_of s)) (option_to_list l.fn.first)) (items (next_condition (room_seen l.fn.room)) l.fn.text);
}

abbrev pub decreases-read_more-conditions : goal.decreases-read_more-conditions
decreases-read_more-conditions l = l.left

abbrev pub invariant-read_parts-parts : goal.invariant-read_parts-parts
invariant-read_parts-parts l = record {
  text : shadow (Utf8 l.rest);
  found : found_before (map part_of l.parts.items)
      (items_up_to l.left (next_part_in (names_of l.room.names.now) (next_condition (room_seen l.room))) l.rest)
      ≡ found_before (part_of l.fn.first ∷ [])
      (items (next_part_in (names_of l.fn.room.names.now) (next_condition (room_seen l.fn.room))) l.fn.text);
}

abbrev pub decreases-read_parts-parts : goal.decreases-read_parts-parts
decreases-read_parts-parts l = l.left

abbrev pub invariant-read_selectors-selectors : goal.invariant-read_selectors-selectors
invariant-read_selectors-selectors l = record {
  text : shadow (Utf8 l.rest);
  found : found_before (map complex_of l.selectors.items)
      (keep (items_up_to l.left (next_listed (names_of l.room.names.now) l.kind (next_condition (room_seen l.room))) l.rest))
      ≡ selectors_after (names_of l.fn.room.names.now) l.fn.kind (next_condition (room_seen l.fn.room)) (option_map complex_of l.fn.first) l.fn.text;
}

abbrev pub decreases-read_selectors-selectors : goal.decreases-read_selectors-selectors
decreases-read_selectors-selectors l = l.left

-- each function calls those before it at the same depth, and `read_list` all at one less
abbrev pub decreases-read_list : goal.decreases-read_list
decreases-read_list l = 16 * l.room.depth

abbrev pub decreases-read_of : goal.decreases-read_of
decreases-read_of l = 16 * l.room.depth + 1

abbrev pub decreases-read_after_progression : goal.decreases-read_after_progression
decreases-read_after_progression l = 16 * l.room.depth + 2

abbrev pub decreases-read_functional : goal.decreases-read_functional
decreases-read_functional l = 16 * l.room.depth + 3

abbrev pub decreases-read_argument : goal.decreases-read_argument
decreases-read_argument l = 16 * l.room.depth + 4

abbrev pub decreases-read_pseudo_condition : goal.decreases-read_pseudo_condition
decreases-read_pseudo_condition l = 16 * l.room.depth + 5

abbrev pub decreases-next_condition : goal.decreases-next_condition
decreases-next_condition l = 16 * l.room.depth + 6

abbrev pub decreases-read_more : goal.decreases-read_more
decreases-read_more l = 16 * l.room.depth + 7

abbrev pub decreases-read_compound : goal.decreases-read_compound
decreases-read_compound l = 16 * l.room.depth + 8

abbrev pub decreases-next_part : goal.decreases-next_part
decreases-next_part l = 16 * l.room.depth + 9

abbrev pub decreases-read_parts : goal.decreases-read_parts
decreases-read_parts l = 16 * l.room.depth + 10

abbrev pub decreases-read_joined : goal.decreases-read_joined
decreases-read_joined l = 16 * l.room.depth + 11

abbrev pub decreases-read_complex : goal.decreases-read_complex
decreases-read_complex l = 16 * l.room.depth + 12

abbrev pub decreases-read_listed : goal.decreases-read_listed
decreases-read_listed l = 16 * l.room.depth + 13

abbrev pub decreases-next_listed : goal.decreases-next_listed
decreases-next_listed l = 16 * l.room.depth + 14

abbrev pub decreases-read_selectors : goal.decreases-read_selectors
decreases-read_selectors l = 16 * l.room.depth + 15
