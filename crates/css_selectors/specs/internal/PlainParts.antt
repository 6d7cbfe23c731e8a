-- Parts of a selector in which nothing is numbered.
use Rattle.std.specs.Prelude.{Bool, true, false}
use Rattle.std.specs.List.{list_all}
use Rattle.css_selector_text.specs.Components.{Simple, Condition, Part}
use Rattle.css_selector_text.specs.Components.Simple.{nesting}
use Rattle.css_selector_text.specs.Components.Condition.{simple, negation, any_of, where_any, tested}

-- it is not `&`
abbrev pub is_plain_simple : Simple → Bool
is_plain_simple (nesting list) = false
is_plain_simple s = true

-- it has no list, and is not `&`
abbrev pub is_plain_condition : Condition → Bool
is_plain_condition (simple s) = is_plain_simple s
is_plain_condition (negation selectors) = false
is_plain_condition (any_of selectors) = false
is_plain_condition (where_any selectors) = false
is_plain_condition (tested test selectors) = false

-- each of its conditions is plain
abbrev pub is_plain_part : Part → Bool
is_plain_part p = list_all is_plain_condition p.conditions
