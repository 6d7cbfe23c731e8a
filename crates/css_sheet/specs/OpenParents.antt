-- The style rules that are open where the parts of sheets are read, and the lists of selectors that `&`
-- stands for in the rules in them (CSS Nesting 1).
use Rattle.std.specs.Prelude.{◌+◌, ◌-◌, Bool, true, false, not, ◌&&◌, ◌==◌, if◌then◌else◌, List, [], ◌∷◌, ◌++◌, length, take, slice_get, Option, Some, None, Result, Ok, Err}
use Rattle.css_syntax.specs.declared.quality.Fault.{Fault}
use Rattle.css_syntax.specs.Parts.{Stated}
use Rattle.css_selector_text.specs.declared.components.Nesting.{Nesting}
use Rattle.css_selector_text.specs.Components.{Selector}
use Rattle.css_sheet.specs.SheetItems.{is_layer}
use Rattle.css_selector_text.specs.Names.{Names}
use Rattle.css_sheet.specs.RuleSelectors.{SelectorRead, ListContext, context, is_listed, listed_under, selectors_under}
use Rattle.css_sheet.specs.NestedSelectors.{element_selectors, nesting_counts, list_numbered}
use Rattle.css_sheet.specs.SheetParts.{OpenText, RuleKind, style_rule, group_rule, SheetPart, states, begins, ends, stands, PlacedPart, applies_in}

-- What is known of the list of selectors of a style rule: nothing, as long as it was not needed; that it is
-- valid, since a layer is in the rule; or what `&` stands for in the rules in it, since there was one.
pub data OwnList : Type 0 where
  unread : OwnList
  valid : OwnList
  numbered : Nesting → OwnList

-- The style rule that something is in: none; one that has no rules, since it does not apply or a rule
-- that it is in is invalid; or one, by what is before its block, by what its list is read with, and by what
-- is known of the list.
pub data Parent : Type 0 where
  no_rule : Parent
  dropped : Parent
  style : (prelude : Stated) → (under : ListContext) → (own : OwnList) → Parent

-- Whether a style rule is dropped, with all that is in it: it does not apply, or its list or that of a rule
-- that it is in is invalid (CSS Syntax 3, section 9).
abbrev pub is_dropped : Parent → Bool
is_dropped no_rule = false
is_dropped dropped = true
is_dropped (style prelude under unread) = not (is_listed (listed_under under prelude))
is_dropped (style prelude under valid) = false
is_dropped (style prelude under (numbered own)) = false

-- The style rule that is innermost; of each rule that is open, from the outermost, the style rule that it
-- is in, if it is a style rule itself; and the lists so far, of which the first has number 1.
pub record ParentsText : Type 0 where
  pub innermost : Parent
  pub outer : List (Option Parent)
  pub lists : List (List Selector)

-- nothing is open, and there are these lists
abbrev pub none_open : List (List Selector) → ParentsText
none_open lists = record { innermost = no_rule; outer = []; lists = lists }

-- ---- a list for the rules in the innermost rule

-- with the list of this rule, if its selectors are valid
abbrev pub with_selectors : ParentsText → Stated → ListContext → Result (List SelectorRead) Fault
    → ParentsText
with_selectors parents prelude under (Err fault) =
    record { innermost = dropped; outer = parents.outer; lists = parents.lists }
with_selectors parents prelude under (Ok all) = record {
  innermost =
      style prelude under
      (numbered (list_numbered (length parents.lists + 1) (nesting_counts all)));
  outer = parents.outer;
  lists = parents.lists ++ element_selectors all ∷ [];
}

abbrev pub with_list_of : ParentsText → Parent → ParentsText
with_list_of parents no_rule = parents
with_list_of parents dropped = parents
with_list_of parents (style prelude under unread) =
    with_selectors parents prelude under (selectors_under under prelude)
with_list_of parents (style prelude under valid) =
    with_selectors parents prelude under (selectors_under under prelude)
with_list_of parents (style prelude under (numbered own)) = parents

-- The innermost rule has a list. A list is added for its first nested rule, and so lists that `&` means in
-- it are before it.
abbrev pub with_list : ParentsText → ParentsText
with_list parents = with_list_of parents parents.innermost

-- ---- a layer in the innermost rule

abbrev pub if_listed : Bool → Stated → ListContext → Parent
if_listed listed prelude under = if listed then style prelude under valid else dropped

-- the rule, of whose list it is known whether it is valid
abbrev pub checked : Parent → Parent
checked no_rule = no_rule
checked dropped = dropped
checked (style prelude under unread) =
    if_listed (is_listed (listed_under under prelude)) prelude under
checked (style prelude under valid) = style prelude under valid
checked (style prelude under (numbered own)) = style prelude under (numbered own)

-- so it is, if a group rule in it is a layer and applies
abbrev pub checked_for : (is_needed : Bool) → Parent → Parent
checked_for is_needed parent = if is_needed then checked parent else parent

-- ---- rules that begin and end

-- a style rule with this prelude, in this one, where these names are declared
abbrev pub parent_in : Names → Stated → Parent → Parent
parent_in names prelude no_rule = style prelude (context None names) unread
parent_in names prelude dropped = dropped
parent_in names prelude (style other under unread) = dropped
parent_in names prelude (style other under valid) = dropped
parent_in names prelude (style other under (numbered own)) =
    style prelude (context (Some own) names) unread

-- a style rule is open in these, and what is in it is this
abbrev pub entered : ParentsText → Parent → ParentsText
entered parents parent = record {
  innermost = parent;
  outer = parents.outer ++ Some parents.innermost ∷ [];
  lists = parents.lists;
}

abbrev pub with_style : Names → ParentsText → Stated → ParentsText
with_style names parents prelude = entered parents (parent_in names prelude parents.innermost)

-- a rule that does not apply has no rules
abbrev pub begun_style : Names → Bool → Stated → ParentsText → ParentsText
begun_style names applies prelude parents =
    if applies then with_style names (with_list parents) prelude else entered parents dropped

abbrev pub begun : Names → Bool → RuleKind → ParentsText → ParentsText
begun names applies (style_rule prelude) parents = begun_style names applies prelude parents
begun names applies (group_rule keyword prelude) parents = record {
  innermost = checked_for (applies && is_layer keyword) parents.innermost;
  outer = parents.outer ++ None ∷ [];
  lists = parents.lists;
}

-- after the end of the innermost rule: a style rule was in this one
abbrev pub or_same : Parent → Option Parent → Parent
or_same innermost None = innermost
or_same innermost (Some parent) = parent

abbrev pub left_last : ParentsText → Option (Option Parent) → ParentsText
left_last parents None = parents
left_last parents (Some last) = record {
  innermost = or_same parents.innermost last;
  outer = take (length parents.outer - 1) parents.outer;
  lists = parents.lists;
}

abbrev pub left_innermost : ParentsText → ParentsText
left_innermost parents =
    left_last parents (slice_get parents.outer (length parents.outer - 1))

-- what is open before a rule that is then open with these: nothing, if it is the only one
abbrev pub before_rule : List OpenText → ParentsText → ParentsText
before_rule around parents =
    if length around == 1 then none_open parents.lists else parents

-- ---- parts

abbrev pub after_part_of : Names → ParentsText → SheetPart → List OpenText → ParentsText
after_part_of names parents (states text) around = parents
after_part_of names parents (begins kind) around =
    begun names (applies_in around) kind (before_rule around parents)
after_part_of names parents ends around = left_innermost parents
after_part_of names parents (stands item) around = parents

-- after a part
abbrev pub after_part : ParentsText → PlacedPart → ParentsText
after_part parents placed = after_part_of placed.names parents placed.part placed.around

-- after these parts
abbrev pub after_parts : ParentsText → List PlacedPart → ParentsText
after_parts parents [] = parents
after_parts parents (placed ∷ more) = after_parts (after_part parents placed) more
