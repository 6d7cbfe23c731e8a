use Rattle.std.proofs.Common.{◌≡◌, ◌+◌, ◌*◌, take}
use Rattle.std.specs.Fmt.{HasWrittenStyled, IsFlush}
use Rattle.std.specs.List.{flat_map}
use Rattle.css_selector_text.specs.printing.Printing.{condition_text, part_text, list_text}
use Rattle.css_selector_text.specs.Views.{condition_of, part_of}
use Rattle.css_selector_text.proofs.round_trip.ListTexts.{selector_shown, separator}
use Rattle.css_selector_text.proofs.printing.+printing.Given as goal

-- what is written is the text of the first ones
abbrev pub invariant-write_selectors-loop-selector : goal.invariant-write_selectors-loop-selector
invariant-write_selectors-loop-selector g l =
    (l.separator ≡ separator l.selector-index)
    × (IsFlush l.initial.f → HasWrittenStyled g.W.Write.write_str_gives l.initial.f
    (list_text selector_shown (take l.selector-index l.selectors)) l.f)

abbrev pub invariant-write_conditions-loop-condition : goal.invariant-write_conditions-loop-condition
invariant-write_conditions-loop-condition g l =
    IsFlush l.initial.f → HasWrittenStyled g.W.Write.write_str_gives l.initial.f (flat_map
    (λ x. condition_text (condition_of x)) (take l.condition-index l.conditions)) l.f

abbrev pub invariant-write_more-loop-part : goal.invariant-write_more-loop-part
invariant-write_more-loop-part g l =
    IsFlush l.initial.f → HasWrittenStyled g.W.Write.write_str_gives l.initial.f (flat_map
    (λ x. part_text (part_of x)) (take l.part-index l.parts)) l.f

-- at the same depth, each function calls those before it
abbrev pub decreases-write_condition : goal.decreases-write_condition
decreases-write_condition g l = 10 * goal.size-write_condition g l

abbrev pub decreases-write_conditions : goal.decreases-write_conditions
decreases-write_conditions g l = 10 * goal.size-write_conditions g l + 1

abbrev pub decreases-write_more : goal.decreases-write_more
decreases-write_more g l = 10 * goal.size-write_more g l + 2

abbrev pub decreases-write_parts : goal.decreases-write_parts
decreases-write_parts g l = 10 * goal.size-write_parts g l + 3

abbrev pub decreases-write_listed : goal.decreases-write_listed
decreases-write_listed g l = 10 * goal.size-write_listed g l + 4

abbrev pub decreases-write_selectors : goal.decreases-write_selectors
decreases-write_selectors g l = 10 * goal.size-write_selectors g l + 5

abbrev pub decreases-write_list : goal.decreases-write_list
decreases-write_list g l = 10 * goal.size-write_list g l + 6

abbrev pub decreases-write_of : goal.decreases-write_of
decreases-write_of g l = 10 * goal.size-write_of g l + 7

abbrev pub decreases-write_nth_of : goal.decreases-write_nth_of
decreases-write_nth_of g l = 10 * goal.size-write_nth_of g l + 8

abbrev pub decreases-write_tested : goal.decreases-write_tested
decreases-write_tested g l = 10 * goal.size-write_tested g l + 9
