use Rattle.std.proofs.Common.{◌≡◌, ◌∷◌, ◌<◌, ◌≤◌, ◌*◌, ◌+◌, ◌++◌, length, take, true, refl, sym, ap, ◌∙◌, map, arith, rules}
use Rattle.std.specs.List.{flat_map}
use denote.Param.Weighed.{most}
use Rattle.css_selector_text.specs.declared.components.Part.{size-Part}
use Rattle.std.proofs.lemmas.List.{take_all}
use Rattle.std.proofs.Output.{has_written_styled_of_eq}
use Rattle.std.proofs.lemmas.List.Folds.{flat_map-map}
use Rattle.css_text.proofs.round_trip.StyledWrites.{styled_step, styled_two, styled_three}
use Rattle.css_selector_text.proofs.round_trip.PrintLemmas.{both, parts_first}
use Rattle.css_selector_text.specs.printing.Printing.{condition_text, part_text, parts_text, listed_text, list_text}
use Rattle.css_selector_text.specs.Views.{condition_of, part_of}
use Rattle.css_selector_text.proofs.round_trip.ListTexts.{text_not, text_is, text_where, text_tested, selector_shown, separator, separator_later, list_step}
use Rattle.css_selector_text.proofs.printing.+printing.Goals as goal

pub write_selectors-loop-selector-preserved : goal.write_selectors-loop-selector-preserved
write_selectors-loop-selector-preserved g t c = (
  separator_later c.loop-selector.selector-index,
  λ plain.
      let so_far = c.loop-selector.invariant.1 plain in
      let within : c.loop-selector.selector-index < length c.args.selectors.now = omega arith in
      let joined = c.in_ok-write_str.ensures.styled so_far.flush (refl {a = true}) in
      let one = c.in_ok-write_listed.ensures joined.flush (refl {a = true}) in
      styled_three _ _ _ _ _ _ _ _ _ so_far joined one
      (ap (λ s. (list_text selector_shown (take c.loop-selector.selector-index c.args.selectors.now) ++ s)
      ++ listed_text (map part_of c.as_slice.result.now)) c.loop-selector.invariant.0
      ∙ ap (λ cs. (list_text selector_shown (take c.loop-selector.selector-index c.args.selectors.now)
      ++ separator c.loop-selector.selector-index) ++ listed_text (map part_of cs)) c.as_slice.ensures.value
      ∙ list_step selector_shown c.args.selectors.now c.loop-selector.selector-index
      c.selector-item.result within c.selector-item.is),
)

pub write_selectors-returns : goal.write_selectors-returns
write_selectors-returns g t c = λ plain ok. has_written_styled_of_eq _ _ _ _ _
    (ap (list_text selector_shown)
    (take_all c.loop-selector.selector-index c.args.selectors.now (omega arith)))
    (c.loop-selector.invariant.1 plain)

pub write_condition-returns-in-Not : goal.write_condition-returns-in-Not
write_condition-returns-in-Not g t c = λ flush ok.
    has_written_styled_of_eq _ _ _ _ _
    (text_not c.args.condition.now c.in-Not.selectors c.as_slice.result.now c.in-Not.is c.as_slice.ensures.value)
    (c.write_list.ensures flush ok)

pub write_condition-returns-in-Is : goal.write_condition-returns-in-Is
write_condition-returns-in-Is g t c = λ flush ok.
    has_written_styled_of_eq _ _ _ _ _
    (text_is c.args.condition.now c.in-Is.selectors c.as_slice-in-Is.result.now c.in-Is.is c.as_slice-in-Is.ensures.value)
    (c.write_list-in-Is.ensures flush ok)

pub write_condition-returns-in-Where : goal.write_condition-returns-in-Where
write_condition-returns-in-Where g t c = λ flush ok.
    has_written_styled_of_eq _ _ _ _ _
    (text_where c.args.condition.now c.in-Where.selectors c.as_slice-in-Where.result.now c.in-Where.is c.as_slice-in-Where.ensures.value)
    (c.write_list-in-Where.ensures flush ok)

pub write_conditions-loop-condition-preserved : goal.write_conditions-loop-condition-preserved
write_conditions-loop-condition-preserved g t c = λ plain.
    let so_far = c.loop-condition.invariant plain in
    let within : c.loop-condition.condition-index < length c.args.conditions.now = omega arith in
    styled_step _ (λ x. condition_text (condition_of x)) _ _ _ _ _ _ within
    c.condition-item.is so_far
    (c.write_condition.ensures so_far.flush (search rules))

pub write_conditions-returns : goal.write_conditions-returns
write_conditions-returns g t c = λ plain ok. has_written_styled_of_eq _ _ _ _ _
    (ap (flat_map (λ x. condition_text (condition_of x)))
    (take_all c.loop-condition.condition-index c.args.conditions.now (omega arith))
    ∙ sym (flat_map-map (condition_text) condition_of c.args.conditions.now))
    (c.loop-condition.invariant plain)

pub write_list-returns : goal.write_list-returns
write_list-returns g t c = λ flush ok.
    let one = c.in_ok-write_str.ensures.styled flush (refl {a = true}) in
    let two = c.in_ok-write_selectors.ensures one.flush (refl {a = true}) in
    let three = c.write_str-2.ensures.styled two.flush ok in
    styled_three _ _ _ _ _ _ _ _ _ one two three refl

pub write_more-loop-part-preserved : goal.write_more-loop-part-preserved
write_more-loop-part-preserved g t c = λ plain.
    let so_far = c.loop-part.invariant plain in
    let within : c.loop-part.part-index < length c.args.parts.now = omega arith in
    let sign = c.in_ok-write_str.ensures.styled so_far.flush (refl {a = true}) in
    styled_step _ (λ x. part_text (part_of x)) _ _ _ _ _ _ within c.part-item.is so_far
    (styled_two _ _ _ _ _ _ _ sign (c.write_conditions.ensures sign.flush (search rules))
    (both c.before-in-loop-part.ensures
    (ap (λ l. flat_map condition_text (map condition_of l)) c.as_slice.ensures.value)))

pub write_more-returns : goal.write_more-returns
write_more-returns g t c = λ plain ok. has_written_styled_of_eq _ _ _ _ _
    (ap (flat_map (λ x. part_text (part_of x)))
    (take_all c.loop-part.part-index c.args.parts.now (omega arith))
    ∙ sym (flat_map-map (part_text) part_of c.args.parts.now))
    (c.loop-part.invariant plain)

pub write_parts-returns : goal.write_parts-returns
write_parts-returns g t c = λ flush ok.
    let split : c.args.parts.now ≡ c.in-Some.first.now ∷ c.in-Some.rest.now = search rules in
    let one = c.in_ok-write_conditions.ensures flush (refl {a = true}) in
    let two = c.write_more.ensures one.flush ok in
    styled_two _ _ _ _ _ _ _ one two
    (parts_first c.args.parts.now c.in-Some.first.now c.in-Some.rest.now _ c.as_slice.ensures.value
    split)

pub write_parts-write_more-requires : goal.write_parts-write_more-requires
write_parts-write_more-requires g t c κs within =
    let split : c.args.parts.now ≡ c.in-Some.first.now ∷ c.in-Some.rest.now = search rules in
    let low : most (λ x. size-Part x) c.in-Some.rest.now ≤ most (λ x. size-Part x) c.args.parts.now =
    rw split (omega arith) in
    let h : 10 * most (λ x. size-Part x) c.args.parts.now + 3 ≡ t = c.decreases in
    (omega (arith, low, h), within)

pub write_condition-returns-in-Tested : goal.write_condition-returns-in-Tested
write_condition-returns-in-Tested g t c = λ flush ok.
    has_written_styled_of_eq _ _ _ _ _
    (text_tested c.args.condition.now c.in-Tested.selectors c.as_slice-in-Tested.result.now _
    c.in-Tested.is c.as_slice-in-Tested.ensures.value)
    (c.write_tested.ensures flush ok)

pub write_listed-returns : goal.write_listed-returns
write_listed-returns g t c = λ flush ok.
    let one = c.in_ok-write_str.ensures.styled flush (refl {a = true}) in
    let two = c.write_parts.ensures one.flush ok in
    styled_two _ _ _ _ _ _ _ one two
    (ap (λ s. s ++ parts_text (map part_of c.args.parts.now)) c.leading.ensures)

pub write_of-returns : goal.write_of-returns
write_of-returns g t c = λ flush ok.
    let one = c.in_ok-write_progression.ensures flush (refl {a = true}) in
    let two = c.in_ok-write_str.ensures.styled one.flush (refl {a = true}) in
    let three = c.write_selectors.ensures two.flush ok in
    styled_three _ _ _ _ _ _ _ _ _ one two three refl

pub write_nth_of-returns : goal.write_nth_of-returns
write_nth_of-returns g t c = λ flush ok.
    let one = c.in_ok-write_str.ensures.styled flush (refl {a = true}) in
    let two = c.in_ok-write_of.ensures one.flush (refl {a = true}) in
    let three = c.write_str-2.ensures.styled two.flush ok in
    styled_three _ _ _ _ _ _ _ _ _ one two three refl
