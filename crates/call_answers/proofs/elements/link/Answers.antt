use Rattle.std.proofs.Common.{◌≡◌, ◌+◌, ◌-◌, ◌^◌, ◌<◌, ◌≤◌, Some, length, map, take, drop, get_or, sym, ap, ◌∙◌, arith, rules}
use Rattle.std.specs.Prelude.{[], Ok, Err}
use Rattle.std.proofs.lemmas.List.{drop_more, length-map}
use Rattle.call_answers.specs.declared.elements.TreeElement.{TreeElement}
use Rattle.call_answers.specs.Elements.{Strings, limit_after, fault_in, with_element, tree_from}
use Rattle.call_answers.proofs.Building.{strings_from_index, linked_more, linked_fault, length_with, handed_on}
use Rattle.call_answers.proofs.elements.link.Goals as goal

-- what is passed for an element that is not there
abbrev no_element : TreeElement
no_element = record { depth = 0; attributes = 0; states = 0; namespace = 0 }

pub add_next-requires : goal.add_next-requires
add_next-requires c =
    let bound : length c.args.elements.now < 2 ^ 60 = search rules in
    let first = c.loop-element-test.true in
    omega (arith, bound, first, c.loop-element.invariant.1)

pub returns-in_err-next : goal.returns-in_err-next
returns-in_err-next c =
    let so_far = c.loop-element.invariant.0 in
    let i = c.loop-element.element-index in
    let element = get_or c.args.elements.now i no_element in
    let all : Strings =
    record { strings = map (λ string. string.now) c.args.strings.now; are_all = c.args.are_all } in
    handed_on (λ tree. tree_from [] [] all c.args.elements.now ≡ Ok tree) c.from_residual.result
    c.in_err-next.field-0.0
    (λ reported. fault_in (length c.loop-element.tree + 1) (limit_after so_far.depths) element
    (map (λ string. string.now) (take (length c.args.strings.now - c.loop-element.next)
    (drop c.loop-element.next c.args.strings.now))) ≡ Some reported)
    (λ fault. tree_from [] [] all c.args.elements.now ≡ Err fault)
    c.from_residual.ensures.1 (c.in_err-next.ensures so_far.depths so_far.path_is so_far.same)
    (λ fault due. linked_fault so_far element (drop (i + 1) c.args.elements.now)
    (drop_more c.args.elements.now i no_element c.loop-element-test.true) fault
    (ap (fault_in (length c.loop-element.tree + 1) (limit_after so_far.depths) element)
    (sym (strings_from_index c.args.strings.now c.loop-element.next)) ∙ due))

pub loop-element-preserved : goal.loop-element-preserved
loop-element-preserved c =
    let so_far = c.loop-element.invariant.0 in
    let i = c.loop-element.element-index in
    let element = get_or c.args.elements.now i no_element in
    let next = c.loop-element.next in
    let here = strings_from_index c.args.strings.now next in
    let added = c.in_ok-next.ensures so_far.depths so_far.path_is so_far.same in
    let low : c.in_ok-next.field-0
    ≤ length (drop next (map (λ string. string.now) c.args.strings.now)) =
    omega (
      arith,
      added.4,
      ap length here,
      length-map (take (length c.args.strings.now - next) (drop next c.args.strings.now))
          (λ string. string.now),
    ) in (
      linked_more so_far element (drop (i + 1) c.args.elements.now)
          (drop_more c.args.elements.now i no_element c.loop-element-test.true)
          (ap (fault_in (length c.loop-element.tree + 1) (limit_after so_far.depths) element)
          (sym here) ∙ added.0)
          c.add_next.new.tree
          (added.1 ∙ ap (with_element c.loop-element.tree so_far.depths element) here)
          c.add_next.new.path.items added.2 c.in_ok-next.field-0 added.3 low,
      ap length added.1
          ∙ length_with c.loop-element.tree so_far.depths element (map (λ string. string.now)
          (take (length c.args.strings.now - next) (drop next c.args.strings.now)))
          ∙ ap (λ n. n + 1) c.loop-element.invariant.1,
    )
