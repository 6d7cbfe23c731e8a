use Rattle.std.proofs.Common.{◌≡◌, ◌+◌, ◌-◌, ◌++◌, ◌∷◌, ◌≤◌, [], None, length, map, get_or, take, drop, refl, sym, ap, ◌∙◌, subst, arith}
use Rattle.std.proofs.lemmas.List.{length-map}
use Rattle.css_elements.specs.Rows.{Row, with_states}
use Rattle.call_answers.specs.Elements.{IsPath, limit_after, fault_in, strings_of, element_row, states_in}
use Rattle.call_answers.proofs.Building.{sound, element_added, states_given, path_more}
use Rattle.call_answers.proofs.elements.add_next.Goals as goal

pub returns : goal.returns
returns c = λ depths is same.
    let all = map (λ string. string.now) c.args.strings.now in
    let limit : c.len.result ≡ limit_after depths =
    c.len.ensures ∙ c.args.path.now.ok.0 ∙ is.limit in
    let none : fault_in (length c.args.tree.now + 1) (limit_after depths) c.args.element all
    ≡ None =
    ap (λ n. fault_in (n + 1) (limit_after depths) c.args.element all) (sym c.len-index.ensures)
    ∙ ap (λ n. fault_in (c.len-index.result + 1) n c.args.element all) (sym limit)
    ∙ sym c.in_ok-fault.ensures ∙ c.in_default.is in
    let fits = sound (length c.args.tree.now + 1) (limit_after depths) c.args.element all none in
    let many : strings_of c.args.element ≤ length c.args.strings.now =
    omega (arith, fits.1, length-map c.args.strings.now (λ string. string.now)) in
    let low : c.args.element.depth ≤ length c.args.path.now.items =
    omega (arith, fits.0, is.limit) in
    let row : Row = element_row c.args.tree.now c.parent_of-parent.result
    (get_or c.args.strings.now 0 (record { ref_ptr = (0, 0); now = [] })).now
    (map (λ string. string.now) (take (length c.args.strings.now - 1)
    (drop 1 c.args.strings.now))) c.args.element.attributes in
    let path = subst (λ p. IsPath p depths) (sym c.deref.ensures.value) is in
    let low_too : c.args.element.depth ≤ length c.deref.result.now =
    subst (λ p. c.args.element.depth ≤ length p) (sym c.deref.ensures.value) low in (
      none,
      c.in_ok-set_states.ensures.ok
          ∙ ap (λ rows. with_states rows c.len-index.result c.states_in.result)
          c.in_ok-add_element.ensures
          ∙ ap (λ index. with_states (c.args.tree.now ++ row ∷ []) index c.states_in.result)
          c.len-index.ensures
          ∙ ap (with_states (c.args.tree.now ++ row ∷ []) (length c.args.tree.now))
          c.states_in.ensures
          ∙ states_given c.args.tree.now row (states_in c.args.element.states)
          ∙ element_added c.args.tree.now depths c.args.element c.args.strings.now
          (record { ref_ptr = (0, 0); now = [] }) (omega (arith, many)) c.parent_of-parent.result
          (c.parent_of-parent.ensures depths path low_too),
      path_more is c.args.element.depth c.len-index.result low
          (c.len-index.ensures ∙ sym same) c.push.new.self.items (c.in_ok-push.ensures.items
          ∙ ap (λ p. p ++ c.len-index.result ∷ []) c.truncate.ensures.items),
      refl,
      many,
    )
