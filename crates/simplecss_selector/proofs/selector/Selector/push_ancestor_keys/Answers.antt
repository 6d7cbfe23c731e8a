use Rattle.std.proofs.Common.{◌<◌, ◌∷◌, [], Some, None, map, sym, ap, ◌∙◌, subst, append-nil}
use Rattle.std.specs.Option.{option_map}
use Rattle.std.proofs.lemmas.List.{map-append}
use Rattle.simplecss_selector.specs.KeyViews.{key_value}
use Rattle.simplecss_selector.proofs.AncestorKeyLemmas.{keys_pushed}
use Rattle.simplecss_selector.proofs.selector.Selector.push_ancestor_keys.Goals as goal
use Rattle.simplecss_selector.proofs.selector.Selector.push_ancestor_keys.Goals.{in-Some+in_ok-push, in_default}

pub loop-index-preserved : goal.loop-index-preserved
loop-index-preserved c =
    let index = c.loop-index.index in
    let within = subst (λ n. index < n) c.len-index-end.ensures c.loop-index-test.true in
    let before = c.loop-index.keys.items in
    elim c.match-step_key.branch [
      | in-Some+in_ok-push w ↦ keys_pushed c.args.self.now index _ (map key_value before) _
          (Some (key_value w.in-Some.key)) within c.loop-index.invariant
          (sym (ap (option_map key_value) w.in-Some.is) ∙ c.step_key.ensures)
          (ap (λ keys. map key_value keys.items) w.keys-is
          ∙ ap (map key_value) w.in_ok-push.ensures.items
          ∙ map-append key_value before (w.in-Some.key ∷ []))
      | in_default w ↦ keys_pushed c.args.self.now index _ (map key_value before) _ None within
          c.loop-index.invariant
          (sym (ap (option_map key_value) w.in_default.is) ∙ c.step_key.ensures)
          (ap (λ keys. map key_value keys.items) w.keys-is ∙ sym (append-nil (map key_value before)))
    ]
