use Rattle.std.proofs.Common.{rules, ◌≡◌, ◌∷◌, [], true, false, map, length, refl, sym, ap, subst, ◌∙◌}
use Rattle.std.proofs.lemmas.List.{take_all}
use Rattle.std.proofs.lemmas.Option.{slice_get_read}
use Rattle.css_selectors.specs.KeyViews.{key_of}
use Rattle.css_index.specs.KeyNumbers.{number_of}
use Rattle.css_index.specs.internal.Filed.{entry_of, found_by, is_found_by, place_by, AreRuns}
use Rattle.css_index.specs.internal.Added.{AreAdded}
use Rattle.css_index.proofs.AddedLemmas.{added_none, added_step}
use Rattle.css_index.proofs.FileLemmas.{found_there, repeat_found, last_is}
use Rattle.css_index.proofs.table.Table.push_filed.Goals.{then-entry, else-entry, then-found+in_ok-push_kept, else-found}
use Rattle.css_index.proofs.table.Table.push_filed.Goals as goal

pub loop-entry-preserved : goal.loop-entry-preserved
loop-entry-preserved g c =
    let Keeps = g.K.Keeping.Keeps c.args.kept.now in
    let old = c.args.indices.now.items in
    let before = c.loop-entry.indices.items in
    let key = key_of c.args.key.now in
    let entries = c.deref-entry-items.result.now in
    let i = c.loop-entry.entry-index in
    let item = c.entry-item.result in
    let runs : AreRuns entries = subst AreRuns (sym c.deref-entry-items.ensures.value)
    (c.self.invariant.0.runs c.place_of-place.result c.index.result.now
    (slice_get_read c.self.inside.buckets.items _ c.place_of-place.result c.index.result.now refl
    (search rules) c.index.ensures)) in
    let found : c.if-entry.found ≡ is_found_by key (entry_of item) = elim c.if-entry.branch [
      | then-entry w ↦ w.found-is ∙ repeat_found entries i item key c.loop-entry.found runs
          c.loop-entry-test.true c.entry-item.is w.if-entry.true c.loop-entry.invariant.1
      | else-entry w ↦ w.found-is ∙ w.is_found-found.ensures
    ] in (
      elim c.if-found.branch [
        | then-found+in_ok-push_kept w ↦
            added_step Keeps old before c.if-found.indices.items entries i item key true
            c.loop-entry.invariant.0
            (subst (AreAdded Keeps before (item.rule ∷ [])) (sym (ap (λ v. v.items) w.indices-is))
            w.in_ok-push_kept.ensures)
            c.loop-entry-test.true c.entry-item.is (sym found ∙ w.if-found.true)
        | else-found w ↦
            added_step Keeps old before c.if-found.indices.items entries i item key false
            c.loop-entry.invariant.0
            (subst (AreAdded Keeps before []) (sym (ap (λ v. v.items) w.indices-is))
            (added_none Keeps before))
            c.loop-entry-test.true c.entry-item.is (sym found ∙ w.if-found.false)
      ],
      λ last some there. found ∙ ap (λ e. is_found_by key (entry_of e))
          (last_is entries i item last c.loop-entry-test.true c.entry-item.is there),
    )

pub returns : goal.returns
returns g c =
    let Keeps = g.K.Keeping.Keeps c.args.kept.now in
    let key = key_of c.args.key.now in
    let len : c.len.result ≡ length c.self.inside.buckets.items = search rules in
    subst (λ found. AreAdded Keeps c.args.indices.now.items found c.loop-entry.indices.items) (
    ap (λ es. found_by (map entry_of es) key)
    (take_all c.loop-entry.entry-index c.deref-entry-items.result.now c.loop-entry-test.false
    ∙ c.deref-entry-items.ensures.value)
    ∙ found_there _ c.self.inside.buckets.items key c.place_of-place.result
    c.index.result.now c.self.invariant.0
    (c.place_of-place.ensures.value ∙ ap (place_by c.len.result) c.number_of-number.ensures
    ∙ ap (λ n. place_by n (number_of key)) len)
    (search rules) c.index.ensures
    ∙ ap (λ es. found_by es key) c.self.view_is
    ) c.loop-entry.invariant.0
