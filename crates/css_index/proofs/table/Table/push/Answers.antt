use Rattle.std.proofs.Common.{rules, ◌≡◌, length, map, set, sym, ap, ◌∙◌, subst, arith}
use Rattle.std.proofs.lemmas.Grind.{common_steps}
use Rattle.css_selectors.specs.KeyViews.{key_of}
use Rattle.css_index.specs.internal.Filed.{entry_of, AreFiled, HasLastKey, place_by}
use Rattle.css_index.proofs.FileLemmas.{filed_same, one_at}
use Rattle.css_index.specs.internal.Sieves.{AreIn}
use Rattle.css_index.proofs.SieveLemmas.{in_more_entries}
use Rattle.css_index.proofs.WalkLemmas.{filed_push}
use Rattle.css_index.proofs.table.Table.push.Goals as goal

pub invariant_of-self-in-Err : goal.invariant_of-self-in-Err
invariant_of-self-in-Err c =
    let entries = c.self.inside.entries.items in
    let buckets = c.self.inside.buckets.items in
    let back : c.pop.new.self.items ≡ entries = grind (arith, common_steps) in
    let places = c.self.inside.sieve.places.items in (
      subst (λ es. AreFiled (map entry_of es) (set buckets c.place_of-place.result c.push-2.new.self)) (sym back)
          (filed_same (map entry_of entries) buckets c.place_of-place.result c.index_mut.result.now
          c.push-2.new.self c.self.invariant.0 (search rules) c.index_mut.ensures.value (search rules)),
      subst (λ es. AreIn places (map entry_of es)) (sym back) c.self.invariant.1,
    )

pub invariant_of-self-2 : goal.invariant_of-self-2
invariant_of-self-2 c =
    let entries = c.self.inside.entries.items in
    let buckets = c.self.inside.buckets.items in
    let len : c.len.result ≡ length buckets = search rules in
    let old = c.self.inside.sieve.places.items in
    let new = c.add.new.self.places.items in (
      subst (λ es. AreFiled (map entry_of es) (set buckets c.place_of-place.result c.push-2.new.self)) (sym c.in_ok-push.ensures.items)
          (filed_push entries c.args.entry c.filed_after-filed.result buckets c.place_of-place.result
          c.index_mut.result.now c.push-2.new.self c.self.invariant.0
          (c.place_of-place.ensures.value ∙ ap (λ n. place_by n c.args.entry.number) len)
          (search rules) c.index_mut.ensures.value c.filed_after-filed.ensures.same
          (λ repeats. subst (λ xs. HasLastKey xs (key_of c.filed_after-filed.result.key))
          (c.deref.ensures.value ∙ ap (λ v. v.items) (one_at buckets c.place_of-place.result
          c.index.result.now c.index_mut.result.now (search rules) c.index.ensures c.index_mut.ensures.value))
          (c.filed_after-filed.ensures.repeats repeats))
          c.in_default.ensures.items),
      subst (λ es. AreIn new (map entry_of es)) (sym c.in_ok-push.ensures.items)
          (in_more_entries old new entries c.args.entry c.self.invariant.1 c.add.ensures.kept c.add.ensures.added),
    )
