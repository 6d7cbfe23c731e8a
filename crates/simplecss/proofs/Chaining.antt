-- One more link at the end of the chains.
-- Serves `RuleIndex::new` (a rule more in the index).
use Rattle.std.proofs.Common.{◌≡◌, ℕ, ◌+◌, ◌<◌, ◌≤◌, ◌⊎◌, inl, inr, List, [], ◌∷◌, ◌++◌, Option, None, Some, length, sym, ap, ◌∙◌, subst, arith, length-append}
use Rattle.std.specs.Option.{option_map_or}
use Rattle.std.proofs.Math.Seq.{get_or-append_seam}
use Rattle.std.proofs.lemmas.List.{length-map, map-append, get_or_append_left}
use Rattle.std.proofs.lemmas.Option.{slice_get-get_or}
use Rattle.simplecss_grammar.specs.Components.{Component}
use Rattle.simplecss_selector.specs.Buckets.{Bucket, bucket_of}
use Rattle.simplecss.specs.internal.Chains.{selectors_of, IsLastBefore, earlier_at, AreChained}
use Rattle.simplecss.specs.internal.LastByBucket.{last_in_bucket, TakesBucket}
use Rattle.simplecss.specs.SelectorIndices.{key_at}
use Rattle.simplecss.specs.declared.index.link.Link.{Link}
use Rattle.simplecss.specs.declared.index.last_by_bucket.LastByBucket.{LastByBucket}

module _ (selectors : List (List Component)) (s : List Component) where
  key_before : (index : ℕ) → index < length selectors
      → key_at (selectors ++ s ∷ []) index ≡ key_at selectors index
  key_before index lt = ap bucket_of (get_or_append_left selectors (s ∷ []) [] index lt)

  key_last : key_at (selectors ++ s ∷ []) (length selectors) ≡ bucket_of s
  key_last = ap bucket_of (get_or-append_seam selectors s [] [])

  -- what is the last before an end still is
  last_same : (end : ℕ) (key : Bucket) (left : Option ℕ) → end ≤ length selectors
      → IsLastBefore selectors end key left → IsLastBefore (selectors ++ s ∷ []) end key left
  last_same end key None le h =
      λ index lt e. h index lt (sym (key_before index (omega (arith, le, lt))) ∙ e)
  last_same end key (Some last) le h = (
    h.0,
    key_before last (omega (arith, le, h.0)) ∙ h.1,
    λ index from lt e. h.2 index from lt (sym (key_before index (omega (arith, le, lt))) ∙ e),
  )

  order : (index end : ℕ) → index < end + 1 → (index < end) ⊎ (end ≡ index)
  order index end lt = grind arith

  -- and it is the last before the new end, too, where the new selector has another key
  last_more : (key : Bucket) (left : Option ℕ) → (bucket_of s ≡ key → ⊥)
      → IsLastBefore (selectors ++ s ∷ []) (length selectors) key left
      → IsLastBefore (selectors ++ s ∷ []) (length selectors + 1) key left
  last_more key None apart h = λ index lt e. elim (order index (length selectors) lt) [
    | inl before ↦ h index before e
    | inr same ↦
        apart (sym key_last ∙ subst (λ p. key_at (selectors ++ s ∷ []) p ≡ key) (sym same) e)
  ]
  last_more key (Some last) apart h = (
    omega (arith, h.0),
    h.1,
    λ index from lt e. elim (order index (length selectors) lt) [
      | inl before ↦ h.2 index from before e
      | inr same ↦
          apart (sym key_last ∙ subst (λ p. key_at (selectors ++ s ∷ []) p ≡ key) (sym same) e)
    ],
  )

  last_here : (key : Bucket) → bucket_of s ≡ key
      → IsLastBefore (selectors ++ s ∷ []) (length selectors + 1) key (Some (length selectors))
  last_here key e = (omega arith, key_last ∙ e, λ index from lt h. absurd (omega (arith, from, lt)))

  -- each key has its last index, once the new index is put under the key of the new selector
  lasts_more : (old new : LastByBucket)
      → ((key : Bucket) → IsLastBefore selectors (length selectors) key (last_in_bucket old key))
      → TakesBucket old new (bucket_of s) (length selectors) → (key : Bucket)
      → IsLastBefore (selectors ++ s ∷ []) (length selectors + 1) key (last_in_bucket new key)
  lasts_more old new last takes key = elim (takes key) [
    | inl h ↦ subst (IsLastBefore (selectors ++ s ∷ []) (length selectors + 1) key) (sym h.1)
        (last_here key h.0)
    | inr h ↦ subst (IsLastBefore (selectors ++ s ∷ []) (length selectors + 1) key) (sym h.1)
        (last_more key (last_in_bucket old key) h.0
        (last_same (length selectors) key (last_in_bucket old key) (omega arith) (last key)))
  ]

earlier_before : (links : List Link) (link : Link) (index : ℕ) → index < length links
    → earlier_at (links ++ link ∷ []) index ≡ earlier_at links index
earlier_before links link index lt =
    let longer : index < length (links ++ link ∷ []) =
    omega (arith, lt, length-append links (link ∷ [])) in
    ap (λ r. option_map_or (λ l. l.earlier) r None) (slice_get-get_or (links ++ link ∷ []) index
    link longer ∙ ap Some (get_or_append_left links (link ∷ []) link index lt)
    ∙ sym (slice_get-get_or links index link lt))

earlier_last : (links : List Link) (link : Link)
    → earlier_at (links ++ link ∷ []) (length links) ≡ link.earlier
earlier_last links link =
    let longer : length links < length (links ++ link ∷ []) =
    omega (arith, length-append links (link ∷ [])) in
    ap (λ r. option_map_or (λ l. l.earlier) r None) (slice_get-get_or (links ++ link ∷ [])
    (length links) link longer ∙ ap Some (get_or-append_seam links link [] link))

-- a link of a selector is appended
pub chain_push : (old new : LastByBucket) (links : List Link) (link : Link) → AreChained old links
    → link.earlier ≡ last_in_bucket old (bucket_of link.selector.value)
    → TakesBucket old new (bucket_of link.selector.value) (length links)
    → AreChained new (links ++ link ∷ [])
chain_push old new links link chained leads takes = record {
  last = λ key. subst
      (λ ss. IsLastBefore ss (length (links ++ link ∷ [])) key (last_in_bucket new key)) (sym more)
      (subst (λ n. IsLastBefore (ss ++ s ∷ []) n key (last_in_bucket new key)) (sym number) (lasts_more
      ss s old new last_of (subst (TakesBucket old new (bucket_of s)) (sym same) takes) key));
  earlier = λ index lt. subst (λ ss. IsLastBefore ss index (key_at ss index)
      (earlier_at (links ++ link ∷ []) index)) (sym more) (at index
      (order ss s index (length links) (omega (arith, lt, length-append links (link ∷ [])))));
}
  where
    ss : List (List Component)
    ss = selectors_of links

    s : List Component
    s = link.selector.value

    more : selectors_of (links ++ link ∷ []) ≡ ss ++ s ∷ []
    more = map-append (λ l. l.selector.value) links (link ∷ [])

    same : length ss ≡ length links
    same = length-map links (λ l. l.selector.value)

    number : length (links ++ link ∷ []) ≡ length ss + 1
    number = length-append links (link ∷ []) ∙ ap (λ n. n + 1) (sym same)

    last_of : (key : Bucket) → IsLastBefore ss (length ss) key (last_in_bucket old key)
    last_of key =
        subst (λ n. IsLastBefore ss n key (last_in_bucket old key)) (sym same) (chained.last key)

    at : (index : ℕ) → (index < length links) ⊎ (length links ≡ index)
        → IsLastBefore (ss ++ s ∷ []) index (key_at (ss ++ s ∷ []) index)
        (earlier_at (links ++ link ∷ []) index)
    at index (inl before) =
        subst (λ key. IsLastBefore (ss ++ s ∷ []) index key (earlier_at (links ++ link ∷ []) index))
        (sym (key_before ss s index (omega (arith, before, same))))
        (subst (IsLastBefore (ss ++ s ∷ []) index (key_at ss index))
        (sym (earlier_before links link index before))
        (last_same ss s index (key_at ss index) (earlier_at links index)
        (omega (arith, before, same)) (chained.earlier index before)))
    at index (inr here) =
        subst (λ p. IsLastBefore (ss ++ s ∷ []) p (key_at (ss ++ s ∷ []) p)
        (earlier_at (links ++ link ∷ []) p)) (same ∙ here)
        (subst (λ key. IsLastBefore (ss ++ s ∷ []) (length ss) key
        (earlier_at (links ++ link ∷ []) (length ss))) (sym (key_last ss s))
        (subst (IsLastBefore (ss ++ s ∷ []) (length ss) (bucket_of s))
        (sym (ap (earlier_at (links ++ link ∷ [])) same ∙ earlier_last links link ∙ leads))
        (last_same ss s (length ss) (bucket_of s) (last_in_bucket old (bucket_of s)) (omega arith)
        (last_of (bucket_of s)))))

-- a link that leads to the last selector with its key is appended
pub link_more : (old new : LastByBucket) (links more : List Link) (link : Link) (index : ℕ)
    (known : Option ℕ) (s : List Component) (key : Bucket) → AreChained old links
    → index ≡ length links → key ≡ bucket_of s → known ≡ last_in_bucket old key
    → TakesBucket old new key index → link.earlier ≡ known → link.selector.value ≡ s
    → more ≡ links ++ link ∷ []
    → AreChained new more × (selectors_of more ≡ selectors_of links ++ s ∷ [])
link_more old new links more link index known s key chained index_is key_is is takes leads value e =
    let own : key ≡ bucket_of link.selector.value = key_is ∙ ap bucket_of (sym value) in (
      subst (AreChained new) (sym e) (chain_push old new links link chained (leads ∙ is
          ∙ ap (last_in_bucket old) own) (subst (TakesBucket old new (bucket_of link.selector.value))
          index_is (subst (λ k. TakesBucket old new k index) own takes))),
      ap selectors_of e ∙ map-append (λ l. l.selector.value) links (link ∷ [])
          ∙ ap (λ v. selectors_of links ++ v ∷ []) value,
    )
