-- The indices in a chain.
-- Serves `RuleIndex::matching_counted` (a chain has all the indices of its key).
use Rattle.std.proofs.Common.{◌≡◌, ℕ, ◌+◌, ◌<◌, ◌≤◌, ◌⊎◌, inl, inr, List, [], ◌∷◌, ◌++◌, Bool, true, false, Option, None, Some, IsTrue, length, take, get_or, refl, sym, ap, ◌∙◌, subst, arith}
use Rattle.std.specs.List.{Contains, filter}
use Rattle.std.specs.Prelude.{is_some}
use Rattle.std.specs.Borrow.{Bor}
use Rattle.std.specs.Option.{option_map, option_map_or}
use Rattle.std.proofs.lemmas.Bool.{false≢true}
use Rattle.std.proofs.lemmas.Option.{slice_get-get_or}
use Rattle.std.proofs.lemmas.List.{length-map, take_more, get_or_append_left}
use Rattle.std.proofs.lemmas.List.Elements.{Contains-get_or, Contains-append_left, Contains-push, Contains-push_cases}
use Rattle.simplecss_grammar.specs.Components.{Component}
use Rattle.simplecss_selector.specs.Buckets.{Bucket}
use Rattle.simplecss.specs.internal.Chains.{selectors_of, IsLastBefore, earlier_at, AreChained}
use Rattle.simplecss.specs.declared.index.link.Link.{Link}
use Rattle.simplecss.specs.declared.index.last_by_bucket.LastByBucket.{LastByBucket}
use Rattle.simplecss.specs.OpenPaths.{Path}
use Rattle.simplecss.specs.internal.Kept.{is_kept}
use Rattle.simplecss.specs.SelectorIndices.{selector_at, key_at, Adds}
use Rattle.simplecss.proofs.Adding.{adds_none, adds_one, adds_then, adds_as}

-- which indices of selectors a path keeps, if there is one
abbrev pub kept_by : List (List Component) → Option (Bor Path) → ℕ → Bool
kept_by selectors path index =
    is_kept selectors (option_map (λ p. p.now) path) (selector_at selectors index)

all_pass : (indices : List ℕ) → indices ≡ filter (λ index. true) indices
all_pass [] = refl
all_pass (index ∷ indices) = ap (λ is. index ∷ is) (all_pass indices)

-- without a path all are kept
pub none_dropped : (selectors : List (List Component)) (path : Option (Bor Path))
    (indices : List ℕ) → is_some path ≡ false → indices ≡ filter (kept_by selectors path) indices
none_dropped selectors None indices h = all_pass indices
none_dropped selectors (Some p) indices h = absurd (false≢true (sym h))

-- how far a chain continues from here
abbrev pub end_of : Option ℕ → ℕ
end_of None = 0
end_of (Some index) = index + 1

module _ (selectors : List (List Component)) (keeps : ℕ → Bool) where
  -- the indices from one on and before another with the key
  abbrev pub Between : ℕ → ℕ → Bucket → ℕ → Type 0
  Between start end key index = (start ≤ index) × (index < end) × (key_at selectors index ≡ key)

  -- those of them that are kept
  abbrev pub Kept : ℕ → ℕ → Bucket → ℕ → Type 0
  Kept start end key index = Between start end key index × IsTrue (keeps index)

  abbrev pub IsBefore : ℕ → Bucket → Option ℕ → Type 0
  IsBefore end key None = Unit {0}
  IsBefore end key (Some index) = (index < end) × (key_at selectors index ≡ key)

  -- those that are kept of the indices from the end of what is left of the chain on were added
  pub record Follows (start : ℕ) (old new : List ℕ) (left : Option ℕ) : Type 0 where
    pub before : IsBefore start (key_at selectors start) left
    pub adds : Adds old new (Kept (end_of left) start (key_at selectors start))

  last_before : (end : ℕ) (key : Bucket) (left : Option ℕ) → IsLastBefore selectors end key left
      → IsBefore end key left
  last_before end key None h = tt
  last_before end key (Some index) h = (h.0, h.1)

  none_after : (end : ℕ) (key : Bucket) (left : Option ℕ) → IsLastBefore selectors end key left
      → (index : ℕ) → Between (end_of left) end key index → ⊥
  none_after end key None h index b = h index b.1 b.2
  none_after end key (Some last) h index b = h.2 index (omega (arith, b.0)) b.1 b.2

  pub chain_start : (start : ℕ) (old : List ℕ) (left : Option ℕ)
      → IsLastBefore selectors start (key_at selectors start) left → Follows start old old left
  chain_start start old left h = record {
    before = last_before start (key_at selectors start) left h;
    adds = adds_none old (Kept (end_of left) start (key_at selectors start))
        (λ index b. none_after start (key_at selectors start) left h index b.0);
  }

  -- the chain goes on at an earlier index
  module _ (start : ℕ) (old new : List ℕ) (index : ℕ) (left : Option ℕ)
      (f : Follows start old new (Some index))
      (h : IsLastBefore selectors index (key_at selectors index) left) where
    same : key_at selectors index ≡ key_at selectors start
    same = f.before.1

    further : (left : Option ℕ) → IsBefore index (key_at selectors index) left
        → IsBefore start (key_at selectors start) left
    further None s = tt
    further (Some p) s = let lt = f.before.0 in (omega (arith, s.0, lt), s.1 ∙ same)

    le : (left : Option ℕ) → IsBefore index (key_at selectors index) left → end_of left ≤ index
    le None s = omega arith
    le (Some p) s = omega (arith, s.0)

    there : (p : ℕ) → Between (index + 1) start (key_at selectors start) p ⊎ (index ≡ p)
        → Between (end_of left) start (key_at selectors start) p
    there p (inl b) =
        let l = le left (last_before index (key_at selectors index) left h) in
        (omega (arith, b.0, l), b.1, b.2)
    there p (inr e) = subst (Between (end_of left) start (key_at selectors start)) e
        (le left (last_before index (key_at selectors index) left h), f.before.0, same)

    order : (p : ℕ) → (index + 1 ≤ p) ⊎ ((index ≡ p) ⊎ (p < index))
    order p = grind arith

    back : (p : ℕ) → Between (end_of left) start (key_at selectors start) p
        → Between (index + 1) start (key_at selectors start) p ⊎ (index ≡ p)
    back p b = at (order p)
      where
        at : (index + 1 ≤ p) ⊎ ((index ≡ p) ⊎ (p < index))
            → Between (index + 1) start (key_at selectors start) p ⊎ (index ≡ p)
        at (inl l) = inl (l, b.1, b.2)
        at (inr (inl e)) = inr e
        at (inr (inr l)) =
            absurd (none_after index (key_at selectors index) left h p (b.0, l, b.2 ∙ sym same))

    -- the index is kept
    pub chain_more : (more : List ℕ) → IsTrue (keeps index) → more ≡ new ++ index ∷ []
        → Follows start old more left
    chain_more more kept e = record {
      before = further left (last_before index (key_at selectors index) left h);
      adds = adds_as old more (λ p. (
        λ s. elim s [
          | inl k ↦ (there p (inl k.0), k.1)
          | inr x ↦ (there p (inr x), subst (λ i. IsTrue (keeps i)) x kept)
        ],
        λ k. elim (back p k.0) [ inl b ↦ inl (b, k.1) | inr x ↦ inr x ],
      )) (adds_then old new more f.adds (adds_one new more index e));
    }

    -- the index is left out
    pub chain_less : (keeps index ≡ false) → Follows start old new left
    chain_less dropped = record {
      before = further left (last_before index (key_at selectors index) left h);
      adds = adds_as old new (λ p. (
        λ k. (there p (inl k.0), k.1),
        λ k. elim (back p k.0) [
          | inl b ↦ (b, k.1)
          | inr x ↦ absurd
              (false≢true (sym dropped ∙ subst (λ i. IsTrue (keeps i)) (sym x) k.1))
        ],
      )) f.adds;
    }

  -- a chain continues at an index that is known
  pub chain_at : (start : ℕ) (old new : List ℕ) (left : Option ℕ) (index : ℕ) → left ≡ Some index
      → Follows start old new left → Follows start old new (Some index)
  chain_at start old new left index is f = subst (Follows start old new) is f

  -- the kept indices before one, with its key
  abbrev pub Earlier : ℕ → ℕ → Type 0
  Earlier index other = (other < index) × (key_at selectors other ≡ key_at selectors index)
      × IsTrue (keeps other)

  pub chain_end : (start : ℕ) (old new : List ℕ) → Follows start old new None
      → Adds old new (Earlier start)
  chain_end start old new f =
      adds_as old new (λ p. (λ b. (b.0.1, b.0.2, b.1), λ h. ((omega arith, h.0, h.1), h.2))) f.adds

  -- the kept indices before one of the starts, with its key
  abbrev pub After : List ℕ → ℕ → Type 0
  After starts other = (index : ℕ) × Contains starts index × (other < index)
      × (key_at selectors other ≡ key_at selectors index) × IsTrue (keeps other)

  pub one_chain : (starts old new more : List ℕ) (index : ℕ) → Adds old new (After starts)
      → Adds new more (Earlier index) → Adds old more (After (starts ++ index ∷ []))
  one_chain starts old new more index before next =
      adds_as old more (λ other. (there other, back other)) (adds_then old new more before next)
    where
      there : (other : ℕ) → After starts other ⊎ Earlier index other
          → After (starts ++ index ∷ []) other
      there other (inl h) =
          (h.0, Contains-append_left starts (index ∷ []) h.0 h.1, h.2, h.3, h.4)
      there other (inr h) = (index, Contains-push starts index, h.0, h.1, h.2)

      at : (other p : ℕ) → Earlier p other → Contains starts p ⊎ (index ≡ p)
          → After starts other ⊎ Earlier index other
      at other p h (inl c) = inl (p, c, h.0, h.1, h.2)
      at other p h (inr e) = inr (subst (λ x. Earlier x other) (sym e) h)

      back : (other : ℕ) → After (starts ++ index ∷ []) other
          → After starts other ⊎ Earlier index other
      back other h =
          at other h.0 (h.2, h.3, h.4) (Contains-push_cases starts index h.0 h.1)

-- a selector has a link
pub link_there : (links : List Link) (selectors : List (List Component)) (index : ℕ)
    → selectors_of links ≡ selectors → index < length selectors → index < length links
link_there links selectors index is lt =
    omega (arith, lt, ap length is, length-map links (λ l. l.selector.value))

-- where a link that was read leads
pub leads : (lasts : LastByBucket) (links : List Link) (selectors : List (List Component))
    (index : ℕ) (link : Link) → AreChained lasts links → selectors_of links ≡ selectors
    → index < length selectors → link ≡ get_or links index link
    → IsLastBefore selectors index (key_at selectors index) link.earlier
leads lasts links selectors index link chained is lt read =
    let within = link_there links selectors index is lt in
    let leads_to : link.earlier ≡ earlier_at links index = ap (λ l. l.earlier) read ∙ sym
    (ap (λ r. option_map_or (λ l. l.earlier) r None) (slice_get-get_or links index link within)) in
    subst (λ ss. IsLastBefore ss index (key_at ss index) link.earlier) is
    (subst (IsLastBefore (selectors_of links) index (key_at (selectors_of links) index))
    (sym leads_to) (chained.earlier index within))

pub leads_back : (selectors : List (List Component)) (end : ℕ) (key : Bucket) (left : Option ℕ)
    → IsLastBefore selectors end key left → end_of left < end + 1
leads_back selectors end key None h = omega arith
leads_back selectors end key (Some index) h = omega (arith, h.0)

-- a start that is read where indices were added after the starts
pub start_read : {P : ℕ → Type 0} (starts indices : List ℕ) (i index : ℕ) → Adds starts indices P
    → i < length starts → index ≡ get_or indices i index → index ≡ get_or starts i index
start_read starts indices i index adds lt read =
    read ∙ ap (λ xs. get_or xs i index) adds.1 ∙ get_or_append_left starts adds.0 index i lt

pub start_there : (starts : List ℕ) (i index : ℕ) → i < length starts
    → index ≡ get_or starts i index → Contains starts index
start_there starts i index lt read =
    subst (Contains starts) (sym read) (Contains-get_or starts i index lt)

pub start_more : (selectors : List (List Component)) (keeps : ℕ → Bool)
    (starts indices more : List ℕ) (i index : ℕ)
    → i < length starts → index ≡ get_or starts i index
    → Adds starts indices (After selectors keeps (take i starts))
    → Adds indices more (Earlier selectors keeps index)
    → Adds starts more (After selectors keeps (take (i + 1) starts))
start_more selectors keeps starts indices more i index lt read before next =
    let taken : take (i + 1) starts ≡ take i starts ++ index ∷ [] =
    take_more starts i index lt ∙ ap (λ p. take i starts ++ p ∷ []) (sym read) in
    subst (λ xs. Adds starts more (After selectors keeps xs)) (sym taken)
    (one_chain selectors keeps (take i starts) starts indices more index before next)
