-- Paths of open elements.
-- Serves `OpenPath` and `RuleIndex::matching_exact`.
use Rattle.std.proofs.Common.{◌≡◌, ℕ, zero, suc, ◌+◌, ◌<◌, ◌≤◌, ◌⊎◌, ◌↔◌, inl, inr, List, [], ◌∷◌, ◌++◌, Bool, true, false, IsTrue, Option, Some, None, length, take, drop, get_or, map, refl, sym, ap, ◌∙◌, subst, arith, append-nil, MatchOption, Bor, ◌-◌}
use Rattle.std.specs.Prelude.{◌&&◌, ◌||◌, reverse, nat_lt}
use Rattle.std.proofs.lemmas.Bool.Decides.{nat_tests}
use Rattle.std.specs.List.{All, Contains, list_any, list_all, slice_range}
use Rattle.std.specs.Option.{unwrap_or}
use Rattle.std.proofs.lemmas.List.Folds.{drop_split}
use Rattle.std.proofs.Math.Seq.{drop-append_seam, take-append_seam}
use Rattle.std.proofs.lemmas.Bool.{false≢true}
use Rattle.std.proofs.lemmas.List.{take-append-drop, take_more, reverse-append, length-reverse, length-map, get_or_past, get_or-reverse, drop_all}
use Rattle.std.proofs.lemmas.List.Elements.{All-push, Contains-append_left, Contains-append_right, Contains-append_cases}
use Rattle.simplecss_grammar.specs.Components.{Component}
use Rattle.simplecss_selector.specs.Trees.{Tree, SiblingsShareParent}
use Rattle.simplecss_selector.specs.AncestorKeys.{ancestor_keys, SomeAncestorHas}
use Rattle.simplecss_selector.specs.Keys.{Key, Reported, HasKey, ReportsKeys, reports_key}
use Rattle.simplecss_selector.specs.Keys.Key.{by_nothing}
use Rattle.simplecss_selector.specs.Placements.{HasPlacement, IsAncestor}
use Rattle.simplecss_selector.specs.Buckets.{Bucket, IsReportedFor}
use Rattle.simplecss_selector.specs.Buckets.Bucket.{of_parent}
use Rattle.simplecss_selector.proofs.Ancestors.{no_ancestor, ancestor_split}
use Rattle.simplecss_selector.proofs.AncestorKeyLemmas.{keys_needed}
use Rattle.simplecss.specs.internal.Chains.{selectors_of, IsLastBefore, AreChained}
use Rattle.simplecss.specs.internal.LastByKey.{last_for, KeyLeads}
use Rattle.simplecss.specs.internal.LastByBucket.{NeighbourLeads}
use Rattle.simplecss.specs.internal.NeededKeys.{keys_of, AreNumbered, AreNumbersOf, AreNeeded}
use Rattle.simplecss.specs.OpenPaths.{same_key, needed_keys, numbered, IsLast, AreReported, AreParentStarts, AreOpened, listed_after, starts_after, all_but_first, is_number, are_open}
use Rattle.simplecss.specs.internal.Kept.{top_starts}
use Rattle.simplecss.specs.SelectorIndices.{selector_at, Adds}
use Rattle.simplecss.specs.declared.index.last_by_key.LastByKey.{LastByKey}
use Rattle.simplecss.specs.declared.index.last_by_bucket.LastByBucket.{LastByBucket}
use Rattle.simplecss.specs.declared.index.link.Link.{Link}
use Rattle.simplecss.specs.declared.index.needed_keys.NeededKeys.{NeededKeys}
use Rattle.simplecss.proofs.Adding.{contains_none}
use Rattle.simplecss.proofs.Candidates.{lasts_lead}
use Rattle.simplecss.proofs.NeededNumbers.{same_is, is_same, needed_numbers}

-- ---- the last index of a key

same_last : (selectors : List (List Component)) (bucket : Bucket) (last : ℕ) (r : Option ℕ)
    → IsLast selectors bucket last → IsLastBefore selectors (length selectors) bucket r
    → r ≡ Some last
same_last selectors bucket last None h none = absurd (none last h.0 h.1)
same_last selectors bucket last (Some other) h found = at (order other last)
  where
    order : (m n : ℕ) → (m ≡ n) ⊎ ((m < n) ⊎ (n < m))
    order m n = grind arith

    at : (other ≡ last) ⊎ ((other < last) ⊎ (last < other)) → Some other ≡ Some last
    at (inl e) = ap Some e
    at (inr (inl lt)) = absurd (found.2 last lt h.0 h.1)
    at (inr (inr lt)) = absurd (h.2 other lt found.0 found.1)

module _ (lasts : LastByBucket) (links : List Link) (selectors : List (List Component))
    (chained : AreChained lasts links) (is : selectors_of links ≡ selectors) where
  leads_last : (key : Key) (last : ℕ)
      → (last_for lasts.parent key ≡ Some last) ↔ IsLast selectors (of_parent key) last
  leads_last key last = (
    λ e. subst (IsLastBefore selectors (length selectors) (of_parent key)) e
        (lasts_lead lasts links selectors chained is (of_parent key)),
    λ h. same_last selectors (of_parent key) last (last_for lasts.parent key) h
        (lasts_lead lasts links selectors chained is (of_parent key)),
  )

  -- what the keys of a parent lead to are its starts
  pub parent_starts : (reported : Reported) (starts : List ℕ)
      → ((index : ℕ) → Contains starts index ↔ KeyLeads reported lasts.parent index)
      → AreParentStarts selectors reported starts
  parent_starts reported starts led last = (
    λ c. let h = (led last).0 c in (h.0, h.1, (leads_last h.0 last).0 h.2),
    λ h. (led last).1 (h.0, h.1, (leads_last h.0 last).1 h.2),
  )

  starts_parent : (reported : Reported) (starts : List ℕ)
      → AreParentStarts selectors reported starts
      → (index : ℕ) → Contains starts index ↔ KeyLeads reported lasts.parent index
  starts_parent reported starts are index = (
    λ c. let h = (are index).0 c in (h.0, h.1, (leads_last h.0 index).1 h.2),
    λ h. (are index).1 (h.0, h.1, (leads_last h.0 index).0 h.2),
  )

  -- the starts of the element that was opened last are those to which the keys of the parent lead
  pub parent_led : {Node Self : Type 0} (tree : Tree Node) (node : Self → Node)
      (reported : Self → Reported) (place : Option Node) (marks : List (ℕ × ℕ))
      (listed starts : List ℕ)
      → AreOpened tree node reported selectors place marks listed starts
      → (t : Option Reported) × IsReportedFor node reported place t
      × ((index : ℕ) → Contains (top_starts marks starts) index
      ↔ NeighbourLeads lasts.parent t index)
  parent_led tree node reported None [] listed starts h = (
    None,
    tt,
    λ index. (
      λ c. contains_none index (subst (λ xs. Contains xs index) h.1 c),
      λ bad. absurd bad,
    ),
  )
  parent_led tree node reported None (m ∷ ms) listed starts h = absurd h
  parent_led tree node reported (Some n) [] listed starts h = absurd h
  parent_led tree node reported (Some n) (m ∷ ms) listed starts ((e, same, all, of), path) = (
    Some (reported e),
    (e, same, refl),
    starts_parent (reported e) (drop m.1 starts) of,
  )

-- ---- elements are opened and closed

-- the numbers to which the keys of an element lead are those that it reports
pub numbers_reported : (needed : NeededKeys) (keys : List Key) (reported : Reported)
    (numbers : List ℕ) → AreNumbered needed.numbers keys
    → ((number : ℕ) → Contains numbers number ↔ KeyLeads reported needed.numbers number)
    → AreReported keys reported numbers
numbers_reported needed keys reported numbers all led number = (
  λ c. let h = (led number).0 c in
      let at = all.only h.0 number h.2 in
      (at.0, subst (λ key. IsTrue (reports_key reported key)) (sym at.1) h.1),
  λ h. (led number).1 (numbered keys number, h.1, all.known number h.0),
)

module _ {Node Self : Type 0} (tree : Tree Node) (node : Self → Node) (reported : Self → Reported)
    (selectors : List (List Component)) where
  pub path_entered : (e : Self) (marks : List (ℕ × ℕ)) (listed starts numbers more : List ℕ)
      → AreOpened tree node reported selectors (tree.parent (node e)) marks listed starts
      → AreReported (needed_keys selectors) (reported e) numbers
      → AreParentStarts selectors (reported e) more
      → AreOpened tree node reported selectors (Some (node e))
      ((length listed, length starts) ∷ marks) (listed ++ numbers) (starts ++ more)
  path_entered e marks listed starts numbers more path all of = (
    (
      e,
      refl,
      subst (AreReported (needed_keys selectors) (reported e))
          (sym (drop-append_seam listed numbers)) all,
      subst (AreParentStarts selectors (reported e)) (sym (drop-append_seam starts more)) of,
    ),
    subst (λ xs. AreOpened tree node reported selectors (tree.parent (node e)) marks xs
        (take (length starts) (starts ++ more))) (sym (take-append_seam listed numbers))
        (subst (AreOpened tree node reported selectors (tree.parent (node e)) marks listed)
        (sym (take-append_seam starts more)) path),
  )

  pub path_left : (n : Node) (marks : List (ℕ × ℕ)) (listed starts : List ℕ)
      → AreOpened tree node reported selectors (Some n) marks listed starts
      → AreOpened tree node reported selectors (tree.parent n) (all_but_first marks)
      (listed_after marks listed) (starts_after marks starts)
  path_left n [] listed starts path = absurd path
  path_left n (m ∷ ms) listed starts path = path.1

  -- the numbers that are listed are those of keys
  pub listed_within : (p : Option Node) (marks : List (ℕ × ℕ)) (listed starts : List ℕ)
      → AreOpened tree node reported selectors p marks listed starts
      → (number : ℕ) → Contains listed number → number < length (needed_keys selectors)
  listed_within None [] listed starts path number c =
      absurd (contains_none number (subst (λ xs. Contains xs number) path.0 c))
  listed_within None (m ∷ ms) listed starts path number c = absurd path
  listed_within (Some n) [] listed starts path number c = absurd path
  listed_within (Some n) (m ∷ ms) listed starts ((e, same, all, of), path) number c =
      elim (Contains-append_cases (take m.0 listed) (drop m.0 listed) number
      (subst (λ xs. Contains xs number) (sym (take-append-drop m.0 listed)) c)) [
        | inl x ↦ listed_within (tree.parent n) ms (take m.0 listed) (take m.1 starts) path number x
        | inr y ↦ ((all number).0 y).0
      ]

  open_above : ((e : Self) → ReportsKeys tree (node e) (reported e)) → (number : ℕ)
      → number < length (needed_keys selectors) → (p : Option Node) (marks : List (ℕ × ℕ))
      (listed starts : List ℕ) → AreOpened tree node reported selectors p marks listed starts
      → (a n : Node) → tree.parent n ≡ p
      → IsAncestor tree a n → HasKey tree a (numbered (needed_keys selectors) number)
      → Contains listed number
  open_above law number lt None marks listed starts path a n e is has =
      absurd (no_ancestor tree e is)
  open_above law number lt (Some p) [] listed starts path a n e is has = absurd path
  open_above law number lt (Some p) (m ∷ ms) listed starts ((s, same, all, of), path) a n e is has =
      at (open_above law number lt (tree.parent p) ms (take m.0 listed) (take m.1 starts) path a p
      refl) (ancestor_split tree e is)
    where
      at : (IsAncestor tree a p → HasKey tree a (numbered (needed_keys selectors) number)
          → Contains (take m.0 listed) number) → (a ≡ p) ⊎ IsAncestor tree a p
          → Contains listed number
      at more (inl q) = subst (λ xs. Contains xs number) (take-append-drop m.0 listed)
          (Contains-append_right (take m.0 listed) (drop m.0 listed) number ((all number).1 (
            lt,
            law s (numbered (needed_keys selectors) number)
                (subst (λ x. HasKey tree x (numbered (needed_keys selectors) number))
                (q ∙ sym same) has),
          )))
      at more (inr q) = subst (λ xs. Contains xs number) (take-append-drop m.0 listed)
          (Contains-append_left (take m.0 listed) (drop m.0 listed) number (more q has))

  -- a key that an ancestor has is open
  pub key_open : ((e : Self) → ReportsKeys tree (node e) (reported e)) → (number : ℕ)
      → number < length (needed_keys selectors) → (n : Node) (marks : List (ℕ × ℕ))
      (listed starts : List ℕ)
      → AreOpened tree node reported selectors (tree.parent n) marks listed starts
      → SomeAncestorHas tree n (numbered (needed_keys selectors) number) → Contains listed number
  key_open law number lt n marks listed starts path (a, is, has) =
      open_above law number lt (tree.parent n) marks listed starts path a n refl is has

-- ---- what a selector needs is open

both : (a b : Bool) → (a && b) ≡ true → (a ≡ true) × (b ≡ true)
both true b h = (refl, h)
both false b h = absurd (false≢true h)

is_within : (number size : ℕ) → nat_lt number size ≡ true → number < size
is_within number size h = grind (arith, nat_tests)

within_is : (number size : ℕ) → number < size → nat_lt number size ≡ true
within_is number size h = grind (arith, nat_tests)

any_found : (keys : List Key) (key : Key) (listed : List ℕ)
    → list_any (is_number keys key) listed ≡ true
    → (number : ℕ) × Contains listed number × (number < length keys)
    × (numbered keys number ≡ key)
any_found keys key [] h = absurd (false≢true h)
any_found keys key (x ∷ xs) h =
    at (is_number keys key x) refl (any_found keys key xs) h
  where
    at : (b : Bool) → is_number keys key x ≡ b
        → (list_any (is_number keys key) xs ≡ true
        → (number : ℕ) × Contains xs number × (number < length keys)
        × (numbered keys number ≡ key))
        → (b || list_any (is_number keys key) xs) ≡ true
        → (number : ℕ) × Contains (x ∷ xs) number × (number < length keys)
        × (numbered keys number ≡ key)
    at true is later e =
        let two = both (nat_lt x (length keys)) (same_key (numbered keys x) key) is in (
          x,
          Contains-append_left (x ∷ []) xs x (0, omega arith, refl),
          is_within x (length keys) two.0,
          same_is _ key two.1,
        )
    at false is later e =
        let found = later e in
        (found.0, Contains-append_right (x ∷ []) xs found.0 found.1, found.2, found.3)

or_true : (b : Bool) → (b || true) ≡ true
or_true true = refl
or_true false = refl

found_any : (keys : List Key) (listed : List ℕ) (number : ℕ) → number < length keys
    → Contains listed number → list_any (is_number keys (numbered keys number)) listed ≡ true
found_any keys [] number lt c = absurd (contains_none number c)
found_any keys (x ∷ xs) number lt c =
    elim (Contains-append_cases (x ∷ []) xs number c) [
      | inl h ↦ ap (λ b. b || list_any (is_number keys (numbered keys number)) xs)
          (here (only h.0 h.1 h.2))
      | inr h ↦ ap (λ b. is_number keys (numbered keys number) x || b)
          (found_any keys xs number lt h) ∙ or_true (is_number keys (numbered keys number) x)
    ]
  where
    only : (k : ℕ) → k < 1 → get_or (x ∷ []) k number ≡ number → x ≡ number
    only zero lt e = e
    only (suc k) lt e = absurd (omega (arith, lt))

    here : x ≡ number → is_number keys (numbered keys number) x ≡ true
    here e = ap (is_number keys (numbered keys number)) e
        ∙ ap (λ b. b && same_key (numbered keys number) (numbered keys number))
        (within_is number (length keys) lt)
        ∙ is_same (numbered keys number) (numbered keys number) refl

-- the keys of open numbers are open
all_any : (keys : List Key) (listed numbers : List ℕ)
    → All (λ number. number < length keys) numbers → All (Contains listed) numbers
    → list_all (λ key. list_any (is_number keys key) listed) (map (numbered keys) numbers) ≡ true
all_any keys listed [] within all = refl
all_any keys listed (x ∷ xs) within all =
    ap (λ b. b && list_all (λ key. list_any (is_number keys key) listed)
    (map (numbered keys) xs))
    (found_any keys listed x (within 0 x (omega arith)) (all 0 x (omega arith)))
    ∙ all_any keys listed xs (λ k d lt. within (suc k) d (omega (arith, lt)))
    (λ k d lt. all (suc k) d (omega (arith, lt)))

-- and so are numbers of open keys
any_all : (keys : List Key) (listed numbers : List ℕ)
    → ((a b : ℕ) → a < length keys → b < length keys → numbered keys a ≡ numbered keys b → a ≡ b)
    → All (λ number. number < length keys) numbers
    → list_all (λ key. list_any (is_number keys key) listed) (map (numbered keys) numbers) ≡ true
    → All (Contains listed) numbers
any_all keys listed [] apart within h k d lt = absurd (omega (arith, lt))
any_all keys listed (x ∷ xs) apart within h zero d lt =
    let first = (both _ _ h).0 in
    let found = any_found keys (numbered keys x) listed first in
    subst (Contains listed)
    (apart found.0 x found.2 (within 0 x (omega arith)) found.3) found.1
any_all keys listed (x ∷ xs) apart within h (suc k) d lt =
    any_all keys listed xs apart (λ i e less. within (suc i) e (omega (arith, less)))
    ((both _ _ h).1) k d (omega (arith, lt))

pub numbers_apart : (numbers : LastByKey) (keys : List Key) → AreNumbered numbers keys
    → (a b : ℕ) → a < length keys → b < length keys → numbered keys a ≡ numbered keys b → a ≡ b
numbers_apart numbers keys all a b lt lt' e =
    let same : Some a ≡ Some b =
    sym (all.known a lt) ∙ ap (last_for numbers) e ∙ all.known b lt' in cc

two_ways : (r b : Bool) → (r ≡ true → b ≡ true) → (b ≡ true → r ≡ true) → r ≡ b
two_ways true b there back = sym (there refl)
two_ways false true there back = back refl
two_ways false false there back = refl

-- whether all numbers are open says whether all keys are
pub open_is : (numbers : LastByKey) (keys : List Key) (listed needed : List ℕ)
    (selector : List Component) (r : Bool) → AreNumbered numbers keys
    → AreNumbersOf keys needed (ancestor_keys selector)
    → IsTrue r ↔ All (Contains listed) needed → r ≡ are_open keys listed selector
open_is numbers keys listed needed selector r all are h =
    let same = ap (list_all (λ key. list_any (is_number keys key) listed)) are.are in
    two_ways r (are_open keys listed selector)
    (λ e. sym same ∙ all_any keys listed needed are.within (h.0 e))
    (λ e. h.1 (any_all keys listed needed (numbers_apart numbers keys all) are.within
    (same ∙ e)))

-- what a link has is needed by its selector
-- the selector of a link at an index
pub link_selector : (links : List Link) (index : ℕ) (link : Link) → index < length links
    → selector_at (selectors_of links) index ≡ (get_or links index link).selector.value
link_selector [] index link lt = absurd (omega (arith, lt))
link_selector (x ∷ xs) zero link lt = refl
link_selector (x ∷ xs) (suc index) link lt = link_selector xs index link (omega (arith, lt))

pub link_needs : (needed : NeededKeys) (links : List Link) (selectors : List (List Component))
    (index : ℕ) (link : Link) → AreNeeded needed links → selectors_of links ≡ selectors
    → index < length links → link ≡ get_or links index link
    → AreNumbersOf (needed_keys selectors) link.needed.items
    (ancestor_keys (selector_at selectors index))
link_needs needed links selectors index link are is lt read =
    let selector : link.selector.value ≡ selector_at selectors index =
    ap (λ l. l.selector.value) read ∙ sym (link_selector links index link lt)
    ∙ ap (λ ss. selector_at ss index) is in
    subst (λ keys. AreNumbersOf keys link.needed.items (ancestor_keys (selector_at selectors index)))
    (are.keys ∙ ap needed_keys is)
    (subst (λ s. AreNumbersOf (keys_of needed) link.needed.items (ancestor_keys s)) selector
    (subst (λ l. AreNumbersOf (keys_of needed) l.needed.items (ancestor_keys l.selector.value))
    (sym read) (are.have index link lt)))

-- an index after the last has no selector, and needs nothing
pub none_open : (links : List Link) (selectors : List (List Component)) (keys : List Key)
    (listed : List ℕ) (index : ℕ) → selectors_of links ≡ selectors → length links ≤ index
    → true ≡ are_open keys listed (selector_at selectors index)
none_open links selectors keys listed index is past =
    let number : length selectors ≡ length links =
    sym (ap length is) ∙ length-map links (λ l. l.selector.value) in
    sym (ap (are_open keys listed)
    (get_or_past selectors index [] (omega (arith, number, past))))

-- a selector with a placement needs keys that are open
pub placed_open : {Node Self : Type 0} (tree : Tree Node) (node : Self → Node)
    (reported : Self → Reported) (selectors : List (List Component))
    → ((e : Self) → ReportsKeys tree (node e) (reported e)) → SiblingsShareParent tree
    → (n : Node) (marks : List (ℕ × ℕ)) (listed starts : List ℕ)
    → AreOpened tree node reported selectors (tree.parent n) marks listed starts
    → (needed : List ℕ) (selector : List Component)
    → AreNumbersOf (needed_keys selectors) needed (ancestor_keys selector)
    → HasPlacement tree selector n → are_open (needed_keys selectors) listed selector ≡ true
placed_open tree node reported selectors law shared n marks listed starts path needed selector are
    placed =
    sym (ap (list_all (λ key. list_any (is_number (needed_keys selectors) key) listed)) are.are)
    ∙ all_any (needed_keys selectors) listed needed are.within (λ k d lt.
    let within = are.within k d lt in
    key_open tree node reported selectors law (get_or needed k d) within n marks listed starts path
    (subst (SomeAncestorHas tree n) (at k d lt) (all_there k lt)))
  where
    keys : List Key
    keys = needed_keys selectors

    all_there : (k : ℕ) → k < length needed
        → SomeAncestorHas tree n (get_or (map (numbered keys) needed) k by_nothing)
    all_there k lt = subst (λ ks. SomeAncestorHas tree n (get_or ks k by_nothing)) (sym are.are)
        (keys_needed tree shared selector n placed k by_nothing
        (subst (λ ks. k < length ks) are.are (omega (arith, lt, length-map needed (numbered keys)))))

    at : (k d : ℕ) → k < length needed
        → get_or (map (numbered keys) needed) k by_nothing ≡ numbered keys (get_or needed k d)
    at k d lt = mapped needed k d lt
      where
        mapped : (xs : List ℕ) (k d : ℕ) → k < length xs
            → get_or (map (numbered keys) xs) k by_nothing ≡ numbered keys (get_or xs k d)
        mapped [] k d lt = absurd (omega (arith, lt))
        mapped (x ∷ xs) zero d lt = refl
        mapped (x ∷ xs) (suc k) d lt = mapped xs k d (omega (arith, lt))

-- the same of a selector at an index
pub index_placed : {Node Self : Type 0} (tree : Tree Node) (node : Self → Node)
    (reported : Self → Reported) (selectors : List (List Component))
    → ((e : Self) → ReportsKeys tree (node e) (reported e)) → SiblingsShareParent tree
    → (n : Node) (marks : List (ℕ × ℕ)) (listed starts : List ℕ)
    → AreOpened tree node reported selectors (tree.parent n) marks listed starts
    → (index : ℕ) → index < length selectors → HasPlacement tree (selector_at selectors index) n
    → IsTrue (are_open (needed_keys selectors) listed (selector_at selectors index))
index_placed tree node reported selectors law shared n marks listed starts path index lt placed =
    let needed = needed_numbers selectors index lt in
    placed_open tree node reported selectors law shared n marks listed starts path
    needed.0 (selector_at selectors index) needed.1 placed

-- ---- what the functions of a path do

-- what was found is what the keys lead to
pub found_led : {P : ℕ → Type 0} (cleared found : List ℕ) → cleared ≡ [] → Adds cleared found P
    → (number : ℕ) → Contains found number ↔ P number
found_led cleared found none (more, e, p) number =
    let same : found ≡ more = e ∙ ap (λ xs. xs ++ more) none in (
      λ c. (p number).0 (subst (λ xs. Contains xs number) same c),
      λ h. subst (λ xs. Contains xs number) (sym same) ((p number).1 h),
    )

pub adds_slice : {P : ℕ → Type 0} (old new slice starts : List ℕ) → new ≡ old ++ slice
    → slice ≡ starts → ((index : ℕ) → Contains starts index ↔ P index) → Adds old new P
adds_slice {P} old new slice starts e same led = (
  slice,
  e,
  λ index. (
    λ c. (led index).0 (subst (λ xs. Contains xs index) same c),
    λ h. subst (λ xs. Contains xs index) (sym same) ((led index).1 h),
  ),
)

reverse_push : (marks : List (ℕ × ℕ)) (m : ℕ × ℕ)
    → reverse (marks ++ m ∷ []) ≡ m ∷ reverse marks
reverse_push marks m = reverse-append marks (m ∷ [])

module _ {Node Self : Type 0} (tree : Tree Node) (node : Self → Node) (reported : Self → Reported)
    (selectors : List (List Component)) where
  -- an element was opened
  pub opened_more : (e : Self) (marks more_marks : List (ℕ × ℕ))
      (listed more_listed starts more_starts numbers : List ℕ) (a b : ℕ)
      → AreOpened tree node reported selectors (tree.parent (node e)) (reverse marks) listed starts
      → AreReported (needed_keys selectors) (reported e) numbers
      → (more : List ℕ) × (more_starts ≡ starts ++ more)
      × AreParentStarts selectors (reported e) more
      → a ≡ length listed → b ≡ length starts → more_marks ≡ marks ++ (a, b) ∷ []
      → more_listed ≡ listed ++ numbers
      → AreOpened tree node reported selectors (Some (node e)) (reverse more_marks) more_listed
      more_starts
  opened_more e marks more_marks listed more_listed starts more_starts numbers a b path all
      (more, starts_are, of) a_is b_is marks_are listed_is =
      subst (λ ms. AreOpened tree node reported selectors (Some (node e)) ms more_listed more_starts)
      (sym (ap reverse marks_are ∙ reverse_push marks (a, b)))
      (subst (λ ls. AreOpened tree node reported selectors (Some (node e))
      ((a, b) ∷ reverse marks) ls more_starts) (sym listed_is)
      (subst (λ ss. AreOpened tree node reported selectors (Some (node e))
      ((a, b) ∷ reverse marks) (listed ++ numbers) ss) (sym starts_are)
      (subst (λ m. AreOpened tree node reported selectors (Some (node e)) (m ∷ reverse marks)
      (listed ++ numbers) (starts ++ more)) (λ k. (sym a_is k, sym b_is k))
      (path_entered tree node reported selectors e (reverse marks) listed starts numbers more path
      all of))))

-- ---- the starts of the element that was opened last

top_of : (ms : List (ℕ × ℕ)) (starts : List ℕ) (d : ℕ × ℕ) → 0 < length ms
    → top_starts ms starts ≡ drop (get_or ms 0 d).1 starts
top_of [] starts d lt = absurd (omega (arith, lt))
top_of (m ∷ ms) starts d lt = refl

reversed_length : (ms : List (ℕ × ℕ)) → length (reverse ms) ≡ length ms
reversed_length ms = length-reverse ms

pub last_starts : (items marks : List (ℕ × ℕ)) (m : ℕ × ℕ) (starts : List ℕ) → items ≡ marks
    → 0 < length items → m ≡ get_or items (length items - 1) m
    → drop m.1 starts ≡ top_starts (reverse marks) starts
last_starts items marks m starts same lt is =
    let there : 0 < length (reverse items) = omega (arith, lt, reversed_length items) in
    let at : length items - 1 - 0 ≡ length items - 1 = omega arith in
    ap (λ x. drop x.1 starts) (is ∙ ap (λ k. get_or items k m) (sym at)
    ∙ sym (get_or-reverse items 0 m lt))
    ∙ sym (top_of (reverse items) starts m there) ∙ ap (λ ms. top_starts (reverse ms) starts) same

pub no_starts : (items marks : List (ℕ × ℕ)) (starts : List ℕ) → items ≡ marks
    → length items ≤ 0 → starts ≡ top_starts (reverse marks) starts
no_starts [] marks starts same le = ap (λ ms. top_starts (reverse ms) starts) same
no_starts (m ∷ ms) marks starts same le = absurd (omega (arith, le))

pub got_starts : (r : Option (Bor (List ℕ))) (d : Bor (List ℕ)) (starts : List ℕ) (from : ℕ)
    → d.now ≡ []
    → MatchOption r ((length starts < from) ⊎ (length starts < length starts))
    (λ x. (from ≤ length starts) × (length starts ≤ length starts)
    × (x.now ≡ slice_range starts from (length starts))
    × (length x.now + from ≡ length starts))
    → (unwrap_or r d).now ≡ drop from starts
got_starts None d starts from none (inl lt) =
    none ∙ sym (drop_all from starts (omega (arith, lt)))
got_starts None d starts from none (inr lt) = absurd (omega (arith, lt))
got_starts (Some x) d starts from none h =
    let le = h.0 in
    h.2 ∙ sym (append-nil (slice_range starts from (length starts)))
    ∙ ap (λ xs. slice_range starts from (length starts) ++ xs)
    (sym (drop_all (length starts) starts (omega arith)))
    ∙ sym (drop_split starts from (length starts) le)

-- one more number that is open
pub open_next : (listed numbers : List ℕ) (i : ℕ) → i < length numbers
    → All (Contains listed) (take i numbers) → Contains listed (get_or numbers i 0)
    → All (Contains listed) (take (i + 1) numbers)
open_next listed numbers i lt before here =
    subst (All (Contains listed)) (sym (take_more numbers i 0 lt))
    (All-push (Contains listed) (take i numbers) (get_or numbers i 0) before here)
