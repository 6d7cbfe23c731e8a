-- Numbers of keys, and what open elements report.
-- Serves `table` and `selector_walk`.
use Rattle.std.proofs.Common.{◌≡◌, ℕ, zero, suc, ◌+◌, ◌≤◌, ◌↔◌, true, Some, None, ◌<◌, inl, inr, IsTrue, List, [], ◌∷◌, ◌++◌, length, map, take, get_or, set, refl, sym, ap, ◌∙◌, subst, arith}
use Rattle.std.specs.List.{Contains, All, slice_get}
use Rattle.std.specs.Global.{Vec}
use Rattle.std.proofs.lemmas.Grind.{common_steps}
use Rattle.std.proofs.lemmas.List.{take_all, take_at, take_more, length_push}
use Rattle.std.proofs.lemmas.List.Elements.{All-push, Contains-push, Contains-push_cases, Contains-append_left}
use Rattle.std.proofs.lemmas.Slice.Eq.{bytes_eq-Decides}
use Rattle.std.specs.Char.{to_ascii_lowercase}
use Rattle.css_selectors.specs.KeyViews.{key_of}
use Rattle.css_selectors.specs.Keys.{Key}
use Rattle.css_selectors.specs.Keys.Key.{by_id, by_class, by_name, by_attribute, by_nothing}
use Rattle.css_index.specs.declared.filed_key.FiledKey.{FiledKey}
use Rattle.css_index.specs.KeyNumbers.{is_same}
use Rattle.css_index.specs.internal.Filed.{place_by, entry_of, AreFiled, AreReported, found_by, found_by_any, HasLastKey}
use Rattle.css_index.specs.Walks.{Numbered, HasNumber, AreNumbered, AreNumbersOf, IsMore, AreNeeds, AreReportedNumbers, Walk, IsKeptAt}
use Rattle.css_index.proofs.FileLemmas.{filed_more}
use Rattle.css_index.proofs.KeyedLemmas.{found_from, any_found_from, any_found_to}
use Rattle.css_index.specs.Reported.{Reported}
use Rattle.css_selectors.specs.AncestorKeys.{ancestor_keys, parent_keys}
use Rattle.css_selector_text.specs.Components.{Selector}
use Rattle.css_selectors.specs.Documents.{Document}
use Rattle.std.specs.Option.{option_map}
use Rattle.std.proofs.lemmas.Option.{slice_get-map, slice_get_read, slice_get_past}
use Rattle.css_open_elements.specs.Opened.{IsOpen, IsOfLast}

at_end : (xs : List FiledKey) (d : FiledKey) → d ≡ get_or (xs ++ d ∷ []) (length xs) d
at_end xs d = grind (arith, common_steps)

-- one more entry, at its place
pub filed_push : (xs : List FiledKey) (d filed : FiledKey) (buckets : List (Vec FiledKey)) (place : ℕ)
    (old new : Vec FiledKey) → AreFiled (map entry_of xs) buckets
    → place ≡ place_by (length buckets) d.number → place < length buckets
    → old ≡ get_or buckets place old → entry_of filed ≡ entry_of d
    → (filed.repeats ≡ true → HasLastKey old.items (key_of filed.key))
    → new.items ≡ old.items ++ filed ∷ []
    → AreFiled (map entry_of (xs ++ d ∷ [])) (set buckets place new)
filed_push xs d filed buckets place old new are at within was kept last pushed =
    subst (λ es. AreFiled (map entry_of es) (set buckets place new))
    (take_all (length xs + 1) (xs ++ d ∷ []) (omega (arith, length_push xs d)))
    (filed_more (xs ++ d ∷ []) (length xs) d filed buckets place old new
    (subst (λ es. AreFiled (map entry_of es) buckets) (sym (take_at xs (d ∷ []) (length xs) refl)) are)
    (omega (arith, length_push xs d)) (at_end xs d) at within was kept last pushed)

pub same_self : (key : Key) → IsTrue (is_same key key)
same_self (by_id a) = (bytes_eq-Decides a a).1 refl
same_self (by_class a) = (bytes_eq-Decides a a).1 refl
same_self (by_name a) = (bytes_eq-Decides (map to_ascii_lowercase a) (map to_ascii_lowercase a)).1 refl
same_self (by_attribute a) =
    (bytes_eq-Decides (map to_ascii_lowercase a) (map to_ascii_lowercase a)).1 refl
same_self by_nothing = refl

-- a number that is found is one of the key
pub found_number : (es : Numbered) (key : Key) (number : ℕ)
    → Contains (found_by es key) number → HasNumber es key number
found_number es key number c = found_from key number es c

pub more_push : (es : Numbered) (e : Key × ℕ) → IsMore es (es ++ e ∷ [])
more_push es e x c = Contains-append_left es (e ∷ []) x c

pub still_number : (old new : Numbered) (key : Key) (number : ℕ) → IsMore old new
    → HasNumber old key number → HasNumber new key number
still_number old new key number more h = (h.0, more (h.0, number) h.1, h.2)

-- one more number
pub numbers_push : (old new : Numbered) (keys : List Key) (numbers : List ℕ) (key : Key) (number : ℕ)
    → IsMore old new → AreNumbersOf old keys numbers → HasNumber new key number
    → AreNumbersOf new (keys ++ key ∷ []) (numbers ++ number ∷ [])
numbers_push old new keys numbers key number more all has = record {
  each = λ k c. elim (Contains-push_cases keys key k c) [
    | inl before ↦ (let r = all.each k before in
        (r.0, Contains-append_left numbers (number ∷ []) r.0 r.1, still_number old new k r.0 more r.2))
    | inr e ↦ (number, Contains-push numbers number, subst (λ x. HasNumber new x number) e has)
  ];
  only = λ n c. elim (Contains-push_cases numbers number n c) [
    | inl before ↦ (let r = all.only n before in
        (r.0, Contains-append_left keys (key ∷ []) r.0 r.1, still_number old new r.0 n more r.2))
    | inr e ↦ (key, Contains-push keys key, subst (λ x. HasNumber new key x) e has)
  ];
}

pub numbers_none : (es : Numbered) → AreNumbersOf es [] []
numbers_none es = record {
  each = λ k c. absurd (omega (arith, c.1));
  only = λ n c. absurd (omega (arith, c.1));
}

pub numbered_same : (es : Numbered) (e : Key × ℕ) → e.1 ≡ length es
    → AreNumbered es → AreNumbered (es ++ e ∷ [])
numbered_same es e at all x c = elim (Contains-push_cases es e x c) [
  | inl k ↦ (let lt = all x k in omega (arith, lt, length_push es e))
  | inr q ↦ subst (λ x. x.1 < length (es ++ e ∷ [])) q (omega (arith, at, length_push es e))
]

pub has_same : (es : Numbered) (e : Key × ℕ) (key : Key) (number : ℕ) → e.0 ≡ key
    → e.1 ≡ number → HasNumber (es ++ e ∷ []) key number
has_same es e key number is at =
    subst (λ n. HasNumber (es ++ e ∷ []) key n) at
    (subst (λ k. HasNumber (es ++ e ∷ []) k e.1) is (e.0, Contains-push es e, same_self e.0))

pub still_numbers : (old new : Numbered) (keys : List Key) (numbers : List ℕ) → IsMore old new
    → AreNumbersOf old keys numbers → AreNumbersOf new keys numbers
still_numbers old new keys numbers more all = record {
  each = λ k c. (let r = all.each k c in (r.0, r.1, still_number old new k r.0 more r.2));
  only = λ n c. (let r = all.only n c in (r.0, r.1, still_number old new r.0 n more r.2));
}

pub needs_push : (old new : Numbered) (ss : List Selector) (needs : List (List ℕ × List ℕ))
    (s : Selector) (need : List ℕ × List ℕ) → IsMore old new → AreNeeds old ss needs
    → AreNumbersOf new (ancestor_keys s) need.0 → AreNumbersOf new (parent_keys s) need.1
    → AreNeeds new (ss ++ s ∷ []) (needs ++ need ∷ [])
needs_push old new [] [] s need more all a p = (a, p, tt)
needs_push old new [] (n ∷ needs) s need more all a p = absurd all
needs_push old new (t ∷ ss) [] s need more all a p = absurd all
needs_push old new (t ∷ ss) (n ∷ needs) s need more all a p = (
  still_numbers old new (ancestor_keys t) n.0 more all.0,
  still_numbers old new (parent_keys t) n.1 more all.1,
  needs_push old new ss needs s need more all.2 a p,
)

-- what the selector at an index needs
pub needs_at : (needed : Numbered) (ss : List Selector) (needs : List (List ℕ × List ℕ)) (i : ℕ)
    (s : Selector) → AreNeeds needed ss needs → slice_get ss i ≡ Some s
    → (need : List ℕ × List ℕ) × (slice_get needs i ≡ Some need)
    × AreNumbersOf needed (ancestor_keys s) need.0 × AreNumbersOf needed (parent_keys s) need.1
needs_at needed [] needs i s all is = absurd (cc)
needs_at needed (t ∷ ss) [] i s all is = absurd all
needs_at needed (t ∷ ss) (n ∷ needs) zero s all is =
    let same : t ≡ s = cc in (
      n,
      refl,
      subst (λ x. AreNumbersOf needed (ancestor_keys x) n.0) same all.0,
      subst (λ x. AreNumbersOf needed (parent_keys x) n.1) same all.1,
    )
needs_at needed (t ∷ ss) (n ∷ needs) (suc i) s all is = needs_at needed ss needs i s all.2 is

-- the numbers that a look-up finds are those of the keys that are reported
pub reported_numbers : {Node : Type 0} (document : Document Node) (n : Node) (reported : Reported)
    (es : Numbered) (keys : List Key) (numbers : List ℕ)
    → AreReported document n reported keys
    → ((number : ℕ) → Contains numbers number ↔ Contains (found_by_any es keys) number)
    → AreReportedNumbers document n reported es numbers
reported_numbers document n reported es keys numbers are same number = (
  λ c. (let r = any_found_from es keys number ((same number).0 c) in
      (r.0, r.1, (are r.0).1 r.2)),
  λ h. (same number).1 (any_found_to es keys number h.0 h.1 ((are h.0).0 h.2)),
)

pub reported_within : (es : Numbered) (keys : List Key) (numbers : List ℕ) (number : ℕ)
    → AreNumbered es
    → ((number : ℕ) → Contains numbers number ↔ Contains (found_by_any es keys) number)
    → Contains numbers number → number < length es
reported_within es keys numbers number all same c =
    let r = any_found_from es keys number ((same number).0 c) in
    all (r.0, number) r.1

-- one more number of which something holds
pub all_next : (P : ℕ → Type 0) (xs : List ℕ) (i d : ℕ) → i < length xs → All P (take i xs)
    → P (get_or xs i d) → All P (take (i + 1) xs)
all_next P xs i d lt before here =
    subst (All P) (sym (take_more xs i d lt)) (All-push P (take i xs) (get_or xs i d) before here)

pub need_there : {V W : Type 0} (f : V → W) (vs : List V) (ws : List W) (i : ℕ)
    (v : V) → map f vs ≡ ws → i < length vs → v ≡ get_or vs i v → slice_get ws i ≡ Some (f v)
need_there f vs ws i v are lt read =
    subst (λ xs. slice_get xs i ≡ Some (f v)) are
    (slice_get-map f vs i ∙ ap (option_map f) (slice_get_read vs (length vs) i v refl lt read))

pub need_past : {V W : Type 0} (f : V → W) (vs : List V) (ws : List W) (i : ℕ)
    → map f vs ≡ ws → length vs ≤ i → slice_get ws i ≡ None
need_past f vs ws i are le =
    subst (λ xs. slice_get xs i ≡ None) are
    (slice_get-map f vs i ∙ ap (option_map f) (slice_get_past vs i le))

need_same : (a b : List ℕ × List ℕ) → Some a ≡ Some b → a ≡ b
need_same a b e = cc

-- the numbers of a selector are open exactly where it is kept
pub kept_here : (walk : Walk) (index : ℕ) (need : List ℕ × List ℕ) (opened : List (List ℕ))
    (ancestors parent : List ℕ) → slice_get walk.needs index ≡ Some need → opened ≡ walk.opened
    → ancestors ≡ need.0 → parent ≡ need.1
    → (All (IsOpen opened) ancestors × All (IsOfLast opened) parent) ↔ IsKeptAt walk index
kept_here walk index need opened ancestors parent there same a p = (
  λ h. (
    need,
    there,
    subst (λ o. All (IsOpen o) need.0) same (subst (All (IsOpen opened)) a h.0),
    subst (λ o. All (IsOfLast o) need.1) same (subst (All (IsOfLast opened)) p h.1),
  ),
  λ k. (let e : k.0 ≡ need = need_same k.0 need (sym k.1 ∙ there) in (
    subst (All (IsOpen opened)) (ap (λ x. x.0) e ∙ sym a)
        (subst (λ o. All (IsOpen o) k.0.0) (sym same) k.2),
    subst (All (IsOfLast opened)) (ap (λ x. x.1) e ∙ sym p)
        (subst (λ o. All (IsOfLast o) k.0.1) (sym same) k.3),
  )),
)

-- two walks that need the same, and of which the same is open, keep the same
pub kept_same : (one other : Walk) (index : ℕ) → one.needs ≡ other.needs → one.opened ≡ other.opened
    → IsKeptAt one index ↔ IsKeptAt other index
kept_same one other index needs opened = (
  λ k. (
    k.0,
    subst (λ ns. slice_get ns index ≡ Some k.0) needs k.1,
    subst (λ o. All (IsOpen o) k.0.0) opened k.2,
    subst (λ o. All (IsOfLast o) k.0.1) opened k.3,
  ),
  λ k. (
    k.0,
    subst (λ ns. slice_get ns index ≡ Some k.0) (sym needs) k.1,
    subst (λ o. All (IsOpen o) k.0.0) (sym opened) k.2,
    subst (λ o. All (IsOfLast o) k.0.1) (sym opened) k.3,
  ),
)
