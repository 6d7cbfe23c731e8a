-- Entries, and their places.
-- Serves `table` and `selector_index`.
use Rattle.std.proofs.Common.{◌≡◌, ℕ, zero, suc, ◌+◌, ◌-◌, ◌<◌, ◌⊎◌, inl, inr, ◌%◌, ◌*◌, ◌^◌, ◌==◌, Bool, IsTrue, true, false, cond, List, [], ◌∷◌, ◌++◌, length, map, take, get_or, set, Some, eqb-true, eq-eqb, arith, refl, sym, ap, ◌∙◌, subst, append-nil, append_assoc}
use Rattle.std.specs.Char.{to_ascii_lowercase}
use Rattle.std.specs.Prelude.{filter}
use Rattle.std.specs.Str.{str_eq_ignore_ascii_case}
use Rattle.std.specs.Global.{Vec}
use Rattle.std.specs.List.{slice_get}
use Rattle.std.proofs.lemmas.Bool.{false≢true}
use Rattle.std.proofs.Math.ListN.{get_or-append}
use Rattle.std.proofs.Math.Seq.{get_or-append_seam, take-append_seam}
use Rattle.std.proofs.lemmas.List.{map-append, take_more, take-append-le, get_or-take, length-append, length-map, length-take, length-take-le, length-set, get_or-set_same, get_or-set_other}
use Rattle.std.proofs.lemmas.List.Elements.{filter-append}
use Rattle.std.proofs.lemmas.Option.{slice_get_within, slice_get_read, slice_get-get_or, get_or_from_slice_get}
use Rattle.std.proofs.lemmas.Slice.Eq.{bytes_eq-Decides}
use Rattle.css_selector_text.specs.Components.{Selector}
use Rattle.css_selectors.specs.Keys.{Key}
use Rattle.css_selectors.specs.Keys.Key.{by_id, by_class, by_name, by_attribute, by_nothing}
use Rattle.css_selectors.specs.KeyViews.{key_of}
use Rattle.css_index.specs.declared.filed_key.FiledKey.{FiledKey}
use Rattle.css_index.specs.KeyNumbers.{number_from, number_of, is_same}
use Rattle.css_index.specs.Tested.{filed_keys}
use Rattle.css_index.specs.internal.Filed.{place_by, place_of, entry_of, with_index, entries_from, entries_of, entries_at, AreFiledAt, AreFiled, HasLastKey, AreRuns, AllRuns, is_found_by, found_by}

last_or_before : (i n : ℕ) → i < n + 1 → (i ≡ n) ⊎ (i < n)
last_or_before i n lt = grind arith

entries_from-push : (n : ℕ) (ss : List Selector) (s : Selector)
    → entries_from n (ss ++ s ∷ [])
    ≡ entries_from n ss ++ with_index (n + length ss) (filed_keys s)
entries_from-push n [] s =
    let e : n ≡ n + 0 = omega arith in
    append-nil (with_index n (filed_keys s))
    ∙ ap (λ i. with_index i (filed_keys s)) e
entries_from-push n (x ∷ ss) s =
    let e : n + 1 + length ss ≡ n + length (x ∷ ss) = omega arith in
    ap (λ es. with_index n (filed_keys x) ++ es) (entries_from-push (n + 1) ss s
    ∙ ap (λ i. entries_from (n + 1) ss ++ with_index i (filed_keys s)) e)
    ∙ sym (append_assoc (with_index n (filed_keys x)) (entries_from (n + 1) ss)
    (with_index (n + length (x ∷ ss)) (filed_keys s)))

-- the entries of one more rule
pub entries_more : {V : Type 0} (f : V → Selector) (vs : List V) (i : ℕ) (v : V) → i < length vs
    → v ≡ get_or vs i v
    → entries_of (map f (take (i + 1) vs))
    ≡ entries_of (map f (take i vs)) ++ with_index i (filed_keys (f v))
entries_more f vs i v lt read =
    let l : length (map f (take i vs)) ≡ length (take i vs) = length-map (take i vs) f in
    let t = length-take i vs in
    let e : 0 + length (map f (take i vs)) ≡ i = omega (arith, l, t, lt) in
    ap (λ xs. entries_of (map f xs))
    (take_more vs i v lt ∙ ap (λ x. take i vs ++ x ∷ []) (sym read))
    ∙ ap entries_of (map-append f (take i vs) (v ∷ []))
    ∙ entries_from-push 0 (map f (take i vs)) (f v)
    ∙ ap (λ n. entries_of (map f (take i vs)) ++ with_index n (filed_keys (f v))) e

at_more : (count place : ℕ) (xs : List (Key × ℕ)) (e : Key × ℕ) (t : Bool)
    → (place_of count e.0 == place) ≡ t
    → entries_at count place (xs ++ e ∷ []) ≡ entries_at count place xs ++ cond t (e ∷ []) []
at_more count place xs e t is =
    filter-append (λ x. place_of count x.0 == place) xs (e ∷ [])
    ∙ ap (λ b. entries_at count place xs ++ cond b (e ∷ []) []) is

more_entries : (entries : List FiledKey) (i : ℕ) (d : FiledKey) → i < length entries
    → map entry_of (take (i + 1) entries)
    ≡ map entry_of (take i entries) ++ entry_of (get_or entries i d) ∷ []
more_entries entries i d lt =
    ap (map entry_of) (take_more entries i d lt)
    ∙ map-append entry_of (take i entries) (get_or entries i d ∷ [])

pub some_from : (n : ℕ) → (n == 0) ≡ false → 0 < n
some_from zero none = absurd (cc)
some_from (suc n) none = omega arith

-- what is read at one place is one item
pub one_at : {X : Type 0} (xs : List X) (i : ℕ) (a b : X) → i < length xs → a ≡ get_or xs i a
    → b ≡ get_or xs i b → a ≡ b
one_at xs i a b lt p q =
    let e : Some a ≡ Some b = ap Some p ∙ sym (slice_get-get_or xs i a lt) ∙ slice_get-get_or xs i b lt
    ∙ ap Some (sym q) in
    cc

-- what is so of a list that is put at its place, and of the others, is so of each
in_set : (Q : ℕ → Vec FiledKey → Type 0) (buckets : List (Vec FiledKey)) (place : ℕ)
    (new : Vec FiledKey) → place < length buckets → Q place new
    → ((p : ℕ) (b : Vec FiledKey) → (place == p) ≡ false → slice_get buckets p ≡ Some b → Q p b)
    → (p : ℕ) (b : Vec FiledKey) → slice_get (set buckets place new) p ≡ Some b → Q p b
in_set Q buckets place new within here others p b there = of (place == p) refl
  where
    of : (t : Bool) → (place == p) ≡ t → Q p b
    of true is =
        let same : place ≡ p = eqb-true place p is in
        subst (λ q. Q q b) same (subst (Q place) (
        sym (get_or-set_same buckets place new b within)
        ∙ ap (λ q. get_or (set buckets place new) q b) same
        ∙ get_or_from_slice_get (set buckets place new) p b b there
        ) here)
    of false is =
        let length_is = length-set buckets place new in
        let l = slice_get_within (set buckets place new) p b there in
        others p b is (slice_get-get_or buckets p b (omega (arith, l, length_is)) ∙ ap Some (
        sym (get_or-set_other buckets place p new b
        (λ k. false≢true (sym is ∙ eq-eqb place p (sym k))))
        ∙ get_or_from_slice_get (set buckets place new) p b b there
        ))

-- the lists with one more entry, which repeats the one before it only if that has its key
pub runs_more : (xs : List FiledKey) (d : FiledKey) → AreRuns xs
    → (d.repeats ≡ true → HasLastKey xs (key_of d.key)) → AreRuns (xs ++ d ∷ [])
runs_more xs d runs last i e there repeats = elim (last_or_before i (length xs) (omega (arith, l, all))) [
  | inl same ↦
      let is : d ≡ e =
      sym (get_or-append_seam xs d [] e) ∙ ap (λ k. get_or (xs ++ d ∷ []) k e) (sym same)
      ∙ get_or_from_slice_get (xs ++ d ∷ []) i e e there in
      subst (λ ys. HasLastKey ys (key_of e.key)) (
      sym (ap (λ k. take k (xs ++ d ∷ [])) same ∙ take-append_seam xs (d ∷ []))
      ) (subst (λ x. HasLastKey xs (key_of x.key)) is (last (ap (λ x. x.repeats) is ∙ repeats)))
  | inr less ↦
      subst (λ ys. HasLastKey ys (key_of e.key))
      (sym (take-append-le i xs (d ∷ []) (omega (arith, less))))
      (runs i e (slice_get-get_or xs i e less ∙ ap Some (
      sym (get_or-append xs (d ∷ []) e i less)
      ∙ get_or_from_slice_get (xs ++ d ∷ []) i e e there
      )) repeats)
]
  where
    l : i < length (xs ++ d ∷ [])
    l = slice_get_within (xs ++ d ∷ []) i e there

    all : length (xs ++ d ∷ []) ≡ length xs + 1
    all = length-append xs (d ∷ [])

-- whether an entry that repeats the one before it has a key is known of that
pub repeat_found : (items : List FiledKey) (i : ℕ) (item : FiledKey) (key : Key) (found : Bool)
    → AreRuns items → i < length items → item ≡ get_or items i item → item.repeats ≡ true
    → ((last : FiledKey) → 0 < i → slice_get items (i - 1) ≡ Some last
    → found ≡ is_found_by key (entry_of last))
    → found ≡ is_found_by key (entry_of item)
repeat_found items i item key found runs lt is repeats known =
    known before.0 some (
    slice_get-get_or items (i - 1) before.0 (omega (arith, lt))
    ∙ ap Some (sym (get_or-take i items (i - 1) before.0 (omega (arith, some)))
    ∙ ap (λ k. get_or (take i items) k before.0) (sym place)
    ∙ get_or_from_slice_get (take i items) (length (take i items) - 1) before.0 before.0 before.2)
    ) ∙ ap (λ k. is_same k key) before.3
  where
    before : HasLastKey (take i items) (key_of item.key)
    before = runs i item (slice_get_read items (length items) i item refl lt is) repeats

    all : length (take i items) ≡ i
    all = length-take-le i items (omega (arith, lt))

    some : 0 < i
    some = let l = before.1 in omega (arith, l, all)

    place : length (take i items) - 1 ≡ i - 1
    place = ap (λ n. n - 1) all

pub last_is : (items : List FiledKey) (i : ℕ) (item last : FiledKey) → i < length items
    → item ≡ get_or items i item → slice_get items (i + 1 - 1) ≡ Some last → item ≡ last
last_is items i item last lt is there =
    let place : i + 1 - 1 ≡ i = omega arith in
    is ∙ ap (λ k. get_or items k item) (sym place)
    ∙ get_or_from_slice_get items (i + 1 - 1) last item there

runs_set : (buckets : List (Vec FiledKey)) (place : ℕ) (new : Vec FiledKey) → place < length buckets
    → AllRuns buckets → AreRuns new.items → AllRuns (set buckets place new)
runs_set buckets place new within all runs =
    in_set (λ p b. AreRuns b.items) buckets place new within runs (λ p b differs there. all p b there)

-- lists without an entry
pub filed_none : (buckets : List (Vec FiledKey)) → 0 < length buckets
    → AreFiledAt (length buckets) [] buckets → AreFiled [] buckets
filed_none buckets some none = record {
  some = some;
  filed = none;
  runs = λ p b there i e at repeats. no_item b.items i e (none p b there) at;
}
  where
    no_item : {P : Type 0} (items : List FiledKey) (i : ℕ) (e : FiledKey) → map entry_of items ≡ []
        → slice_get items i ≡ Some e → P
    no_item [] i e is at = absurd (cc)
    no_item (x ∷ xs) i e is at = absurd (cc)

-- one more entry, at its place
pub filed_more : (entries : List FiledKey) (i : ℕ) (d filed : FiledKey) (buckets : List (Vec FiledKey))
    (place : ℕ) (old new : Vec FiledKey) → AreFiled (map entry_of (take i entries)) buckets
    → i < length entries → d ≡ get_or entries i d → place ≡ place_by (length buckets) d.number
    → place < length buckets → old ≡ get_or buckets place old → entry_of filed ≡ entry_of d
    → (filed.repeats ≡ true → HasLastKey old.items (key_of filed.key))
    → new.items ≡ old.items ++ filed ∷ []
    → AreFiled (map entry_of (take (i + 1) entries)) (set buckets place new)
filed_more entries i d filed buckets place old new are lt read by_number within was kept last pushed = record {
  some = let some = are.some in omega (arith, some, same);
  filed = λ p b there. subst (λ n. map entry_of b.items
      ≡ entries_at n p (map entry_of (take (i + 1) entries))) (sym same)
      (in_set (λ p b. map entry_of b.items ≡ entries_at count p (map entry_of (take (i + 1) entries)))
      buckets place new within here others p b there);
  runs = runs_set buckets place new within are.runs (subst AreRuns (sym pushed)
      (runs_more old.items filed (are.runs place old there) last));
}
  where
    e : FiledKey
    e = get_or entries i d

    count : ℕ
    count = length buckets

    same : length (set buckets place new) ≡ length buckets
    same = length-set buckets place new

    there : slice_get buckets place ≡ Some old
    there = slice_get-get_or buckets place old within ∙ ap Some (sym was)

    at : place ≡ place_of (length buckets) (key_of (get_or entries i d).key)
    at = by_number ∙ ap (λ x. place_by (length buckets) x.number) read
        ∙ ap (place_by (length buckets)) (get_or entries i d).numbered

    before : List (Key × ℕ)
    before = map entry_of (take i entries)

    one_more : (p : ℕ) (t : Bool) → (place == p) ≡ t
        → entries_at count p before ++ cond t (entry_of e ∷ []) []
        ≡ entries_at count p (map entry_of (take (i + 1) entries))
    one_more p t is =
        sym (at_more count p before (entry_of e) t (ap (λ q. q == p) (sym at) ∙ is))
        ∙ ap (entries_at count p) (sym (more_entries entries i d lt))

    here : map entry_of new.items ≡ entries_at count place (map entry_of (take (i + 1) entries))
    here =
        ap (map entry_of) pushed ∙ map-append entry_of old.items (filed ∷ [])
        ∙ ap (λ xs. xs ++ entry_of filed ∷ []) (are.filed place old there)
        ∙ ap (λ x. entries_at count place before ++ x ∷ []) (kept ∙ ap entry_of read)
        ∙ one_more place true (eq-eqb place place refl)

    others : (p : ℕ) (b : Vec FiledKey) → (place == p) ≡ false → slice_get buckets p ≡ Some b
        → map entry_of b.items ≡ entries_at count p (map entry_of (take (i + 1) entries))
    others p b differs there =
        are.filed p b there ∙ sym (append-nil (entries_at count p before)) ∙ one_more p false differs

number_lowered : (n : ℕ) (a b : List ℕ) → map to_ascii_lowercase a ≡ map to_ascii_lowercase b
    → number_from n a ≡ number_from n b
number_lowered n [] [] e = refl
number_lowered n [] (y ∷ b) e = absurd (cc)
number_lowered n (x ∷ a) [] e = absurd (cc)
number_lowered n (x ∷ a) (y ∷ b) e =
    let first : to_ascii_lowercase x ≡ to_ascii_lowercase y = cc in
    let rest : map to_ascii_lowercase a ≡ map to_ascii_lowercase b = cc in
    ap (λ k. number_from ((n * 37 % 2 ^ 64 + k) % 2 ^ 64) a) first
    ∙ number_lowered ((n * 37 % 2 ^ 64 + to_ascii_lowercase y) % 2 ^ 64) a b rest

-- names that are the same but for case
lowered : (a b : List ℕ) → IsTrue (str_eq_ignore_ascii_case a b)
    → map to_ascii_lowercase a ≡ map to_ascii_lowercase b
lowered a b h = (bytes_eq-Decides (map to_ascii_lowercase a) (map to_ascii_lowercase b)).0 h

-- what is the same of names without regard to case is the same of keys that are the same
pub same_by : {X : Type 0} (f : Key → X)
    → ((a b : List ℕ) → map to_ascii_lowercase a ≡ map to_ascii_lowercase b
    → f (by_name a) ≡ f (by_name b))
    → ((a b : List ℕ) → map to_ascii_lowercase a ≡ map to_ascii_lowercase b
    → f (by_attribute a) ≡ f (by_attribute b))
    → (own key : Key) → is_same own key ≡ true → f own ≡ f key
same_by f names attributes (by_id a) (by_id b) h = ap (λ t. f (by_id t)) ((bytes_eq-Decides a b).0 h)
same_by f names attributes (by_class a) (by_class b) h =
    ap (λ t. f (by_class t)) ((bytes_eq-Decides a b).0 h)
same_by f names attributes (by_name a) (by_name b) h = names a b (lowered a b h)
same_by f names attributes (by_attribute a) (by_attribute b) h = attributes a b (lowered a b h)
same_by f names attributes by_nothing by_nothing h = refl
same_by f names attributes (by_id a) (by_class b) h = absurd (cc)
same_by f names attributes (by_id a) (by_name b) h = absurd (cc)
same_by f names attributes (by_id a) (by_attribute b) h = absurd (cc)
same_by f names attributes (by_id a) by_nothing h = absurd (cc)
same_by f names attributes (by_class a) (by_id b) h = absurd (cc)
same_by f names attributes (by_class a) (by_name b) h = absurd (cc)
same_by f names attributes (by_class a) (by_attribute b) h = absurd (cc)
same_by f names attributes (by_class a) by_nothing h = absurd (cc)
same_by f names attributes (by_name a) (by_id b) h = absurd (cc)
same_by f names attributes (by_name a) (by_class b) h = absurd (cc)
same_by f names attributes (by_name a) (by_attribute b) h = absurd (cc)
same_by f names attributes (by_name a) by_nothing h = absurd (cc)
same_by f names attributes (by_attribute a) (by_id b) h = absurd (cc)
same_by f names attributes (by_attribute a) (by_class b) h = absurd (cc)
same_by f names attributes (by_attribute a) (by_name b) h = absurd (cc)
same_by f names attributes (by_attribute a) by_nothing h = absurd (cc)
same_by f names attributes by_nothing (by_id b) h = absurd (cc)
same_by f names attributes by_nothing (by_class b) h = absurd (cc)
same_by f names attributes by_nothing (by_name b) h = absurd (cc)
same_by f names attributes by_nothing (by_attribute b) h = absurd (cc)

-- keys that are the same have the same number
same_number : (own key : Key) → is_same own key ≡ true → number_of own ≡ number_of key
same_number = same_by number_of (number_lowered 3) (number_lowered 4)

same_place : (count : ℕ) (own key : Key) → is_same own key ≡ true
    → (place_of count own == place_of count key) ≡ true
same_place count own key h =
    eq-eqb (place_of count own) (place_of count key)
    (ap (place_by count) (same_number own key h))

-- those at the place of a key are all that are the same
same_at : (count : ℕ) (key : Key) (es : List (Key × ℕ))
    → filter (is_found_by key) (entries_at count (place_of count key) es)
    ≡ filter (is_found_by key) es
same_at count key [] = refl
same_at count key (e ∷ es) =
    by (place_of count e.0 == place_of count key) (is_found_by key e) refl refl (same_at count key es)
  where
    by : (t s : Bool) → (place_of count e.0 == place_of count key) ≡ t → is_found_by key e ≡ s
        → filter (is_found_by key) (entries_at count (place_of count key) es)
        ≡ filter (is_found_by key) es
        → filter (is_found_by key)
        (cond t (e ∷ entries_at count (place_of count key) es)
        (entries_at count (place_of count key) es))
        ≡ cond s (e ∷ filter (is_found_by key) es) (filter (is_found_by key) es)
    by true s at is ih =
        ap (λ b. cond b (e ∷ filter (is_found_by key)
        (entries_at count (place_of count key) es))
        (filter (is_found_by key) (entries_at count (place_of count key) es))) is
        ∙ ap (λ xs. cond s (e ∷ xs) xs) ih
    by false true at is ih = absurd (false≢true (sym at ∙ same_place count e.0 key is))
    by false false at is ih = ih

-- what the list at the place of a key has for it
pub found_there : (entries : List (Key × ℕ)) (buckets : List (Vec FiledKey)) (key : Key) (place : ℕ)
    (bucket : Vec FiledKey) → AreFiled entries buckets → place ≡ place_of (length buckets) key
    → place < length buckets → bucket ≡ get_or buckets place bucket
    → found_by (map entry_of bucket.items) key ≡ found_by entries key
found_there entries buckets key place bucket filed at within was =
    ap (λ es. found_by es key)
    (filed.filed place bucket (slice_get-get_or buckets place bucket within ∙ ap Some (sym was))
    ∙ ap (λ p. entries_at (length buckets) p entries) at)
    ∙ ap (map (λ e. e.1)) (same_at (length buckets) key entries)

-- one more entry
pub found_more : (entries : List FiledKey) (i : ℕ) (d : FiledKey) (key : Key) (t : Bool)
    → i < length entries → is_found_by key (entry_of (get_or entries i d)) ≡ t
    → found_by (map entry_of (take (i + 1) entries)) key
    ≡ found_by (map entry_of (take i entries)) key
    ++ cond t ((get_or entries i d).rule ∷ []) []
found_more entries i d key t lt is =
    ap (λ es. found_by es key) (more_entries entries i d lt)
    ∙ ap (map (λ x. x.1))
    (filter-append (is_found_by key) (map entry_of (take i entries)) (entry_of e ∷ []))
    ∙ map-append (λ x. x.1) (filter (is_found_by key) (map entry_of (take i entries)))
    (filter (is_found_by key) (entry_of e ∷ []))
    ∙ ap (λ xs. found_by (map entry_of (take i entries)) key ++ xs) (last t is)
  where
    e : FiledKey
    e = get_or entries i d

    last : (b : Bool) → is_found_by key (entry_of e) ≡ b
        → map (λ x. x.1) (filter (is_found_by key) (entry_of e ∷ [])) ≡ cond b (e.rule ∷ []) []
    last true h = ap (λ b. map (λ x. x.1) (cond b (entry_of e ∷ []) [])) h
    last false h = ap (λ b. map (λ x. x.1) (cond b (entry_of e ∷ []) [])) h

-- one more entry was looked at
pub found_step : (old before after : List ℕ) (entries : List FiledKey) (i : ℕ) (d : FiledKey) (key : Key)
    (t : Bool) → before ≡ old ++ found_by (map entry_of (take i entries)) key
    → after ≡ before ++ cond t (d.rule ∷ []) [] → i < length entries → d ≡ get_or entries i d
    → is_found_by key (entry_of d) ≡ t
    → after ≡ old ++ found_by (map entry_of (take (i + 1) entries)) key
found_step old before after entries i d key t known next lt read is =
    next ∙ ap (λ x. before ++ cond t (x.rule ∷ []) []) read ∙ ap (λ xs. xs ++ cond t ((get_or entries i d).rule ∷ []) []) known
    ∙ append_assoc old (found_by (map entry_of (take i entries)) key)
    (cond t ((get_or entries i d).rule ∷ []) [])
    ∙ ap (λ xs. old ++ xs) (sym (found_more entries i d key t lt
    (ap (λ x. is_found_by key (entry_of x)) (sym read) ∙ is)))

-- an entry whose number is not that of the key is not found
pub other_number : (e : FiledKey) (key : Key) (number : ℕ) → number ≡ number_of key
    → (e.number ≡ number → ⊥) → false ≡ is_found_by key (entry_of e)
other_number e key number is ne = by (is_same (key_of e.key) key) refl
  where
    by : (t : Bool) → is_same (key_of e.key) key ≡ t → false ≡ t
    by true h = absurd (ne (e.numbered ∙ same_number (key_of e.key) key h ∙ sym is))
    by false h = refl

-- a list with the same entries, at its place
pub filed_same : (es : List (Key × ℕ)) (buckets : List (Vec FiledKey)) (place : ℕ)
    (old new : Vec FiledKey) → AreFiled es buckets → place < length buckets
    → old ≡ get_or buckets place old → new.items ≡ old.items → AreFiled es (set buckets place new)
filed_same es buckets place old new are within was is = record {
  some = let some = are.some in omega (arith, some, same);
  filed = λ p b there. subst (λ n. map entry_of b.items ≡ entries_at n p es) (sym same)
      (in_set (λ p b. map entry_of b.items ≡ entries_at (length buckets) p es) buckets place new within
      (ap (map entry_of) is ∙ are.filed place old known) (λ p b differs. are.filed p b) p b there);
  runs = runs_set buckets place new within are.runs (subst AreRuns (sym is) (are.runs place old known));
}
  where
    same : length (set buckets place new) ≡ length buckets
    same = length-set buckets place new

    known : slice_get buckets place ≡ Some old
    known = slice_get-get_or buckets place old within ∙ ap Some (sym was)
