-- Numbers of the keys that selectors need of ancestors.
-- Serves `index::needed_keys::NeededKeys` and `RuleIndex::new`.
use Rattle.std.proofs.Common.{◌≡◌, ℕ, zero, suc, ◌+◌, ◌<◌, ◌≤◌, ◌⊎◌, inl, inr, List, [], ◌∷◌, ◌++◌, Bool, true, false, cond, None, Some, length, get_or, map, take, refl, sym, ap, ◌∙◌, subst, arith, append_assoc, append-nil, length-append}
use Rattle.std.specs.Prelude.{◌||◌}
use Rattle.std.specs.List.{All, fold, flat_map, list_any}
use Rattle.std.proofs.Math.Seq.{get_or-append_seam}
use Rattle.std.proofs.lemmas.Bool.{false≢true}
use Rattle.std.proofs.lemmas.List.{map-append, get_or_append_left, take_more}
use Rattle.std.proofs.lemmas.List.Elements.{All-append}
use Rattle.std.proofs.lemmas.List.Sums.{fold-append}
use Rattle.std.proofs.lemmas.Grind.{flat_map-append}
use Rattle.std.proofs.lemmas.Slice.Eq.{bytes_eq-Decides}
use Rattle.simplecss_grammar.specs.Components.{Component}
use Rattle.simplecss_selector.specs.AncestorKeys.{ancestor_keys}
use Rattle.simplecss_selector.specs.Keys.{Key}
use Rattle.simplecss_selector.specs.KeyViews.{key_value}
use Rattle.simplecss_selector.specs.declared.key.Key.{Key as StoredKey}
use Rattle.simplecss.specs.SelectorIndices.{selector_at}
use Rattle.simplecss_selector.specs.Keys.Key.{by_id, by_class, by_name, by_attribute, by_nothing}
use Rattle.simplecss.specs.OpenPaths.{same_key, add_key, needed_keys, numbered}
use Rattle.simplecss.specs.internal.Chains.{selectors_of}
use Rattle.simplecss.specs.internal.LastByKey.{last_for, TakesIndex}
use Rattle.simplecss.specs.internal.NeededKeys.{keys_of, AreNumbered, HasNumbers, AreNumbersOf, AreNeeded}
use Rattle.simplecss.specs.declared.index.last_by_key.LastByKey.{LastByKey}
use Rattle.simplecss.specs.declared.index.link.Link.{Link}
use Rattle.simplecss.specs.declared.index.needed_keys.NeededKeys.{NeededKeys}

-- ---- equal keys

pub same_is : (a b : Key) → same_key a b ≡ true → a ≡ b
same_is (by_id a) (by_id b) h = ap by_id ((bytes_eq-Decides a b).0 h)
same_is (by_class a) (by_class b) h = ap by_class ((bytes_eq-Decides a b).0 h)
same_is (by_name a) (by_name b) h = ap by_name ((bytes_eq-Decides a b).0 h)
same_is (by_attribute a) (by_attribute b) h = ap by_attribute ((bytes_eq-Decides a b).0 h)
same_is by_nothing by_nothing h = refl
same_is a b h = absurd (false≢true h)

same_self : (a : Key) → same_key a a ≡ true
same_self (by_id a) = (bytes_eq-Decides a a).1 refl
same_self (by_class a) = (bytes_eq-Decides a a).1 refl
same_self (by_name a) = (bytes_eq-Decides a a).1 refl
same_self (by_attribute a) = (bytes_eq-Decides a a).1 refl
same_self by_nothing = refl

pub is_same : (a b : Key) → a ≡ b → same_key a b ≡ true
is_same a b e = subst (λ x. same_key a x ≡ true) e (same_self a)

-- a key that is among others has a number there
key_there : (keys : List Key) (key : Key) → list_any (same_key key) keys ≡ true
    → (number : ℕ) × (number < length keys) × (numbered keys number ≡ key)
key_there [] key h = absurd (false≢true h)
key_there (k ∷ ks) key h = at (same_key key k) refl (key_there ks key) h
  where
    at : (b : Bool) → same_key key k ≡ b
        → (list_any (same_key key) ks ≡ true
        → (number : ℕ) × (number < length ks) × (numbered ks number ≡ key))
        → (b || list_any (same_key key) ks) ≡ true
        → (number : ℕ) × (number < length (k ∷ ks)) × (numbered (k ∷ ks) number ≡ key)
    at true is later e = (0, omega arith, sym (same_is key k is))
    at false is later e = let found = later e in (suc found.0, omega (arith, found.1), found.2)

or_true : (b : Bool) → (b || true) ≡ true
or_true true = refl
or_true false = refl

there_key : (keys : List Key) (key : Key) (number : ℕ) → number < length keys
    → numbered keys number ≡ key → list_any (same_key key) keys ≡ true
there_key [] key number lt e = absurd (omega (arith, lt))
there_key (k ∷ ks) key zero lt e =
    ap (λ b. b || list_any (same_key key) ks) (is_same key k (sym e))
there_key (k ∷ ks) key (suc number) lt e =
    ap (λ b. same_key key k || b) (there_key ks key number (omega (arith, lt)) e)
    ∙ or_true (same_key key k)

-- ---- one key more

pub old_key : (numbers : LastByKey) (keys : List Key) (key : Key) (number : ℕ)
    → AreNumbered numbers keys → last_for numbers key ≡ Some number → keys ≡ add_key keys key
old_key numbers keys key number all is =
    let found = all.only key number is in
    sym (ap (λ b. cond b keys (keys ++ key ∷ [])) (there_key keys key number found.0 found.1))

apart : (numbers : LastByKey) (keys : List Key) (key : Key) → AreNumbered numbers keys
    → last_for numbers key ≡ None → (number : ℕ) → number < length keys
    → numbered keys number ≡ key → ⊥
apart numbers keys key all none number lt e =
    let there : last_for numbers key ≡ Some number =
    ap (last_for numbers) (sym e) ∙ all.known number lt in
    let wrong : None ≡ Some number = sym none ∙ there in cc

pub new_key : (numbers : LastByKey) (keys : List Key) (key : Key) → AreNumbered numbers keys
    → last_for numbers key ≡ None → keys ++ key ∷ [] ≡ add_key keys key
new_key numbers keys key all none = at (list_any (same_key key) keys) refl
  where
    at : (b : Bool) → list_any (same_key key) keys ≡ b → keys ++ key ∷ [] ≡ add_key keys key
    at true e = let found = key_there keys key e in
        absurd (apart numbers keys key all none found.0 found.1 found.2)
    at false e = sym (ap (λ b. cond b keys (keys ++ key ∷ [])) e)

order : (m n : ℕ) → m < n + 1 → (m < n) ⊎ (n ≡ m)
order m n lt = grind arith

pub number_more : (old new : LastByKey) (keys : List Key) (key : Key) (number : ℕ)
    → AreNumbered old keys → last_for old key ≡ None → TakesIndex old new key number
    → number ≡ length keys → AreNumbered new (keys ++ key ∷ [])
number_more old new keys key number all none takes is = record {
  known = λ n lt. at_known n (order n (length keys)
      (omega (arith, lt, length-append keys (key ∷ []))));
  only = λ k n e. at_only k n e (takes k);
}
  where
    last_is : numbered (keys ++ key ∷ []) (length keys) ≡ key
    last_is = get_or-append_seam keys key [] by_nothing

    longer : length (keys ++ key ∷ []) ≡ length keys + 1
    longer = length-append keys (key ∷ [])

    at_known : (n : ℕ) → (n < length keys) ⊎ (length keys ≡ n)
        → last_for new (numbered (keys ++ key ∷ []) n) ≡ Some n
    at_known n (inl lt) =
        let same : numbered (keys ++ key ∷ []) n ≡ numbered keys n =
        get_or_append_left keys (key ∷ []) by_nothing n lt in
        ap (last_for new) same ∙ elim (takes (numbered keys n)) [
          | inl h ↦ absurd (apart old keys key all none n lt (sym h.0))
          | inr h ↦ h.1 ∙ all.known n lt
        ]
    at_known n (inr e) =
        subst (λ m. last_for new (numbered (keys ++ key ∷ []) m) ≡ Some m) e
        (ap (last_for new) last_is ∙ elim (takes key) [
          | inl h ↦ h.1 ∙ ap Some is
          | inr h ↦ absurd (h.0 refl)
        ])

    at_only : (k : Key) (n : ℕ) → last_for new k ≡ Some n
        → ((key ≡ k) × (last_for new k ≡ Some number))
        ⊎ ((key ≡ k → ⊥) × (last_for new k ≡ last_for old k))
        → (n < length (keys ++ key ∷ [])) × (numbered (keys ++ key ∷ []) n ≡ k)
    at_only k n e (inl h) =
        let both : Some number ≡ Some n = sym h.1 ∙ e in
        let n_is : number ≡ n = cc in (
          omega (arith, longer, is, n_is),
          ap (numbered (keys ++ key ∷ [])) (sym n_is ∙ is) ∙ last_is ∙ h.0,
        )
    at_only k n e (inr h) =
        let found = all.only k n (sym h.1 ∙ e) in (
          omega (arith, longer, found.0),
          get_or_append_left keys (key ∷ []) by_nothing n found.0 ∙ found.1,
        )

-- ---- several keys more

-- the keys are first among more
abbrev pub IsFront : List Key → List Key → Type 0
IsFront keys more = (rest : List Key) × (more ≡ keys ++ rest)

added_front : (keys : List Key) (key : Key) → IsFront keys (add_key keys key)
added_front keys key = at (list_any (same_key key) keys)
  where
    at : (b : Bool) → IsFront keys (cond b keys (keys ++ key ∷ []))
    at true = ([], sym (append-nil keys))
    at false = (key ∷ [], refl)

front_trans : (a b c : List Key) → IsFront a b → IsFront b c → IsFront a c
front_trans a b c (m, e) (n, f) = (m ++ n, f ∙ ap (λ xs. xs ++ n) e ∙ append_assoc a m n)

pub all_front : (keys more : List Key) → IsFront keys (fold add_key keys more)
all_front keys [] = ([], sym (append-nil keys))
all_front keys (k ∷ ks) = front_trans keys (add_key keys k) (fold add_key (add_key keys k) ks)
    (added_front keys k) (all_front (add_key keys k) ks)

number_kept : (keys more : List Key) (number : ℕ) → IsFront keys more → number < length keys
    → numbered more number ≡ numbered keys number
number_kept keys more number (rest, e) lt =
    ap (λ xs. numbered xs number) e ∙ get_or_append_left keys rest by_nothing number lt

longer_front : (keys more : List Key) → IsFront keys more → length keys ≤ length more
longer_front keys more (rest, e) =
    omega (arith, ap length e, length-append keys rest)

numbers_kept : (keys more : List Key) (numbers : List ℕ) → IsFront keys more
    → All (λ number. number < length keys) numbers
    → map (numbered more) numbers ≡ map (numbered keys) numbers
numbers_kept keys more [] front within = refl
numbers_kept keys more (n ∷ ns) front within =
    (λ k. number_kept keys more n front (within 0 n (omega arith)) k
    ∷ numbers_kept keys more ns front (λ i d lt. within (suc i) d (omega (arith, lt))) k)

-- numbers are those of the same keys among more
pub still_numbers : (keys more : List Key) (numbers : List ℕ) (of : List Key) → IsFront keys more
    → AreNumbersOf keys numbers of → AreNumbersOf more numbers of
still_numbers keys more numbers of front are = record {
  within = λ k d lt. let below = are.within k d lt in
      let long = longer_front keys more front in omega (arith, below, long);
  are = numbers_kept keys more numbers front are.within ∙ are.are;
}

pub no_numbers : (all : List Key) → AreNumbersOf all [] []
no_numbers all = record { within = λ k d lt. absurd (omega (arith, lt)); are = refl }

one_within : (n size : ℕ) → n < size → All (λ number. number < size) (n ∷ [])
one_within n size lt zero d h = lt
one_within n size lt (suc k) d h = absurd (omega (arith, h))

-- one more number, of one more key
pub numbers_more : (old all : List Key) (before numbers : List ℕ) (of : List Key) (key : Key)
    (number : ℕ) → AreNumbersOf old before of → all ≡ add_key old key → number < length all
    → numbered all number ≡ key → numbers ≡ before ++ number ∷ []
    → AreNumbersOf all numbers (of ++ key ∷ [])
numbers_more old all before numbers of key number are more lt is e =
    let kept : AreNumbersOf all before of =
    still_numbers old all before of (subst (IsFront old) (sym more) (added_front old key)) are in
    subst (λ ns. AreNumbersOf all ns (of ++ key ∷ [])) (sym e) (record {
      within = All-append (λ n. n < length all) before (number ∷ []) kept.within
          (one_within number (length all) lt);
      are = map-append (numbered all) before (number ∷ [])
          ∙ (λ k. kept.are k ++ is k ∷ []);
    })

-- one key more of a slice of keys
pub numbers_next : (base old new : List Key) (ks : List StoredKey) (i : ℕ) (d : StoredKey)
    (before numbers : List ℕ) (number : ℕ) → i < length ks
    → old ≡ fold add_key base (map key_value (take i ks))
    → AreNumbersOf old before (map key_value (take i ks))
    → new ≡ add_key old (key_value (get_or ks i d)) → number < length new
    → numbered new number ≡ key_value (get_or ks i d) → numbers ≡ before ++ number ∷ []
    → (new ≡ fold add_key base (map key_value (take (i + 1) ks)))
    × AreNumbersOf new numbers (map key_value (take (i + 1) ks))
numbers_next base old new ks i d before numbers number lt old_is are new_is within is e =
    let key : Key = key_value (get_or ks i d) in
    let first : List Key = map key_value (take i ks) in
    let longer : map key_value (take (i + 1) ks) ≡ first ++ key ∷ [] =
    ap (map key_value) (take_more ks i d lt)
    ∙ map-append key_value (take i ks) (get_or ks i d ∷ []) in (
      new_is ∙ ap (λ keys. add_key keys key) old_is
          ∙ sym (fold-append add_key base first (key ∷ []))
          ∙ ap (fold add_key base) (sym longer),
      subst (AreNumbersOf new numbers) (sym longer)
          (numbers_more old new before numbers first key number are new_is within is e),
    )

-- ---- the keys of each selector have numbers

add_number : (keys : List Key) (key : Key)
    → (number : ℕ) × (number < length (add_key keys key)) × (numbered (add_key keys key) number ≡ key)
add_number keys key = at (list_any (same_key key) keys) refl
  where
    at : (b : Bool) → list_any (same_key key) keys ≡ b
        → (number : ℕ) × (number < length (add_key keys key))
        × (numbered (add_key keys key) number ≡ key)
    at true e =
        let found = key_there keys key e in
        let same : keys ≡ add_key keys key = sym (ap (λ b. cond b keys (keys ++ key ∷ [])) e) in
        subst (λ ks. (number : ℕ) × (number < length ks) × (numbered ks number ≡ key)) same found
    at false e =
        let same : keys ++ key ∷ [] ≡ add_key keys key =
        sym (ap (λ b. cond b keys (keys ++ key ∷ [])) e) in
        subst (λ ks. (number : ℕ) × (number < length ks) × (numbered ks number ≡ key)) same (
          length keys,
          omega (arith, length-append keys (key ∷ [])),
          get_or-append_seam keys key [] by_nothing,
        )

first_of_all : (all : List Key) (n : ℕ) (ns : List ℕ) (k : Key) (ks : List Key) → n < length all
    → numbered all n ≡ k → AreNumbersOf all ns ks → AreNumbersOf all (n ∷ ns) (k ∷ ks)
first_of_all all n ns k ks lt is are = record {
  within = All-append (λ m. m < length all) (n ∷ []) ns (one_within n (length all) lt) are.within;
  are = (λ i. is i ∷ are.are i);
}

numbers_exist : (keys more : List Key)
    → (numbers : List ℕ) × AreNumbersOf (fold add_key keys more) numbers more
numbers_exist keys [] = ([], no_numbers keys)
numbers_exist keys (k ∷ ks) =
    let one = add_number keys k in
    let front = all_front (add_key keys k) ks in
    let others = numbers_exist (add_key keys k) ks in
    let all : List Key = fold add_key (add_key keys k) ks in
    let long = longer_front (add_key keys k) all front in (
      one.0 ∷ others.0,
      first_of_all all one.0 others.0 k ks (omega (arith, one.1, long))
          (number_kept (add_key keys k) all one.0 front one.1 ∙ one.2) others.1,
    )

numbers_at : (keys : List Key) (selectors : List (List Component)) (index : ℕ)
    → index < length selectors
    → (numbers : List ℕ) × AreNumbersOf (fold add_key keys (flat_map ancestor_keys selectors)) numbers
    (ancestor_keys (selector_at selectors index))
numbers_at keys [] index lt = absurd (omega (arith, lt))
numbers_at keys (s ∷ ss) zero lt =
    let own = numbers_exist keys (ancestor_keys s) in
    let mid : List Key = fold add_key keys (ancestor_keys s) in (
      own.0,
      subst (λ all. AreNumbersOf all own.0 (ancestor_keys s)) (sym (split_all keys s ss))
          (still_numbers mid (fold add_key mid (flat_map ancestor_keys ss)) own.0 (ancestor_keys s)
          (all_front mid (flat_map ancestor_keys ss)) own.1),
    )
  where
    split_all : (keys : List Key) (s : List Component) (ss : List (List Component))
        → fold add_key keys (flat_map ancestor_keys (s ∷ ss))
        ≡ fold add_key (fold add_key keys (ancestor_keys s)) (flat_map ancestor_keys ss)
    split_all keys s ss = fold-append add_key keys (ancestor_keys s) (flat_map ancestor_keys ss)
numbers_at keys (s ∷ ss) (suc index) lt =
    let mid : List Key = fold add_key keys (ancestor_keys s) in
    let later = numbers_at mid ss index (omega (arith, lt)) in (
      later.0,
      subst (λ all. AreNumbersOf all later.0 (ancestor_keys (selector_at ss index)))
          (sym (fold-append add_key keys (ancestor_keys s) (flat_map ancestor_keys ss))) later.1,
    )

-- the keys that a selector needs have numbers
pub needed_numbers : (selectors : List (List Component)) (index : ℕ) → index < length selectors
    → (numbers : List ℕ) × AreNumbersOf (needed_keys selectors) numbers
    (ancestor_keys (selector_at selectors index))
needed_numbers selectors index lt = numbers_at [] selectors index lt

-- ---- one more link

needed_more : (ss : List (List Component)) (s : List Component)
    → needed_keys (ss ++ s ∷ []) ≡ fold add_key (needed_keys ss) (ancestor_keys s)
needed_more ss s =
    ap (fold add_key []) (flat_map-append ancestor_keys ss (s ∷ []))
    ∙ fold-append add_key [] (flat_map ancestor_keys ss) (flat_map ancestor_keys (s ∷ []))
    ∙ ap (fold add_key (needed_keys ss)) (append-nil (ancestor_keys s))

one_link : (P : Link → Type 0) (link : Link) → P link → All P (link ∷ [])
one_link P link h zero d lt = h
one_link P link h (suc k) d lt = absurd (omega (arith, lt))

pub needed_push : (old new : NeededKeys) (links more : List Link) (link : Link)
    (s : List Component) → AreNeeded old links → HasNumbers new
    → keys_of new ≡ fold add_key (keys_of old) (ancestor_keys s)
    → AreNumbersOf (keys_of new) link.needed.items (ancestor_keys s)
    → link.selector.value ≡ s → more ≡ links ++ link ∷ [] → AreNeeded new more
needed_push old new links more link s are has keys numbers value e =
    subst (AreNeeded new) (sym e) (record {
      numbered = has;
      keys = keys ∙ ap (λ ks. fold add_key ks (ancestor_keys s)) are.keys
          ∙ sym (needed_more (selectors_of links) s)
          ∙ ap (λ v. needed_keys (selectors_of links ++ v ∷ [])) (sym value)
          ∙ ap needed_keys (sym (map-append (λ l. l.selector.value) links (link ∷ [])));
      have = All-append
          (λ l. AreNumbersOf (keys_of new) l.needed.items (ancestor_keys l.selector.value))
          links (link ∷ [])
          (λ k d lt. still_numbers (keys_of old) (keys_of new) _ _
          (subst (IsFront (keys_of old)) (sym keys) (all_front (keys_of old) (ancestor_keys s)))
          (are.have k d lt))
          (one_link
          (λ l. AreNumbersOf (keys_of new) l.needed.items (ancestor_keys l.selector.value)) link
          (subst (λ v. AreNumbersOf (keys_of new) link.needed.items (ancestor_keys v)) (sym value)
          numbers));
    })

pub none_needed : (needed : NeededKeys) (links : List Link) → HasNumbers needed
    → keys_of needed ≡ [] → links ≡ [] → AreNeeded needed links
none_needed needed links has none empty = subst (AreNeeded needed) (sym empty) (record {
  numbered = has;
  keys = none;
  have = λ k d lt. absurd (omega (arith, lt));
})
