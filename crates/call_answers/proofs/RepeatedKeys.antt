-- Keys of attributes in a set.
-- Serves `elements::repeats_key` (a key that is there twice).
use Rattle.std.proofs.Common.{◌≡◌, ℕ, zero, suc, ◌+◌, ◌<◌, ◌≤◌, Bool, true, false, cond, List, [], ◌∷◌, ◌++◌, refl, sym, ap, ◌∙◌, ◌-◌, Bor, Ordering, arith}
use Rattle.std.specs.Prelude.{bytes_eq, not, ◌||◌}
use Rattle.std.specs.List.{list_any}
use Rattle.std.specs.Ordering.{nat_cmp, is_eq}
use Rattle.std.specs.Cmp.Lexicographic.{slice_cmp}
use Rattle.std.specs.BTreeMap.{is_at}
use Rattle.std.specs.BTreeSet.{BTreeSet, contains_by, IsEmpty, Updates}
use Rattle.std.proofs.Math.Bool.{or-true}
use Rattle.std.proofs.lemmas.Bool.{not-false, not-true}
use Rattle.std.proofs.lemmas.Map.Text.{is_eq-slice_cmp}
use Rattle.std.proofs.lemmas.List.Folds.{list_any-append}
use Rattle.std.proofs.lemmas.List.FromFn.{map-range_with_len_more}
use Rattle.call_answers.specs.Elements.{key_in, keys_in, has_key, repeats_key}

-- how keys are compared
abbrev pub by_text : Bor (List ℕ) → Bor (List ℕ) → Ordering
by_text x y = slice_cmp nat_cmp x.now y.now

abbrev pub has_text : BTreeSet (Bor (List ℕ)) → List ℕ → Bool
has_text keys key = contains_by (λ k. slice_cmp nat_cmp key k.now) keys

-- the set has the keys of the first attributes, none of which repeats one
pub record KeysAre (fields : List (List ℕ)) (count : ℕ)
    (keys : BTreeSet (Bor (List ℕ))) : Type 0 where
  pub new : repeats_key fields count ≡ false
  pub has : (key : List ℕ) → has_text keys key ≡ has_key (keys_in fields count) key

pub keys_none : (fields : List (List ℕ)) (keys : BTreeSet (Bor (List ℕ))) → IsEmpty keys
    → KeysAre fields 0 keys
keys_none fields keys empty = record {
  new = refl;
  has = λ key. ap (λ ks. list_any (is_at (λ k. slice_cmp nat_cmp key k.now)) ks) empty;
}

one_more : (b x : Bool) → cond b true x ≡ x || (b || false)
one_more true true = refl
one_more true false = refl
one_more false true = refl
one_more false false = refl

-- the key of one attribute more
keys_next : (fields : List (List ℕ)) (i : ℕ)
    → keys_in fields (i + 1) ≡ keys_in fields i ++ key_in fields i ∷ []
keys_next fields i = map-range_with_len_more (key_in fields) 0 i i (omega arith)

repeats_next : (fields : List (List ℕ)) (i : ℕ)
    → repeats_key fields (i + 1)
    ≡ repeats_key fields i || has_key (keys_in fields i) (key_in fields i)
repeats_next fields i = let next : i + 1 ≡ suc i = omega arith in ap (repeats_key fields) next

-- a key that is repeated is repeated among more attributes
repeats_more : (fields : List (List ℕ)) (i more : ℕ) → repeats_key fields i ≡ true
    → repeats_key fields (i + more) ≡ true
repeats_more fields i zero is =
    let same : i + 0 ≡ i = omega arith in
    ap (repeats_key fields) same ∙ is
repeats_more fields i (suc more) is =
    let next : i + suc more ≡ suc (i + more) = omega arith in
    ap (repeats_key fields) next
    ∙ ap (λ b. b || has_key (keys_in fields (i + more)) (key_in fields (i + more)))
    (repeats_more fields i more is)

-- ---- keys that are compared one after another

module _ (fields : List (List ℕ)) (key : List ℕ) where
  has_next : (i : ℕ) → has_key (keys_in fields (i + 1)) key
      ≡ has_key (keys_in fields i) key || (bytes_eq (key_in fields i) key || false)
  has_next i = ap (λ ks. has_key ks key) (keys_next fields i)
      ∙ list_any-append (λ k. bytes_eq k key) (keys_in fields i) (key_in fields i ∷ [])

  has_later : (i more : ℕ) → has_key (keys_in fields i) key ≡ true
      → has_key (keys_in fields (i + more)) key ≡ true
  has_later i zero is =
      let same : i + 0 ≡ i = omega arith in
      ap (λ n. has_key (keys_in fields n) key) same ∙ is
  has_later i (suc more) is =
      let next : i + suc more ≡ i + more + 1 = omega arith in
      ap (λ n. has_key (keys_in fields n) key) next ∙ has_next (i + more)
      ∙ ap (λ b. b || (bytes_eq (key_in fields (i + more)) key || false)) (has_later i more is)

  -- one of the first attributes has the key
  pub has_one : (i count : ℕ) → i < count → bytes_eq (key_in fields i) key ≡ true
      → has_key (keys_in fields count) key ≡ true
  has_one i count less is =
      let here : has_key (keys_in fields (i + 1)) key ≡ true = has_next i
      ∙ ap (λ b. has_key (keys_in fields i) key || (b || false)) is
      ∙ or-true (has_key (keys_in fields i) key) in
      let sum : i + 1 + (count - (i + 1)) ≡ count = omega (arith, less) in
      ap (λ n. has_key (keys_in fields n) key) (sym sum) ∙ has_later (i + 1) (count - (i + 1)) here

  -- one attribute more has not
  pub has_none : (i : ℕ) → has_key (keys_in fields i) key ≡ false
      → bytes_eq (key_in fields i) key ≡ false → has_key (keys_in fields (i + 1)) key ≡ false
  has_none i none is = has_next i ∙ ap (λ b. b || (bytes_eq (key_in fields i) key || false)) none
      ∙ ap (λ b. b || false) is

module _ (fields : List (List ℕ)) (i : ℕ) where
  -- an attribute has the key of an earlier one
  pub repeats_one : (count : ℕ) → i < count → has_key (keys_in fields i) (key_in fields i) ≡ true
      → repeats_key fields count ≡ true
  repeats_one count less is =
      let here : repeats_key fields (i + 1) ≡ true = repeats_next fields i
      ∙ ap (λ b. repeats_key fields i || b) is ∙ or-true (repeats_key fields i) in
      let sum : i + 1 + (count - (i + 1)) ≡ count = omega (arith, less) in
      ap (repeats_key fields) (sym sum) ∙ repeats_more fields (i + 1) (count - (i + 1)) here

  -- one attribute more has not
  pub repeats_none : repeats_key fields i ≡ false
      → has_key (keys_in fields i) (key_in fields i) ≡ false → repeats_key fields (i + 1) ≡ false
  repeats_none none is = repeats_next fields i
      ∙ ap (λ b. b || has_key (keys_in fields i) (key_in fields i)) none ∙ is

module _ {fields : List (List ℕ)} {i : ℕ} {keys : BTreeSet (Bor (List ℕ))}
    (are : KeysAre fields i keys) (key : Bor (List ℕ)) (same : key.now ≡ key_in fields i) where
  tested : (added : Bool) → added ≡ not (has_text keys key.now)
      → added ≡ not (has_key (keys_in fields i) (key_in fields i))
  tested added was = was ∙ ap not (are.has key.now ∙ ap (has_key (keys_in fields i)) same)

  -- the key was in the set before
  pub had : (added : Bool) → added ≡ not (has_text keys key.now) → added ≡ false → (count : ℕ)
      → i < count → repeats_key fields count ≡ true
  had added was old count less =
      repeats_one fields i count less (not-false _ (sym (tested added was) ∙ old))

  has_more : (more : BTreeSet (Bor (List ℕ))) → Updates by_text keys more key true → (q : List ℕ)
      → has_text more q ≡ has_key (keys_in fields (i + 1)) q
  has_more more updates q =
      let found : is_eq (slice_cmp nat_cmp key.now q) ≡ bytes_eq (key_in fields i) q =
      is_eq-slice_cmp key.now q ∙ ap (λ k. bytes_eq k q) same in
      updates.0 (record { ref_ptr = (0, 0); now = q })
      ∙ (λ k. cond (found k) true (are.has q k))
      ∙ one_more (bytes_eq (key_in fields i) q) (has_key (keys_in fields i) q)
      ∙ sym (has_next fields q i)

  -- the key was not in the set
  pub keys_more : (added : Bool) → added ≡ not (has_text keys key.now) → added ≡ true
      → (more : BTreeSet (Bor (List ℕ))) → Updates by_text keys more key true
      → KeysAre fields (i + 1) more
  keys_more added was new more updates = record {
    new = repeats_none fields i are.new (not-true _ (sym (tested added was) ∙ new));
    has = has_more more updates;
  }

-- one attribute has no earlier one
pub repeats_few : (fields : List (List ℕ)) (count : ℕ) → count ≤ 1
    → repeats_key fields count ≡ false
repeats_few fields zero few = refl
repeats_few fields (suc zero) few = refl
repeats_few fields (suc (suc n)) few = absurd (omega (arith, few))
