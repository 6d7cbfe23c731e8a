-- The keys of fields in a set.
-- Serves `tree::first_fault_by_set` (a key that occurs twice).
use Rattle.std.proofs.Common.{◌≡◌, ℕ, Bool, true, false, cond, List, [], ◌∷◌, ◌++◌, refl, sym, ap, ◌∙◌, Bor, Ordering}
use Rattle.std.specs.Prelude.{bytes_eq, not, ◌||◌}
use Rattle.std.specs.List.{list_any}
use Rattle.std.specs.Ordering.{nat_cmp, is_eq}
use Rattle.std.specs.Cmp.Lexicographic.{slice_cmp}
use Rattle.std.specs.BTreeMap.{is_at}
use Rattle.std.specs.BTreeSet.{BTreeSet, contains_by, IsEmpty, Updates}
use Rattle.std.proofs.lemmas.Map.Text.{is_eq-slice_cmp}
use Rattle.std.proofs.lemmas.List.Folds.{list_any-append}
use Rattle.cssq_tree.specs.TreeText.{key_of, has_equals, has_key}
use Rattle.cssq_tree.proofs.Fields.{Passed, passed_none, passed_more}

-- how keys are compared
abbrev pub by_text : Bor (List ℕ) → Bor (List ℕ) → Ordering
by_text x y = slice_cmp nat_cmp x.now y.now

abbrev pub has_text : BTreeSet (Bor (List ℕ)) → List ℕ → Bool
has_text keys key = contains_by (λ k. slice_cmp nat_cmp key k.now) keys

-- the set has the keys of the fields that were examined
pub record KeysAre (number : ℕ) (all rest : List (List ℕ))
    (keys : BTreeSet (Bor (List ℕ))) : Type 0 where
  pub before : List (List ℕ)
  pub passed : Passed number all rest before
  pub has : (key : List ℕ) → has_text keys key ≡ has_key before key

pub keys_none : (number : ℕ) (all : List (List ℕ)) (keys : BTreeSet (Bor (List ℕ))) → IsEmpty keys
    → KeysAre number all all keys
keys_none number all keys empty = record {
  before = [];
  passed = passed_none number all;
  has = λ key. ap (λ ks. list_any (is_at (λ k. slice_cmp nat_cmp key k.now)) ks) empty;
}

not_false : (b : Bool) → not b ≡ false → b ≡ true
not_false true e = refl
not_false false e = sym e

not_true : (b : Bool) → not b ≡ true → b ≡ false
not_true true e = sym e
not_true false e = refl

one_more : (b x : Bool) → cond b true x ≡ x || (b || false)
one_more true true = refl
one_more true false = refl
one_more false true = refl
one_more false false = refl

module _ {number : ℕ} {all rest : List (List ℕ)} {keys : BTreeSet (Bor (List ℕ))}
    (are : KeysAre number all rest keys) (field : List ℕ) (others : List (List ℕ))
    (is : rest ≡ field ∷ others) (key : Bor (List ℕ)) (same : key.now ≡ key_of field) where
  required : (added : Bool) → added ≡ not (has_text keys key.now)
      → added ≡ not (has_key are.before (key_of field))
  required added was = was ∙ ap not (are.has key.now ∙ ap (has_key are.before) same)

  -- the key was in the set before
  pub had : (added : Bool) → added ≡ not (has_text keys key.now) → added ≡ false
      → has_key are.before (key_of field) ≡ true
  had added was old = not_false _ (sym (required added was) ∙ old)

  pub had_not : (added : Bool) → added ≡ not (has_text keys key.now) → added ≡ true
      → has_key are.before (key_of field) ≡ false
  had_not added was new = not_true _ (sym (required added was) ∙ new)

  has_more : (more : BTreeSet (Bor (List ℕ))) → Updates by_text keys more key true → (q : List ℕ)
      → has_text more q ≡ has_key (are.before ++ field ∷ []) q
  has_more more updates q =
      let found : is_eq (slice_cmp nat_cmp key.now q) ≡ bytes_eq (key_of field) q =
      is_eq-slice_cmp key.now q ∙ ap (λ k. bytes_eq k q) same in
      updates.0 (record { ref_ptr = (0, 0); now = q })
      ∙ (λ k. cond (found k) true (are.has q k))
      ∙ one_more (bytes_eq (key_of field) q) (has_key are.before q)
      ∙ sym (list_any-append (λ f. bytes_eq (key_of f) q) are.before (field ∷ []))

  pub keys_more : (more : BTreeSet (Bor (List ℕ))) → Updates by_text keys more key true
      → has_equals field ≡ true → has_key are.before (key_of field) ≡ false
      → KeysAre number all others more
  keys_more more updates some new = record {
    before = are.before ++ field ∷ [];
    passed = passed_more are.passed field others is some new;
    has = has_more more updates;
  }
