-- The bits of the keys of fields that were read.
-- Serves `tree::read_each` (a key whose bit is not there is no earlier key).
use Rattle.std.proofs.Common.{◌≡◌, ℕ, Bool, true, false, IsTrue, List, [], ◌∷◌, ◌++◌, refl, sym, ap, ◌∙◌, subst, inl, inr, arith}
use Rattle.std.specs.Prelude.{bytes_eq, ◌||◌}
use Rattle.std.specs.Int.Bits.{bit_or}
use Rattle.std.specs.List.{Contains}
use Rattle.std.proofs.lemmas.Bool.{false≢true}
use Rattle.std.proofs.lemmas.Bool.Decides.{nat_tests}
use Rattle.std.proofs.lemmas.List.Elements.{Contains-append_left, Contains-append_right, Contains-push_cases}
use Rattle.std.proofs.lemmas.Slice.Eq.{bytes_eq-Decides}
use Rattle.css_matching.specs.Hashes.{mark_of, Covers, covers}
use Rattle.css_matching.proofs.HashLemmas.{covers_left, covers_right, covers_more, covers_test}
use Rattle.cssq_tree.specs.TreeText.{key_of, has_key}
use Rattle.cssq_tree.specs.internal.Marks.{AreMarked}

-- no field has no bit
pub marked_none : (seen : ℕ) → AreMarked [] seen
marked_none seen field there = absurd (omega (arith, there.1))

-- the bit of one more key
pub marked_more : (before : List (List ℕ)) (seen : ℕ) (field : List ℕ) → AreMarked before seen
    → AreMarked (before ++ field ∷ []) (bit_or seen (mark_of (key_of field)))
marked_more before seen field all other there =
    elim (Contains-push_cases before field other there) [
      | inl x ↦ covers_more (bit_or seen (mark_of (key_of field))) seen (mark_of (key_of other))
          (covers_left seen (mark_of (key_of field))) (all other x)
      | inr e ↦ subst
          (λ f. Covers (bit_or seen (mark_of (key_of field))) (mark_of (key_of f))) e
          (covers_right seen (mark_of (key_of field)))
    ]

-- the same, of a key that was read
pub marked_next : (before after : List (List ℕ)) (seen bits : ℕ) (field key : List ℕ)
    → AreMarked before seen → after ≡ before ++ field ∷ [] → bits ≡ mark_of key
    → key ≡ key_of field → AreMarked after (bit_or seen bits)
marked_next before after seen bits field key all is mark same =
    subst (λ fields. AreMarked fields (bit_or seen bits)) (sym is)
    (subst (λ b. AreMarked (before ++ field ∷ []) (bit_or seen b)) (sym (mark ∙ ap mark_of same))
    (marked_more before seen field all))

-- a field that has the key is there
key_there : (fields : List (List ℕ)) (key : List ℕ) → has_key fields key ≡ true
    → (field : List ℕ) × Contains fields field × (key_of field ≡ key)
key_there [] key has = absurd (false≢true has)
key_there (f ∷ fs) key has = at (bytes_eq (key_of f) key) refl (key_there fs key) has
  where
    at : (b : Bool) → bytes_eq (key_of f) key ≡ b
        → (has_key fs key ≡ true
        → (field : List ℕ) × Contains fs field × (key_of field ≡ key))
        → (b || has_key fs key) ≡ true
        → (field : List ℕ) × Contains (f ∷ fs) field × (key_of field ≡ key)
    at true is later h = (
      f,
      Contains-append_left (f ∷ []) fs f (0, omega arith, refl),
      (bytes_eq-Decides (key_of f) key).0 is,
    )
    at false is later h =
        let found = later h in
        (found.0, Contains-append_right (f ∷ []) fs found.0 found.1, found.2)

-- a key whose bit is not there is none of theirs
pub unmarked : (fields : List (List ℕ)) (seen : ℕ) (key : List ℕ) → AreMarked fields seen
    → (bit_or seen (mark_of key) ≡ seen → ⊥) → has_key fields key ≡ false
unmarked fields seen key all new = by (has_key fields key) refl
  where
    by : (b : Bool) → has_key fields key ≡ b → b ≡ false
    by false e = refl
    by true e =
        let found = key_there fields key e in
        let covered : IsTrue (covers seen (mark_of key)) =
        subst (λ k. IsTrue (covers seen (mark_of k))) found.2
        (covers_test seen (mark_of (key_of found.0)) (all found.0 found.1)) in
        absurd (new (grind (arith, nat_tests, covered)))
