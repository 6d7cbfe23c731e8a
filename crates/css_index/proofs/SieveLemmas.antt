-- Places of keys in a sieve.
-- Serves `sieve` and `table`.
use Rattle.std.proofs.Common.{◌≡◌, ℕ, inl, inr, Bool, true, false, List, [], ◌∷◌, ◌++◌, map, sym, ap, ◌∙◌, subst}
use Rattle.std.specs.Prelude.{slice_index_or}
use Rattle.std.specs.List.{Contains}
use Rattle.std.proofs.lemmas.Bool.{false≢true}
use Rattle.std.proofs.lemmas.List.{map-append}
use Rattle.std.proofs.lemmas.List.Elements.{Contains-push_cases}
use Rattle.css_selectors.specs.Keys.{Key}
use Rattle.css_index.specs.declared.filed_key.FiledKey.{FiledKey}
use Rattle.css_index.specs.KeyNumbers.{is_same}
use Rattle.css_index.specs.internal.Added.{AreAdded}
use Rattle.css_index.specs.internal.Filed.{entry_of, found_by}
use Rattle.css_index.specs.internal.Sieves.{place_of_text, sieve_place, IsIn, AreIn}
use Rattle.css_index.proofs.FileLemmas.{same_by}
use Rattle.css_index.proofs.KeyedLemmas.{found_from}
use Rattle.css_index.proofs.KeptLemmas.{contains_none}

-- no entry has a place
pub in_none : (places : List Bool) → AreIn places []
in_none places e c = absurd (contains_none e c)

-- one more entry takes its place
pub in_more : (old new : List Bool) (es : List (Key × ℕ)) (e : Key × ℕ) → AreIn old es
    → ((other : Key) → IsIn old other → IsIn new other) → IsIn new e.0 → AreIn new (es ++ e ∷ [])
in_more old new es e are kept own x c = elim (Contains-push_cases es e x c) [
  | inl h ↦ kept x.0 (are x h)
  | inr same ↦ subst (λ y. IsIn new y.0) same own
]

pub in_more_entries : (old new : List Bool) (entries : List FiledKey) (d : FiledKey)
    → AreIn old (map entry_of entries) → ((other : Key) → IsIn old other → IsIn new other)
    → IsIn new (entry_of d).0 → AreIn new (map entry_of (entries ++ d ∷ []))
in_more_entries old new entries d are kept own =
    subst (AreIn new) (sym (map-append entry_of entries (d ∷ [])))
    (in_more old new (map entry_of entries) (entry_of d) are kept own)

-- keys that are the same have one place
same_sieve : (own key : Key) → is_same own key ≡ true → sieve_place own ≡ sieve_place key
same_sieve = same_by sieve_place (λ a b e. ap (place_of_text 2) e) (λ a b e. ap (place_of_text 3) e)

-- nothing is found by a key whose place is free
pub added_absent : (Keeps : ℕ → Type 0) (old : List ℕ) (places : List Bool) (es : List (Key × ℕ))
    (key : Key) → AreIn places es → slice_index_or places (sieve_place key) false ≡ false
    → AreAdded Keeps old (found_by es key) old
added_absent Keeps old places es key are free index = (
  λ c. inl c,
  λ h. elim h [ inl c ↦ c | inr p ↦ absurd (none p.0) ],
)
  where
    none : Contains (found_by es key) index → ⊥
    none c =
        let r = found_from key index es c in
        false≢true (sym free ∙ ap (λ p. slice_index_or places p false) (sym (same_sieve r.0 key r.2))
        ∙ are (r.0, index) r.1)
