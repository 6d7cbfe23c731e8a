-- Indices that are added to a list in turn.
-- Serves `table`, `SelectorIndex::gather` and `SelectorWalk::enter`.
use Rattle.std.proofs.Common.{◌≡◌, ℕ, ◌+◌, ◌<◌, inl, inr, Bool, List, [], ◌∷◌, ◌++◌, length, map, take, get_or, cond, None, ◌↔◌, sym, ap, ◌∙◌, subst}
use Rattle.std.specs.List.{Contains, flat_map}
use Rattle.std.proofs.lemmas.List.{flat_map_more}
use Rattle.std.proofs.lemmas.List.Concat.{flat_map-append}
use Rattle.std.proofs.lemmas.List.Elements.{Contains-append_left, Contains-append_right, Contains-append_cases}
use Rattle.css_selectors.specs.Keys.{Key}
use Rattle.css_index.specs.declared.filed_key.FiledKey.{FiledKey}
use Rattle.css_index.specs.internal.Added.{AreAdded}
use Rattle.css_index.specs.internal.Filed.{entry_of, found_by, found_by_any, is_found_by, AreClasses}
use Rattle.css_index.specs.Walks.{Numbered}
use Rattle.css_index.proofs.FileLemmas.{found_more}
use Rattle.css_index.proofs.KeptLemmas.{contains_none, contains_cons}

module _ (Keeps : ℕ → Type 0) where
  pub added_none : (old : List ℕ) → AreAdded Keeps old [] old
  added_none old index = (
    λ c. inl c,
    λ h. elim h [ inl c ↦ c | inr p ↦ absurd (contains_none index p.0) ],
  )

  -- one after another
  pub added_both : (old one mid two new : List ℕ) → AreAdded Keeps old one mid
      → AreAdded Keeps mid two new → AreAdded Keeps old (one ++ two) new
  added_both old one mid two new a b index = (
    λ c. elim ((b index).0 c) [
      | inl m ↦ elim ((a index).0 m) [
        | inl o ↦ inl o
        | inr p ↦ inr (Contains-append_left one two index p.0, p.1)
      ]
      | inr p ↦ inr (Contains-append_right one two index p.0, p.1)
    ],
    λ h. elim h [
      | inl o ↦ (b index).1 (inl ((a index).1 (inl o)))
      | inr p ↦ elim (Contains-append_cases one two index p.0) [
        | inl c ↦ (b index).1 (inl ((a index).1 (inr (c, p.1))))
        | inr c ↦ (b index).1 (inr (c, p.1))
      ]
    ],
  )

  only : (x y : ℕ) → Contains (x ∷ []) y → x ≡ y
  only x y c = elim ((contains_cons x [] y).0 c) [ inl e ↦ e | inr n ↦ absurd (contains_none y n) ]

  -- one that is kept
  pub added_one : (old : List ℕ) (x : ℕ) → Keeps x → AreAdded Keeps old (x ∷ []) (old ++ x ∷ [])
  added_one old x kept index = (
    λ c. elim (Contains-append_cases old (x ∷ []) index c) [
      | inl o ↦ inl o
      | inr n ↦ inr (n, subst Keeps (only x index n) kept)
    ],
    λ h. elim h [
      | inl o ↦ Contains-append_left old (x ∷ []) index o
      | inr p ↦ Contains-append_right old (x ∷ []) index p.0
    ],
  )

  -- one that is not kept
  pub added_not : (old : List ℕ) (x : ℕ) → (Keeps x → ⊥) → AreAdded Keeps old (x ∷ []) old
  added_not old x not index = (
    λ c. inl c,
    λ h. elim h [
      | inl o ↦ o
      | inr p ↦ absurd (not (subst Keeps (sym (only x index p.0)) p.1))
    ],
  )

  -- one more entry
  pub added_step : (old before after : List ℕ) (entries : List FiledKey) (i : ℕ) (d : FiledKey)
      (key : Key) (t : Bool)
      → AreAdded Keeps old (found_by (map entry_of (take i entries)) key) before
      → AreAdded Keeps before (cond t (d.rule ∷ []) []) after → i < length entries
      → d ≡ get_or entries i d → is_found_by key (entry_of d) ≡ t
      → AreAdded Keeps old (found_by (map entry_of (take (i + 1) entries)) key) after
  added_step old before after entries i d key t known next lt read is =
      subst (λ found. AreAdded Keeps old found after)
      (ap (λ x. found_by (map entry_of (take i entries)) key ++ cond t (x.rule ∷ []) []) read
      ∙ sym (found_more entries i d key t lt (ap (λ x. is_found_by key (entry_of x)) (sym read) ∙ is)))
      (added_both old (found_by (map entry_of (take i entries)) key) before (cond t (d.rule ∷ []) [])
      after known next)

  -- one more key
  pub added_more : (es : Numbered) (old before after : List ℕ) (keys : List Key) (key : Key)
      → AreAdded Keeps old (found_by_any es keys) before
      → AreAdded Keeps before (found_by es key) after
      → AreAdded Keeps old (found_by_any es (keys ++ key ∷ [])) after
  added_more es old before after keys key known next =
      subst (λ found. AreAdded Keeps old found after) (flat_map_more (found_by es) [] keys key)
      (added_both old (found_by_any es keys) before (found_by es key) after known next)

  -- where there was none before, there is what was found and is kept
  pub added_alone : (found new : List ℕ) → AreAdded Keeps [] found new → (index : ℕ)
      → Contains new index ↔ (Contains found index × Keeps index)
  added_alone found new are index = (
    λ c. elim ((are index).0 c) [ inl o ↦ absurd (contains_none index o) | inr p ↦ p ],
    λ p. (are index).1 (inr p),
  )

  -- what is added for one key after another
  pub added_in_turn : (es : Numbered) (old any named of_id of_classes all : List ℕ) (a b : Key)
      (ids classes attributes : List Key) → AreAdded Keeps old (found_by es a) any
      → AreAdded Keeps any (found_by es b) named → AreAdded Keeps named (found_by_any es ids) of_id
      → AreAdded Keeps of_id (found_by_any es classes) of_classes
      → AreAdded Keeps of_classes (found_by_any es attributes) all
      → AreAdded Keeps old (found_by_any es (a ∷ b ∷ (ids ++ (classes ++ attributes)))) all
  added_in_turn es old any named of_id of_classes all a b ids classes attributes s1 s2 s3 s4 s5 =
      let f = found_by es in
      let last = subst (λ found. AreAdded Keeps of_id found all)
      (sym (flat_map-append f classes attributes))
      (added_both of_id (flat_map f classes) of_classes (flat_map f attributes) all s4 s5) in
      let rest = subst (λ found. AreAdded Keeps named found all)
      (sym (flat_map-append f ids (classes ++ attributes)))
      (added_both named (flat_map f ids) of_id (flat_map f (classes ++ attributes)) all s3 last) in
      added_both old (f a) any (f b ++ flat_map f (ids ++ (classes ++ attributes))) all s1
      (added_both any (f b) named (flat_map f (ids ++ (classes ++ attributes))) all s2 rest)

-- an element without a class has none
pub no_classes : AreClasses None []
no_classes text = (λ h. absurd (cc), λ c. absurd (contains_none text c))
