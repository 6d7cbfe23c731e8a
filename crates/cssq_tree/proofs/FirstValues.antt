-- The first value of a key among fields that are read one after the other.
-- Serves `tree::read_each` (the values of `class` and `id`, and whether there are others).
use Rattle.std.proofs.Common.{◌≡◌, ℕ, zero, suc, ◌<◌, Bool, subst, arith, true, false, cond, List, [], ◌∷◌, refl, sym, ap, ◌∙◌, Option, None, Some, map, ◌⊎◌, inl, inr, ⊎_elim}
use Rattle.std.specs.Prelude.{bytes_eq, codes, not, ◌||◌, is_some}
use Rattle.std.proofs.lemmas.Slice.Eq.{bytes_eq-Decides}
use Rattle.cssq_tree.specs.TreeText.{key_of, value_of, attribute_of}
use Rattle.cssq_tree.specs.PageNodes.{value_in}
use Rattle.cssq_tree.specs.internal.Spans.{value_after, is_other, IsAt, IsSpanOf, IsNew, IsAfter}
use Rattle.cssq_tree.specs.declared.tree.entry.Span.{Span}

-- the earlier value, or else the later one
abbrev pub or_later : Option (List ℕ) → Option (List ℕ) → Option (List ℕ)
or_later (Some earlier) later = Some earlier
or_later None later = later

-- the value of fields that were read, where others are left
pub record IsFirstValue (key : List ℕ) (all rest : List (List ℕ))
    (found : Option (List ℕ)) : Type 0 where
  pub is : value_in (map attribute_of all) key
      ≡ or_later found (value_in (map attribute_of rest) key)

pub first_none : (key : List ℕ) (all : List (List ℕ)) → IsFirstValue key all all None
first_none key all = record { is = refl }

one_after : (b : Bool) (value : List ℕ) (later : Option (List ℕ))
    → cond b (Some value) later ≡ or_later (cond b (Some value) None) later
one_after true value later = refl
one_after false value later = refl

after : (found : Option (List ℕ)) (key name value : List ℕ) (later : Option (List ℕ))
    → or_later found (cond (bytes_eq name key) (Some value) later)
    ≡ or_later (value_after found key name value) later
after (Some earlier) key name value later = refl
after None key name value later = one_after (bytes_eq name key) value later

pub first_more : {key : List ℕ} {all rest : List (List ℕ)} {found : Option (List ℕ)}
    → IsFirstValue key all rest found → (field : List ℕ) (others : List (List ℕ))
    → rest ≡ field ∷ others → (name value : List ℕ) → name ≡ key_of field → value ≡ value_of field
    → (next : Option (List ℕ)) → next ≡ value_after found key name value
    → IsFirstValue key all others next
first_more {key} {all} {rest}
    {found} first field others is name value name_is value_is next next_is = record {
      is =
          first.is ∙ ap (λ fs. or_later found (value_in (map attribute_of fs) key)) is
          ∙ after found key (key_of field) (value_of field) (value_in (map attribute_of others) key)
          ∙ (λ k. or_later (value_after found key (sym name_is k) (sym value_is k))
          (value_in (map attribute_of others) key))
          ∙ ap (λ o. or_later o (value_in (map attribute_of others) key)) (sym next_is);
    }

none_later : (found : Option (List ℕ)) → or_later found None ≡ found
none_later None = refl
none_later (Some v) = refl

pub first_all : {key : List ℕ} {all rest : List (List ℕ)} {found : Option (List ℕ)}
    → IsFirstValue key all rest found → rest ≡ [] → found ≡ value_in (map attribute_of all) key
first_all {key} {all} {rest} {found} first none = sym (none_later found)
    ∙ sym (first.is ∙ ap (λ fs. or_later found (value_in (map attribute_of fs) key)) none)

-- ---- keys that are neither `class` nor `id`

pub record OthersAre (all rest : List (List ℕ)) (others : Bool) : Type 0 where
  pub none : (key : List ℕ) → others ≡ false → (key ≡ codes "class" → ⊥) → (key ≡ codes "id" → ⊥)
      → value_in (map attribute_of all) key ≡ value_in (map attribute_of rest) key

pub others_none : (all : List (List ℕ)) → OthersAre all all false
others_none all = record { none = λ key only class id. refl }

neither : (a b : Bool) → (a || b) ≡ false → (a ≡ false) × (b ≡ false)
neither false b e = (refl, e)
neither true b e = absurd (cc)

either : (a b : Bool) → not (a || b) ≡ false → (a ≡ true) ⊎ (b ≡ true)
either true b e = inl refl
either false true e = inr refl
either false false e = absurd (cc)

apart : (name key : List ℕ) → (key ≡ name → ⊥) → (b : Bool) → bytes_eq name key ≡ b → b ≡ false
apart name key ne true e = absurd (ne (sym ((bytes_eq-Decides name key).0 e)))
apart name key ne false e = refl

unlike : (name key : List ℕ) → is_other name ≡ false → (key ≡ codes "class" → ⊥)
    → (key ≡ codes "id" → ⊥) → bytes_eq name key ≡ false
unlike name key kept class id =
    apart name key (λ same.
    ⊎_elim
    (λ e. class (same ∙ (bytes_eq-Decides name (codes "class")).0 e))
    (λ e. id (same ∙ (bytes_eq-Decides name (codes "id")).0 e))
    (either (bytes_eq name (codes "class")) (bytes_eq name (codes "id")) kept))
    (bytes_eq name key) refl

pub others_more : {all rest : List (List ℕ)} {others : Bool} → OthersAre all rest others
    → (field : List ℕ) (later : List (List ℕ)) → rest ≡ field ∷ later → (name : List ℕ)
    → name ≡ key_of field → (next : Bool) → next ≡ others || is_other name
    → OthersAre all later next
others_more {all} {rest} {others} are field later is name name_is next next_is = record {
  none = λ key only class id.
      let both = neither others (is_other name) (sym next_is ∙ only) in
      let passed : bytes_eq (key_of field) key ≡ false =
      ap (λ n. bytes_eq n key) (sym name_is) ∙ unlike name key both.1 class id in
      are.none key both.0 class id
      ∙ ap (λ fs. value_in (map attribute_of fs) key) is
      ∙ ap (λ b. cond b (Some (value_of field)) (value_in (map attribute_of later) key)) passed;
}

pub others_all : {all rest : List (List ℕ)} {others : Bool} → OthersAre all rest others → rest ≡ []
    → (key : List ℕ) → others ≡ false → (key ≡ codes "class" → ⊥) → (key ≡ codes "id" → ⊥)
    → value_in (map attribute_of all) key ≡ None
others_all are empty key only class id =
    are.none key only class id ∙ ap (λ fs. value_in (map attribute_of fs) key) empty

-- ---- where the values are

fresh_span : (all : List ℕ) (old new : Span) (found value : Option (List ℕ)) (at len : ℕ)
    → IsSpanOf all old found → IsNew new at len → IsAt all at len value → IsSpanOf all new value
fresh_span all old new found value at len span is here = record {
  none = λ empty. absurd (omega (arith, is.there, empty));
  some = λ there. ap is_some here.is;
  kept = λ there near. subst (λ p. IsAt all p new.len value) (sym (is.near near).0)
      (subst (λ l. IsAt all at l value) (sym (is.near near).1) here);
}

zero_or : (n : ℕ) → (n ≡ 0) ⊎ (0 < n)
zero_or zero = inl refl
zero_or (suc n) = inr (omega arith)

kept_span : (all : List ℕ) (old new : Span) (found : Option (List ℕ)) → IsSpanOf all old found
    → new ≡ old → IsSpanOf all new found
kept_span all old new found span same = subst (λ s. IsSpanOf all s found) (sym same) span

after_found : (found : Option (List ℕ)) (wanted key value : List ℕ) → is_some found ≡ true
    → found ≡ value_after found wanted key value
after_found None wanted key value some = absurd (cc)
after_found (Some v) wanted key value some = refl

after_none : (found : Option (List ℕ)) (wanted key value : List ℕ) → found ≡ None
    → bytes_eq key wanted ≡ true → Some value ≡ value_after found wanted key value
after_none None wanted key value none same = sym (ap (λ b. cond b (Some value) None) same)
after_none (Some v) wanted key value none same = absurd (cc)

after_other : (found : Option (List ℕ)) (wanted key value : List ℕ) → bytes_eq key wanted ≡ false
    → found ≡ value_after found wanted key value
after_other None wanted key value apart = sym (ap (λ b. cond b (Some value) None) apart)
after_other (Some v) wanted key value apart = refl

module _ (all : List ℕ) (old new : Span) (found : Option (List ℕ)) (wanted key value : List ℕ)
    (at len : ℕ) (span : IsSpanOf all old found) (is : IsAfter old new wanted key at len)
    (here : IsAt all at len (Some value)) where
  by_key : (b : Bool) → bytes_eq key wanted ≡ b
      → IsSpanOf all new (value_after found wanted key value)
  by_key false e = subst (IsSpanOf all new) (after_other found wanted key value e)
      (kept_span all old new found span (is.other e))
  by_key true e =
      ⊎_elim
      (λ empty. subst (IsSpanOf all new) (after_none found wanted key value (span.none empty) e)
      (fresh_span all old new found (Some value) at len span ((is.mine e).fresh empty) here))
      (λ there. subst (IsSpanOf all new) (after_found found wanted key value (span.some there))
      (kept_span all old new found span ((is.mine e).same there)))
      (zero_or old.at)

  pub span_more : IsSpanOf all new (value_after found wanted key value)
  span_more = by_key (bytes_eq key wanted) refl

-- the value of a key of fields that were read, and where it is
pub record SpanSoFar (text key : List ℕ) (all rest : List (List ℕ)) (s : Span) : Type 0 where
  pub found : Option (List ℕ)
  pub first : IsFirstValue key all rest found
  pub span : IsSpanOf text s found

pub span_none : (text key : List ℕ) (all : List (List ℕ)) (s : Span) → s.at ≡ 0
    → SpanSoFar text key all all s
span_none text key all s empty = record {
  found = None;
  first = first_none key all;
  span = record {
    none = λ _. refl;
    some = λ there. absurd (omega (arith, empty, there));
    kept = λ there near. absurd (omega (arith, empty, there));
  };
}

pub span_next : {text key : List ℕ} {all rest : List (List ℕ)} {s : Span}
    → SpanSoFar text key all rest s → (field : List ℕ) (others : List (List ℕ))
    → rest ≡ field ∷ others → (name value : List ℕ) → name ≡ key_of field → value ≡ value_of field
    → (new : Span) (at len : ℕ) → IsAfter s new key name at len → IsAt text at len (Some value)
    → SpanSoFar text key all others new
span_next {text} {key} {all} {rest}
    {s} so_far field others is name value name_is value_is new at len after_it here = record {
      found = value_after so_far.found key name value;
      first = first_more so_far.first field others is name value name_is value_is
          (value_after so_far.found key name value) refl;
      span = span_more text s new so_far.found key name value at len so_far.span after_it here;
    }

pub span_all : {text key : List ℕ} {all rest : List (List ℕ)} {s : Span}
    → SpanSoFar text key all rest s → rest ≡ []
    → IsSpanOf text s (value_in (map attribute_of all) key)
span_all {text} {key} {all} {rest} {s} so_far none =
    subst (IsSpanOf text s) (first_all so_far.first none) so_far.span
