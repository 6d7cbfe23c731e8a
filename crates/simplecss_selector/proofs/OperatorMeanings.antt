-- The meaning of an operator's test.
-- Serves `AttributeOperator::matches` (what each operator means).
use Rattle.std.proofs.Common.{◌≡◌, ℕ, ◌↔◌, Bool, true, false, IsTrue, List, [], ◌∷◌, ◌++◌, inl, inr, length, take, drop, refl, sym, ap, ◌∙◌, append_assoc, append-nil, take-append-drop}
use Rattle.std.specs.Prelude.{bytes_eq, nat_eq}
use Rattle.std.specs.List.{starts_with}
use Rattle.std.proofs.lemmas.Slice.Eq.{bytes_eq-Decides}
use Rattle.css_text.specs.AsciiBytes.{hyphen}
use Rattle.simplecss_grammar.specs.Components.{Operator}
use Rattle.simplecss_grammar.specs.Components.Operator.{exists, equals, has_word, begins_with}
use Rattle.simplecss_selector.specs.Operators.{is_satisfied, IsSatisfied}
use Rattle.simplecss_selector.proofs.WordLemmas.{or-true, is_word_of-OccursIn}

front : (start rest : List ℕ)
    → start ++ hyphen ∷ [] ≡ take (length (start ++ hyphen ∷ [])) (start ++ hyphen ∷ rest)
front [] rest = refl
front (b ∷ start) rest = ap (λ t. b ∷ t) (front start rest)

begins : (start value : List ℕ)
    → (starts_with nat_eq value (start ++ hyphen ∷ []) ≡ true)
    ↔ ((rest : List ℕ) × (value ≡ start ++ hyphen ∷ rest))
begins start value =
    let n = length (start ++ hyphen ∷ []) in
    let same = bytes_eq-Decides (start ++ hyphen ∷ []) (take n value) in (
      λ e. (
        drop n value,
        sym (take-append-drop n value) ∙ ap (λ t. t ++ drop n value) (sym (same.0 e))
            ∙ append_assoc start (hyphen ∷ []) _,
      ),
      λ h. same.1 (front start h.0 ∙ ap (take n) (sym h.1)),
    )

-- the test is true exactly if the value satisfies the operator
pub is_satisfied-IsSatisfied : (o : Operator) (value : List ℕ)
    → (is_satisfied o value ≡ true) ↔ IsSatisfied o value
is_satisfied-IsSatisfied exists value = (λ e. tt, λ h. refl)
is_satisfied-IsSatisfied (equals text) value = bytes_eq-Decides value text
is_satisfied-IsSatisfied (has_word word) value = is_word_of-OccursIn word value
is_satisfied-IsSatisfied (begins_with start) value =
    let same = bytes_eq-Decides value start in
    let continues = begins start value in
    let either =
    or-true (bytes_eq value start) (starts_with nat_eq value (start ++ hyphen ∷ [])) in (
      λ e. elim (either.0 e) [ inl t ↦ inl (same.0 t) | inr f ↦ inr (continues.0 f) ],
      λ h. either.1 (elim h [ inl t ↦ inl (same.1 t) | inr f ↦ inr (continues.1 f) ]),
    )

same_test : (a b : Bool) → (a ≡ true → b ≡ true) → (b ≡ true → a ≡ true) → a ≡ b
same_test true b f g = sym (f refl)
same_test false true f g = g refl
same_test false false f g = refl

-- an answer that is true exactly if the value satisfies the operator is the test's
pub required_by : (o : Operator) (value : List ℕ) (answer : Bool)
    → IsTrue answer ↔ IsSatisfied o value → answer ≡ is_satisfied o value
required_by o value answer reports =
    let test = is_satisfied-IsSatisfied o value in
    same_test answer (is_satisfied o value) (λ e. test.1 (reports.0 e)) (λ e. reports.1 (test.0 e))

-- a value that does not go on from the start
pub starts_not : (o : Operator) (s v : List ℕ) → o ≡ begins_with s
    → ((rest : List ℕ) → v ≡ s ++ rest → ⊥) → IsSatisfied o v → ⊥
starts_not o s v e none h = go (rw e at h)
  where
    go : IsSatisfied (begins_with s) v → ⊥
    go (inl a) = none [] (a ∙ sym (append-nil s))
    go (inr b) = none (hyphen ∷ b.0) b.1
