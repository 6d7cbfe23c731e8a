-- Whether a value satisfies an operator, as both kinds of selectors say it.
-- Serves `converted_law`.
use Rattle.std.proofs.Common.{◌≡◌, ℕ, suc, ◌==◌, Bool, true, false, ◌&&◌, List, [], ◌∷◌, ◌++◌, length, Option, None, Some, refl, sym, ap, ◌∙◌, arith}
use Rattle.std.specs.Prelude.{bytes_eq, nat_eq, ◌||◌, not, is_none}
use Rattle.std.specs.List.{starts_with}
use Rattle.std.specs.Option.{option_map_or}
use Rattle.std.proofs.Math.Bool.{and_assoc}
use Rattle.std.proofs.lemmas.Bool.Decides.{nat_tests}
use Rattle.css_text.specs.AsciiBytes.{hyphen}
use Rattle.simplecss_grammar.specs.Components.{Operator}
use Rattle.simplecss_grammar.specs.Components.Operator.{exists, equals, has_word, begins_with}
use Rattle.simplecss_selector.specs.Operators.{is_satisfied as port_is_satisfied}
use Rattle.css_selector_text.specs.AttributeTests.{begins, begins_up_to, is_hyphen}
use Rattle.css_selectors.specs.Documents.{Document}
use Rattle.css_selector_text.specs.Components.Comparison.{equals as is_text, has_word as has_this_word, has_subtag}
use Rattle.css_selectors.specs.Meanings.{holds, satisfies}
use Rattle.css_laws.specs.Converted.{attribute_of}
use Rattle.css_laws.specs.OneTree.{SuitsOperator}
use Rattle.css_laws.proofs.WordLemmas.{turned, same_word}

and_swap : (a b c : Bool) → (a && (b && c)) ≡ (b && (a && c))
and_swap true b c = refl
and_swap false true c = refl
and_swap false false c = refl

and_or : (a b c : Bool) → ((a && b) || (a && c)) ≡ (a && (b || c))
and_or true b c = refl
and_or false b c = refl

same_suc : (m n : ℕ) → (suc m == suc n) ≡ (m == n)
same_suc m n = grind (arith, nat_tests)

zero_suc : (n : ℕ) → (0 == suc n) ≡ false
zero_suc n = grind (arith, nat_tests)

-- the same text
same_text : (text value : List ℕ)
    → bytes_eq value text ≡ (length text == length value && begins false text value)
same_text [] [] = refl
same_text [] (b ∷ value) = rw (zero_suc (length value)) refl
same_text (x ∷ text) [] = rw (turned (suc (length text)) 0, zero_suc (length text)) refl
same_text (x ∷ text) (b ∷ value) =
    ap (λ p. p && bytes_eq value text) (turned b x)
    ∙ ap (λ p. (x == b) && p) (same_text text value)
    ∙ and_swap (x == b) (length text == length value) (begins false text value)
    ∙ ap (λ p. p && ((x == b) && begins false text value)) (sym (same_suc (length text) (length value)))

-- the same start
same_start : (start value : List ℕ)
    → (bytes_eq value start || starts_with nat_eq value (start ++ hyphen ∷ []))
    ≡ begins_up_to is_hyphen false start value
same_start [] [] = refl
same_start [] (b ∷ value) = rw (turned hyphen b) (and-true (b == hyphen))
  where
    and-true : (a : Bool) → (a && true) ≡ a
    and-true true = refl
    and-true false = refl
same_start (x ∷ start) [] = refl
same_start (x ∷ start) (b ∷ value) =
    ap (λ p. (p && bytes_eq value start) || ((x == b) && starts_with nat_eq value (start ++ hyphen ∷ [])))
    (turned b x)
    ∙ and_or (x == b) (bytes_eq value start) (starts_with nat_eq value (start ++ hyphen ∷ []))
    ∙ ap (λ p. (x == b) && p) (same_start start value)
    ∙ sym (and_assoc (x == b) (begins false start value) _)

-- The tests of an attribute are the same where the value suits the operator.
pub same_attribute : {Node : Type 0} (document : Document Node) (n : Node) (name : List ℕ)
    (operator : Operator) → SuitsOperator (document.attribute n name) operator
    → option_map_or (port_is_satisfied operator) (document.attribute n name) false
    ≡ holds document n (attribute_of name operator)
same_attribute document n name exists suits =
    elim (document.attribute n name) as (λ v. option_map_or (port_is_satisfied exists) v false
    ≡ not (is_none v)) [ None ↦ refl | Some v ↦ refl ]
same_attribute document n name (equals text) suits =
    elim (document.attribute n name) as (λ v. option_map_or (port_is_satisfied (equals text)) v false
    ≡ satisfies is_text false text v) [ None ↦ refl | Some v ↦ same_text text v ]
same_attribute document n name (has_word word) suits = go (document.attribute n name) suits
  where
    go : (v : Option (List ℕ)) → SuitsOperator v (has_word word)
        → option_map_or (port_is_satisfied (has_word word)) v false
        ≡ satisfies has_this_word false word v
    go None s = refl
    go (Some v) s = same_word word v s.0 s.1
same_attribute document n name (begins_with start) suits =
    elim (document.attribute n name) as (λ v. option_map_or (port_is_satisfied (begins_with start)) v false
    ≡ satisfies has_subtag false start v) [ None ↦ refl | Some v ↦ same_start start v ]
