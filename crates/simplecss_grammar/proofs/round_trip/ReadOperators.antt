-- What is required of an attribute, where it was read.
-- Serves `Selector::{parse, parse_front}` and `StyleSheet::parse` (a selector printed and read
-- again).
use Rattle.std.proofs.Common.{◌≡◌, ℕ, List, [], ◌∷◌, ◌==◌, arith, subst, IsUtf8}
use Rattle.css_text.specs.AsciiBytes.{close_bracket, equals_sign, tilde, vertical_bar}
use Rattle.css_text.specs.Characters.{Edition}
use Rattle.simplecss_grammar.specs.Components.{Operator}
use Rattle.simplecss_grammar.specs.Components.Operator.{equals, has_word, begins_with}
use Rattle.simplecss_grammar.specs.Pieces.{attribute_operator, equated}
use Rattle.css_text.proofs.bytes.Utf8Lemmas.{utf8-past_byte}
use Rattle.simplecss_grammar.proofs.reading.PrintedPieces.{IsValue, IsOperator}
use Rattle.css_text.proofs.reading.GotLemmas.{IfGot, if_got-follow, if_got-if, byte-is, same_begins}
use Rattle.simplecss_grammar.proofs.reading.ReadValues.{string_or_name-gives}

-- its value ends with no backslash
abbrev pub GoodOperator : Operator → List ℕ → Type 0
GoodOperator operator rest = IsOperator operator

equated-gives : (edition : Edition) (operator : List ℕ → Operator) (text : List ℕ)
    → ((v : List ℕ) → IsValue v → IsOperator (operator v)) → IsUtf8 text
    → IfGot GoodOperator (equated edition operator text)
equated-gives edition operator text each u =
    if_got-follow (λ x rest. text ≡ equals_sign ∷ rest) GoodOperator _ _ (byte-is equals_sign text)
    (λ x rest e.
    if_got-follow (λ v last. IsValue v) GoodOperator _ _
    (string_or_name-gives edition rest
    (utf8-past_byte equals_sign rest (omega arith) (subst IsUtf8 e u)))
    (λ v last w. each v w))

-- what is required of an attribute that was read from a text
pub attribute_operator-gives : (edition : Edition) (text : List ℕ) → IsUtf8 text
    → IfGot GoodOperator (attribute_operator edition text)
unfolding attribute_operator
attribute_operator-gives edition [] u = tt
attribute_operator-gives edition (b ∷ text) u =
    if_got-if GoodOperator (b == close_bracket) _ _ (λ e. tt) (λ e.
    if_got-if GoodOperator (b == equals_sign) _ _
    (λ f. equated-gives edition equals (b ∷ text) (λ v w. w) u) (λ f.
    if_got-if GoodOperator (b == tilde) _ _
    (λ g. equated-gives edition has_word text (λ v w. w)
    (utf8-past_byte tilde text (omega arith) (same_begins b tilde text g u))) (λ g.
    if_got-if GoodOperator (b == vertical_bar) _ _
    (λ h. equated-gives edition begins_with text (λ v w. w)
    (utf8-past_byte vertical_bar text (omega arith) (same_begins b vertical_bar text h u)))
    (λ h. tt))))
