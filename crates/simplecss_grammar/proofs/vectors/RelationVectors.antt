-- Worked slices and blanks.
-- Computes `OccurBetween` of `specs/Slices` and `IsBlank` of `specs/Blanks`.
use Rattle.std.proofs.Common.{◌≡◌, refl, ap, [], ◌∷◌, codes, length, arith, length-append}
use Rattle.css_text.specs.AsciiBytes.{space}
use Rattle.css_text.specs.Slices.{OccurBetween}
use Rattle.simplecss_grammar.specs.Blanks.{IsComment, IsBlank, IsComments}
use Rattle.simplecss_grammar.specs.Blanks.IsBlank.{empty, space_then, comment_then}
use Rattle.simplecss_grammar.specs.Blanks.IsComments.{none, comment_before}
use Rattle.simplecss_grammar.specs.Components.Operator.{equals}
use Rattle.simplecss_grammar.specs.Tokens.{token_texts}
use Rattle.simplecss_grammar.specs.Tokens.Token.{attribute_selector, child_combinator, type_selector}

-- no text is between a rest and a later one
pub none_between : OccurBetween (codes "ab") (codes "b") []
none_between = refl

-- one text is there, and it may be empty
pub one_between : OccurBetween (codes "abc") [] (codes "b" ∷ [])
one_between = (codes "bc", codes "c", refl, refl, refl, refl)

-- the name and the value of an attribute
pub two_between : OccurBetween (codes "[a=b]") []
    (token_texts (attribute_selector (codes "a") (equals (codes "b"))))
two_between =
    (codes "a=b]", codes "=b]", refl, refl, refl, (codes "b]", codes "]", refl, refl, refl, refl))

pub texts_of_tokens : (token_texts child_combinator ≡ [])
    × (token_texts (type_selector (codes "a")) ≡ codes "a" ∷ [])
texts_of_tokens = (refl, refl)

-- the shortest comment
pub shortest_comment : IsComment (codes "/**/")
shortest_comment = record { inside = []; is = refl; first = λ k less. absurd (omega (arith, less)) }

pub empty_blank : IsBlank []
empty_blank = empty

pub space_and_comment : IsBlank (codes " /**/")
space_and_comment =
    space_then space (codes "/**/") refl (comment_then (codes "/**/") [] shortest_comment empty)

-- the marks of a comment have no byte in common
marks_apart : ¬ IsComment (codes "/*/")
marks_apart c = absurd (omega (arith, ap length c.is, length-append c.inside (codes "*/")))

comment_alone : IsComments (codes "/**/")
comment_alone = comment_before (codes "/**/") [] shortest_comment none
