-- Printed sheets read again, computed: why the laws have their premises.
-- Computes `sheet` of `specs/Sheets` with `sheet_text` of `specs/Printing`, and `has_wide_space` of
-- `specs/PrintingLaws`.
use Rattle.std.specs.Prelude.{◌≡◌, refl, [], ◌∷◌, ◌++◌, codes, true, false}
use Rattle.css_text.specs.Characters.{Edition, first_edition, second_edition}
use Rattle.simplecss_grammar.specs.Sheets.{sheet}
use Rattle.simplecss_grammar.specs.Printing.{sheet_text}
use Rattle.simplecss_grammar.specs.PrintingLaws.{has_wide_space, are_clean}
use Rattle.simplecss_grammar.proofs.vectors.OnLiterals.{simplecss_on_literals}

-- an apostrophe without a backslash before it ends the printed value
pub bare_apostrophe : (edition : Edition) →
    (are_clean (sheet edition (codes "[a=\"it's\"] { b:c }" ∷ [])) ≡ false)
    × (sheet_text (sheet edition (codes "[a=\"it's\"] { b:c }" ∷ []))
    ≡ codes "*[a='it's'] { b:c; }")
    × (sheet edition (codes "*[a='it's'] { b:c; }" ∷ []) ≡ [])
unfolding simplecss_on_literals
bare_apostrophe first_edition = (refl, refl, refl)
bare_apostrophe second_edition = (refl, refl, refl)

-- after a backslash it stays
pub escaped_apostrophe : (edition : Edition) →
    (are_clean (sheet edition (codes "[a=\"it\\'s\"] { b:c }" ∷ [])) ≡ true)
    × (sheet_text (sheet edition (codes "[a=\"it\\'s\"] { b:c }" ∷ []))
    ≡ codes "*[a='it\\'s'] { b:c; }")
    × (sheet edition (codes "*[a='it\\'s'] { b:c; }" ∷ [])
    ≡ sheet edition (codes "[a=\"it\\'s\"] { b:c }" ∷ []))
unfolding simplecss_on_literals
escaped_apostrophe first_edition = (refl, refl, refl)
escaped_apostrophe second_edition = (refl, refl, refl)

-- an ideographic space is a name before a parenthesis, and is trimmed off the value
pub ideographic_space : (edition : Edition) →
    (has_wide_space (codes "a { b:" ++ (227 ∷ 128 ∷ 128 ∷ codes "(c) }")) ≡ true)
    × (sheet_text (sheet edition ((codes "a { b:" ++ (227 ∷ 128 ∷ 128 ∷ codes "(c) }")) ∷ []))
    ≡ codes "a { b:(c); }")
    × (sheet edition (codes "a { b:(c); }" ∷ []) ≡ [])
unfolding simplecss_on_literals
ideographic_space first_edition = (refl, refl, refl)
ideographic_space second_edition = (refl, refl, refl)
