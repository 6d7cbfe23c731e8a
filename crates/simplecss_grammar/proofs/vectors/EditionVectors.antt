-- Worked texts that the two editions read apart, computed: a slash, and a character past ASCII.
-- Computes `kept` of `specs/Statements`, in each edition.
use Rattle.std.specs.Prelude.{◌≡◌, refl, [], ◌∷◌, codes}
use Rattle.css_text.specs.Characters.{first_edition, second_edition}
use Rattle.simplecss_grammar.specs.Statements.{kept}
use Rattle.simplecss_grammar.specs.Printing.{sheet_text}
use Rattle.simplecss_grammar.proofs.vectors.OnLiterals.{simplecss_on_literals}

-- in the second edition a slash is a term of a value
pub slashes :
    (sheet_text (kept first_edition (codes "a{b:c/d}")) ≡ codes "a { b:c; }")
    × (sheet_text (kept second_edition (codes "a{b:c/d}")) ≡ codes "a { b:c/d; }")
unfolding simplecss_on_literals
slashes = (refl, refl)

-- and U+00E9 is a name
pub names_past_ascii :
    (kept first_edition (195 ∷ 169 ∷ codes "{b:c}") ≡ [])
    × (sheet_text (kept second_edition (195 ∷ 169 ∷ codes "{b:c}")) ≡ 195 ∷ 169 ∷ codes " { b:c; }")
unfolding simplecss_on_literals
names_past_ascii = (refl, refl)
