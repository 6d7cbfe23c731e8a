-- Worked texts that are cut where a statement ends, and what is skipped of them, computed.
-- Computes `skip_before` and `skipped`, which `SkipsAcross` of `specs/SkippedLaws` compares.
use Rattle.std.specs.Prelude.{◌≡◌, refl, [], ◌∷◌, codes, false, map, Some, None}
use Rattle.css_text.specs.Reading.{got}
use Rattle.css_text.specs.Characters.{Edition, first_edition, second_edition}
use Rattle.simplecss_grammar.specs.Declarations.{declaration}
use Rattle.simplecss_grammar.specs.Cutting.{statement_ends}
use Rattle.simplecss_grammar.specs.Skipped.{broken_declaration, open_value, at_rule, skipped}
use Rattle.simplecss_grammar.specs.SkippedLaws.{skip_before}
use Rattle.simplecss_grammar.proofs.vectors.OnLiterals.{simplecss_on_literals}

-- a declaration that is skipped in the first piece, and nothing in the second
pub skipped_in_front : (edition : Edition) →
    (statement_ends edition (codes "a{b:c;d}e{f:g}") ≡ 8 ∷ 14 ∷ [])
    × (skipped edition (codes "a{b:c;d}e{f:g}") ≡ record
    { from = codes "d}e{f:g}"; after = codes "}e{f:g}"; why = broken_declaration } ∷ [])
    × (map (skip_before (codes "e{f:g}")) (skipped edition (codes "a{b:c;d}")) ≡ record
    { from = codes "d}e{f:g}"; after = codes "}e{f:g}"; why = broken_declaration } ∷ [])
    × (skipped edition (codes "e{f:g}") ≡ [])
unfolding simplecss_on_literals
skipped_in_front first_edition = (refl, refl, refl, refl)
skipped_in_front second_edition = (refl, refl, refl, refl)

-- an at-rule whose name is missing, and which has one where the text is cut
pub hyphen_is_cut : (edition : Edition) →
    (statement_ends edition (codes "@-1{}") ≡ 2 ∷ 5 ∷ [])
    × (skipped edition (codes "@-") ≡ record
    { from = codes "@-"; after = []; why = at_rule (Some (codes "-")) } ∷ [])
    × (map (skip_before (codes "1{}")) (skipped edition (codes "@-")) ≡ record
    { from = codes "@-1{}"; after = codes "1{}"; why = at_rule None } ∷ [])
    × (map (λ s. s.why) (skipped edition (codes "@-/**/")) ≡ at_rule None ∷ [])
unfolding simplecss_on_literals
hyphen_is_cut first_edition = (refl, refl, refl, refl)
hyphen_is_cut second_edition = (refl, refl, refl, refl)

-- a string in a value that is not closed, and with it the rest of the text, is skipped, and the one
-- rule has the declaration `b:c`
pub open_string_is_skipped : (edition : Edition) →
    (skipped edition (codes "a{b:c 'x}d{e:f}") ≡ record
    { from = codes "'x}d{e:f}"; after = []; why = open_value } ∷ [])
    × (declaration edition (codes "b:c 'x}d{e:f}") ≡ got (record
    { name = codes "b"; value = codes "c"; important = false }) [])
unfolding simplecss_on_literals
open_string_is_skipped first_edition = (refl, refl)
open_string_is_skipped second_edition = (refl, refl)
