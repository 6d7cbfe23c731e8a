-- A worked text that is cut, computed.
-- Computes `statement_ends` and `KeepsAcross` of `specs/Cutting`.
use Rattle.std.proofs.Common.{ap, drop, sym, take, ◌++◌, ◌∙◌, Some, false, arith, suc, zero}
use Rattle.std.specs.List.{Contains}
use Rattle.std.specs.Prelude.{◌≡◌, refl, ℕ, List, [], ◌∷◌, codes}
use Rattle.css_text.specs.Characters.{Edition, first_edition, second_edition}
use Rattle.simplecss_grammar.specs.Components.Combinator.{none}
use Rattle.simplecss_grammar.specs.Statements.{StyleRule, kept}
use Rattle.simplecss_grammar.specs.Sheets.{sheet}
use Rattle.simplecss_grammar.specs.Cutting.{statement_ends, KeepsAcross, StatementEndsAt}
use Rattle.simplecss_grammar.specs.Printing.{sheet_text}
use Rattle.simplecss_grammar.proofs.vectors.OnLiterals.{simplecss_on_literals}

-- a block of only a blank consumes a further brace, so its statement ends after the second one
abbrev pub further_brace : List ℕ
further_brace = codes "a { }} b { c:d }"

-- the offsets at which statements end
pub ends_of_statements : (edition : Edition) →
    (statement_ends edition further_brace ≡ 6 ∷ 16 ∷ [])
    × (statement_ends edition (codes "@m x; a{b:c} /**/ @--x{y:z} /* w") ≡ 5 ∷ 12 ∷ 20 ∷ 27 ∷ [])
    × (statement_ends edition (codes " /**/ ") ≡ [])
unfolding simplecss_on_literals
ends_of_statements first_edition = (refl, refl, refl)
ends_of_statements second_edition = (refl, refl, refl)

-- the rule `b { c:d; }`
abbrev rule_b : StyleRule
rule_b = record {
  components =
      record { combinator = none; compound = record { name = Some (codes "b"); subselectors = [] } }
      ∷ [];
  declarations = record { name = codes "c"; value = codes "d"; important = false } ∷ [];
}

-- cut where its first statement ends, the two pieces yield the rule that the whole yields
pub cut_at_statement : (edition : Edition) →
    (kept edition further_brace ≡ rule_b ∷ [])
    × (take 6 further_brace ≡ codes "a { }}")
    × (kept edition (take 6 further_brace) ≡ [])
    × (kept edition (drop 6 further_brace) ≡ rule_b ∷ [])
unfolding simplecss_on_literals
cut_at_statement first_edition = (refl, refl, refl, refl)
cut_at_statement second_edition = (refl, refl, refl, refl)

-- (the first end of a statement in it)
pub ends_at_six : (edition : Edition) → StatementEndsAt edition further_brace 6
ends_at_six edition = rw (ends_of_statements edition).0 (0, omega arith, refl)

pub across_statement : (edition : Edition) → KeepsAcross edition further_brace 6
across_statement edition = (cut_at_statement edition).0
    ∙ sym (ap (λ (rules : List StyleRule). rules ++ kept edition (drop 6 further_brace))
    (cut_at_statement edition).2 ∙ (cut_at_statement edition).3)

-- cut a byte before, they yield none, since the second piece begins with the further brace
pub cut_elsewhere : (edition : Edition) →
    (take 5 further_brace ≡ codes "a { }")
    × (kept edition (take 5 further_brace) ≡ [])
    × (kept edition (drop 5 further_brace) ≡ [])
    × (sheet edition (take 5 further_brace ∷ drop 5 further_brace ∷ []) ≡ [])
    × (sheet_text (sheet edition (further_brace ∷ [])) ≡ codes "b { c:d; }")
unfolding simplecss_on_literals
cut_elsewhere first_edition = (refl, refl, refl, refl, refl)
cut_elsewhere second_edition = (refl, refl, refl, refl, refl)

-- so there the rules of the whole are not those of the two pieces
pub not_elsewhere : (edition : Edition) → KeepsAcross edition further_brace 5 → ⊥
not_elsewhere edition e =
    let none : kept edition further_brace ≡ [] = e
    ∙ ap (λ (rules : List StyleRule). rules ++ kept edition (drop 5 further_brace))
    (cut_elsewhere edition).1 ∙ (cut_elsewhere edition).2 in
    let some : kept edition further_brace ≡ rule_b ∷ [] = (cut_at_statement edition).0 in
    absurd (cc)

-- (no end of a statement in it)
pub no_end_at_five : (edition : Edition) → StatementEndsAt edition further_brace 5 → ⊥
no_end_at_five edition h = by (rw (ends_of_statements edition).0 at h)
  where
    by : Contains {X = ℕ} (6 ∷ 16 ∷ []) 5 → ⊥
    by (zero, l, e) = absurd (omega (arith, e))
    by (suc zero, l, e) = absurd (omega (arith, e))
    by (suc (suc k), l, e) = absurd (omega (arith, l))
