-- A lone hyphen is a type only where it ends the text, so its printed text reads back only by
-- itself, and not before a brace. Computes `reads` of `specs/Selectors` with `selector_text` of
-- `specs/Printing`.
use Rattle.std.specs.Prelude.{◌≡◌, refl, [], ◌∷◌, codes, Some, None, true}
use Rattle.css_text.specs.Characters.{Edition, first_edition, second_edition}
use Rattle.simplecss_grammar.specs.Components.Combinator.{none}
use Rattle.simplecss_grammar.specs.Selectors.{reads}
use Rattle.simplecss_grammar.specs.Printing.{selector_text, is_clean}
use Rattle.simplecss_grammar.proofs.vectors.OnLiterals.{simplecss_on_literals}

pub lone_hyphen : (edition : Edition) →
    (reads edition (codes "-") ≡ (
      Some (record {
        combinator = none;
        compound = record { name = Some (codes "-"); subselectors = [] };
      } ∷ []),
      [],
    ))
    × (selector_text (record {
      combinator = none;
      compound = record { name = Some (codes "-"); subselectors = [] };
    } ∷ []) ≡ codes "-")
    × (is_clean (record {
      combinator = none;
      compound = record { name = Some (codes "-"); subselectors = [] };
    } ∷ []) ≡ true)
    × ((reads edition (codes "- {")).0 ≡ None)
    × ((reads edition (codes "-,")).0 ≡ None)
    × ((reads edition (codes "-{")).0 ≡ None)
unfolding simplecss_on_literals
lone_hyphen first_edition = (refl, refl, refl, refl, refl, refl)
lone_hyphen second_edition = (refl, refl, refl, refl, refl, refl)
