-- Lists of selectors, cut at their commas.
use Rattle.std.specs.Prelude.{◌≡◌, ℕ, List, [], ◌∷◌}
use Rattle.css_text.specs.AsciiBytes.{comma}
use Rattle.css_selector_text.specs.declared.reading.Start.{Start}
use Rattle.css_selector_text.specs.Components.{Placed}
use Rattle.css_selector_text.specs.reading.Grammar.{placed_by}
use Rattle.css_selector_text.specs.reading.Readings.{got}
use Rattle.css_selector_text.specs.Names.{Names}

-- The text is these selectors with commas between them: the first reads from its start up to a
-- comma, and what follows the comma is the others. The last one reads to the end of the text.
abbrev pub AreCut : Names → Start → List ℕ → List Placed → Type 0
AreCut names start text [] = ⊥
AreCut names start text (p ∷ []) = placed_by names start text ≡ got p []
AreCut names start text (p ∷ q ∷ others) =
    (rest : List ℕ) × (placed_by names start text ≡ got p (comma ∷ rest))
    × AreCut names start rest (q ∷ others)
