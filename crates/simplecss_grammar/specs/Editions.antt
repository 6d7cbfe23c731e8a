-- Texts that both editions of the rules read in the same way.
use Rattle.std.specs.Prelude.{◌≡◌, ℕ, ◌<◌, false, ◌==◌, List}
use Rattle.std.specs.List.{All}
use Rattle.css_text.specs.AsciiBytes.{slash}
use Rattle.css_text.specs.Characters.{first_edition, second_edition}
use Rattle.simplecss_grammar.specs.Statements.{kept}

-- ASCII bytes without a slash
abbrev pub IsCommon : List ℕ → Type 0
IsCommon text = All (λ b. (b < 128) × ((b == slash) ≡ false)) text

-- both editions read the same rules
abbrev pub KeepsInBoth : List ℕ → Type 0
KeepsInBoth text = kept first_edition text ≡ kept second_edition text
