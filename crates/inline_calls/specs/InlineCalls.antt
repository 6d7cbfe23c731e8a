-- What the call answers that writes sheets into the attributes of a page.
use Rattle.std.specs.Prelude.{◌≡◌, ℕ, List, ◌++◌, ◌⊎◌}
use Rattle.css_inline.specs.Inlining.{IsStyled}
use Rattle.edit_calls.specs.EditCalls.{mark}

-- A page with its sheets in its attributes, after a mark of the order of bytes if it has one, or all of it.
abbrev pub IsInlined : (page text : List ℕ) → Type 0
IsInlined page text =
    IsStyled page text
    ⊎ ((inner : List ℕ) × (rest : List ℕ) × (page ≡ mark ++ rest) × (text ≡ mark ++ inner)
    × IsStyled rest inner)
