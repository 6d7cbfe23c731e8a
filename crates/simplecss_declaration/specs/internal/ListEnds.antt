-- Where a list of declarations ends.
use Rattle.std.specs.Prelude.{◌≡◌, ℕ, true, false, List, Option, Some, None}
use Rattle.css_text.specs.Characters.{Edition}
use Rattle.simplecss_grammar.specs.Declarations.{declaration}
use Rattle.simplecss_grammar.specs.Blocks.{ends_list}
use Rattle.simplecss_declaration.specs.internal.UnreportedFaults.{FailsAt}

-- A list of declarations was read up to `here`. It ends there, at a brace or with the text, and
-- reading stopped there; or it ends at the broken declaration that begins there, of which this is
-- left to read.
abbrev pub EndsAt : Edition → (here : List ℕ) → (broken : Option (List ℕ)) → (left : List ℕ)
    → Type 0
EndsAt edition here None left = (ends_list here ≡ true) × (left ≡ here)
EndsAt edition here (Some text) left =
    (ends_list here ≡ false) × (text ≡ here) × FailsAt (declaration edition here) left
