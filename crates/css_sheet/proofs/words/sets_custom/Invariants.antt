use Rattle.std.proofs.Common.{◌≡◌, false, length}
use Rattle.css_syntax.specs.TokenLists.{tokens}
use Rattle.css_syntax.specs.TokenViews.{tokens_to_come}
use Rattle.css_sheet.specs.Words.{sets_custom}
use Rattle.css_sheet.proofs.words.sets_custom.Given as goal

-- the tokens that are to come decide
abbrev pub invariant-tokens : goal.invariant-tokens
invariant-tokens l =
    sets_custom l.custom (tokens_to_come l.tokens) ≡ sets_custom false (tokens l.text)

abbrev pub decreases-tokens : goal.decreases-tokens
decreases-tokens l = length (tokens_to_come l.tokens)
