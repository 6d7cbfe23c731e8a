use Rattle.std.proofs.Common.{◌≡◌, ◌++◌, length}
use Rattle.std.specs.List.{flat_map}
use Rattle.css_syntax.specs.TokenLists.{tokens}
use Rattle.css_syntax.specs.TokenViews.{tokens_to_come}
use Rattle.sheet_calls.specs.NumberLines.{token_numbers}
use Rattle.sheet_calls.proofs.tokens.token_numbers.Given as goal

-- the numbers of the tokens so far, and of those to come
abbrev pub invariant-tokens : goal.invariant-tokens
invariant-tokens l =
    l.out.items ++ flat_map (token_numbers (length l.text)) (tokens_to_come l.tokens)
    ≡ flat_map (token_numbers (length l.text)) (tokens l.text)

abbrev pub decreases-tokens : goal.decreases-tokens
decreases-tokens l = length (tokens_to_come l.tokens)
