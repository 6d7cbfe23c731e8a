use Rattle.std.proofs.Common.{◌≡◌, ◌++◌, false, length, string_bytes}
use Rattle.std.specs.Option.{option_map}
use Rattle.css_syntax.specs.TokenLists.{tokens}
use Rattle.clean_values.specs.Selectors.{named_tokens}
use Rattle.clean_values.proofs.selectors.named_tokens.Given as goal

-- What is written, and what is left, after a full stop or not.
abbrev pub invariant-tokens : goal.invariant-tokens
invariant-tokens l =
    named_tokens l.prefix false (tokens l.text)
    ≡ option_map (λ more. string_bytes l.out ++ more) (named_tokens l.prefix l.stop (tokens l.rest))

abbrev pub decreases-tokens : goal.decreases-tokens
decreases-tokens l = length l.rest
