use Rattle.std.proofs.Common.{◌≡◌, ◌++◌, length, string_bytes}
use Rattle.std.specs.List.{flat_map}
use Rattle.css_syntax.specs.TokenLists.{tokens}
use Rattle.clean_values.specs.Plain.{plain_token, plain_value}
use Rattle.clean_values.proofs.plain.plain_value.Given as goal

-- What is written, and what is left.
abbrev pub invariant-tokens : goal.invariant-tokens
invariant-tokens l =
    plain_value l.value ≡ string_bytes l.out ++ flat_map plain_token (tokens l.rest)

abbrev pub decreases-tokens : goal.decreases-tokens
decreases-tokens l = length l.rest
