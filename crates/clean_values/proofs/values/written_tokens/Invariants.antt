use Rattle.std.proofs.Common.{◌≡◌, ◌++◌, length, string_bytes}
use Rattle.std.specs.Option.{option_map}
use Rattle.css_syntax.specs.TokenLists.{tokens}
use Rattle.clean_values.specs.Values.{written_tokens}
use Rattle.clean_values.specs.Views.{changes_of}
use Rattle.clean_values.proofs.values.written_tokens.Given as goal

-- What is written, and what is left.
abbrev pub invariant-tokens : goal.invariant-tokens
invariant-tokens l =
    let write = written_tokens (changes_of l.changes) l.uses.sources l.uses.named in
    write (tokens l.text) ≡ option_map (λ more. string_bytes l.out ++ more) (write (tokens l.rest))

abbrev pub decreases-tokens : goal.decreases-tokens
decreases-tokens l = length l.rest
