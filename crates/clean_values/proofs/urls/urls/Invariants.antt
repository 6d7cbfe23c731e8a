use Rattle.std.proofs.Common.{◌≡◌, ◌++◌, length, string_bytes}
use Rattle.css_syntax.specs.TokenLists.{tokens}
use Rattle.clean_values.specs.Urls.{urls_of, token_urls, urls_text}
use Rattle.clean_values.proofs.urls.urls.Given as goal

-- What is written, and what is left.
abbrev pub invariant-tokens : goal.invariant-tokens
invariant-tokens l =
    urls_text (urls_of l.text) ≡ string_bytes l.out ++ urls_text (token_urls l.strings (tokens l.rest))

abbrev pub decreases-tokens : goal.decreases-tokens
decreases-tokens l = length l.rest
