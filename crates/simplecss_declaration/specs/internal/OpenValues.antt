-- What is skipped of a value, by where it begins.
use Rattle.std.specs.Prelude.{ℕ, List, [], ◌∷◌, Option, Some, None}
use Rattle.simplecss_grammar.specs.Skipped.{Skip, open_value}

-- a string or a function that is not closed, with all that follows it, if one begins at this rest
abbrev pub open_from : Option (List ℕ) → List Skip
open_from None = []
open_from (Some from) = record { from = from; after = []; why = open_value } ∷ []
