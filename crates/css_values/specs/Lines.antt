-- Properties and values as texts, in which a program hands them over.
use Rattle.std.specs.Prelude.{ℕ, List, [], ◌∷◌, ◌++◌, length, codes, Option, Some, None}
use Rattle.std.specs.Option.{option_map}
use Rattle.std.specs.Fmt.{decimal}
use Rattle.css_values.specs.Registrations.{Stated}
use Rattle.css_values.specs.Substitution.{Value}

-- the properties of texts, which are the name and the value of each
abbrev pub properties_in : List (List ℕ) → Option (List Stated)
properties_in [] = Some []
properties_in (name ∷ []) = None
properties_in (name ∷ (text ∷ more)) =
    option_map (λ others. record { name = name; text = text } ∷ others) (properties_in more)

-- the length of the value, a newline and the value, or only a newline where there is none
abbrev pub value_line : Option Value → List ℕ
value_line None = codes "\n"
value_line (Some value) = decimal (length value.text) ++ codes "\n" ++ value.text

-- the same of several
abbrev pub value_lines : List (Option Value) → List ℕ
value_lines [] = []
value_lines (value ∷ more) = value_line value ++ value_lines more

-- names, each with a newline after it
abbrev pub name_lines : List (List ℕ) → List ℕ
name_lines [] = []
name_lines (name ∷ more) = name ++ codes "\n" ++ name_lines more
