-- Where the words of a value begin.
use Rattle.std.specs.Prelude.{ℕ, List, [], ◌∷◌, if◌then◌else◌}
use Rattle.css_text.specs.Characters.{is_space}

-- what is after the first white space of a value: nothing if there is none
abbrev pub after_space : List ℕ → List ℕ
after_space [] = []
after_space (b ∷ value) = if is_space b then value else after_space value
