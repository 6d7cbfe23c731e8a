-- What contracts see of references.
use Rattle.std.specs.Prelude.{ℕ, List, encode_utf8}
use Rattle.css_html.specs.declared.references.Row.{Row}
use Rattle.css_html.specs.declared.references.Characters.{Characters}
use Rattle.css_html.specs.declared.references.Characters.TheVariants.{One, Written}
use Rattle.css_html.specs.declared.references.Found.{Found}
use Rattle.css_html.specs.References.{NamedRow, spelled}

-- a row of the table
abbrev pub row_of : Row → NamedRow
row_of row = record { name = row.name.now; characters = row.characters.now }

-- what a reference stands for, in UTF-8
abbrev pub characters_of : Characters → List ℕ
characters_of (One character) = encode_utf8 character
characters_of (Written numbers) = spelled numbers.now

-- what a reference stands for, and the rest
abbrev pub found_of : Found → List ℕ × List ℕ
found_of found = (characters_of found.characters, found.rest.now)
