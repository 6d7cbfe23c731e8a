-- Places of a text: offsets whose positions are known.
use Rattle.std.specs.Prelude.{◌≡◌, ℕ, List}
use Rattle.std.specs.Str.{IsCharBoundary}
use Rattle.css_text.specs.Positions.{position}
use Rattle.simplecss.specs.declared.place.Place.{Place}

-- the offset is between two characters of the text, and this is its position
abbrev pub IsPlace : List ℕ → Place → Type 0
IsPlace text place = IsCharBoundary text place.offset × (place.pos ≡ position text place.offset)
