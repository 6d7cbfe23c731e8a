-- What contracts see of the parts of a head.
use Rattle.std.specs.Prelude.{List, map}
use Rattle.simplecss.specs.declared.hints.heads.Part.{Part}
use Rattle.simplecss.specs.Hints.{HeadPart}

abbrev pub head_part_of : Part → HeadPart
head_part_of part = record { from = part.from.now; is_kept = part.is_kept }

-- what contracts see of each part of a list, in order
abbrev pub head_parts_of : List Part → List HeadPart
head_parts_of parts = map head_part_of parts
