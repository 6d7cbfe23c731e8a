use Rattle.std.proofs.Common.{◌≡◌, map, take}
use Rattle.std.specs.List.{flat_map}
use Rattle.css_sheet.specs.ContentViews.{content_of}
use Rattle.sheet_calls.specs.ContentNumbers.{content_numbers}
use Rattle.sheet_calls.proofs.sheet_contents.contents_of.Given as goal

-- the numbers of the parts so far
abbrev pub invariant-loop-found : goal.invariant-loop-found
invariant-loop-found l =
    l.out.items ≡ flat_map (content_numbers l.size) (map (content_of l.size) (take l.found-index l.parts))
