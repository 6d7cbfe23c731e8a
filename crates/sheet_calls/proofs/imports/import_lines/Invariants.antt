use Rattle.std.proofs.Common.{◌≡◌, map, take, string_bytes}
use Rattle.std.specs.List.{flat_map}
use Rattle.css_sheet.specs.ImportViews.{import_of}
use Rattle.sheet_calls.specs.ImportLines.{import_lines}
use Rattle.sheet_calls.proofs.imports.import_lines.Given as goal

-- the lines of the imports so far
abbrev pub invariant-loop-import : goal.invariant-loop-import
invariant-loop-import l =
    string_bytes l.out ≡ flat_map import_lines (map import_of (take l.import-index l.imports))
