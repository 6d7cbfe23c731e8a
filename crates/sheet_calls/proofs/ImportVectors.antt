-- Worked lines of imports, computed with the definitions. Nothing cites them.
-- Computes `import_lines` of `specs/ImportLines`.
use Rattle.std.specs.Prelude.{◌≡◌, refl, [], codes, None, Some}
use Rattle.std.specs.Fmt.{digits}
use Rattle.css_sheet.specs.ImportRules.{quoted, bare, unlayered, layered, layered_as}
use Rattle.sheet_calls.specs.ImportLines.{import_lines}

-- `@import "a" layer(b) print;`
pub named_layer :
    import_lines (record {
      start = 0;
      size = 27;
      url = quoted (codes "a");
      layer = layered_as (codes "b");
      supports = None;
      media = codes "print";
    })
    ≡ codes "0 27 1 1 2 1 0 0 5\nabprint\n"
unfolding digits
named_layer = refl

-- `@import url( a ) layer supports(b: c) not print;` after ten bytes
pub supported :
    import_lines (record {
      start = 10;
      size = 48;
      url = bare (codes "a");
      layer = layered;
      supports = Some (codes "b: c");
      media = codes "not print";
    })
    ≡ codes "10 48 0 1 1 0 1 4 9\nab: cnot print\n"
unfolding digits
supported = refl

-- a condition may be empty, and then it is still there
pub empty :
    import_lines (record {
      start = 0;
      size = 23;
      url = quoted [];
      layer = unlayered;
      supports = Some [];
      media = [];
    })
    ≡ codes "0 23 1 0 0 0 1 0 0\n\n"
unfolding digits
empty = refl
