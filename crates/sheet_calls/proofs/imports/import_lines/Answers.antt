use Rattle.std.proofs.Common.{[], string_bytes}
use Rattle.css_sheet.specs.ImportViews.{import_of}
use Rattle.sheet_calls.specs.ImportLines.{import_lines}
use Rattle.call_answers.proofs.LineTexts.{line_more}
use Rattle.sheet_calls.proofs.imports.import_lines.Goals as goal

-- the lines of one more import
pub loop-import-preserved : goal.loop-import-preserved
loop-import-preserved c =
    line_more import_lines import_of c.args.imports.now c.loop-import.import-index _ []
    (string_bytes c.loop-import.out) (string_bytes c.push_import.new.out)
    c.loop-import-test.true c.loop-import.invariant c.in_ok-push_import.ensures
