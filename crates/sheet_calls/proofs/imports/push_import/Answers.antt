use Rattle.std.proofs.Common.{string_bytes}
use Rattle.std.proofs.lemmas.Result.{on_ok_weaker}
use Rattle.css_sheet.specs.ImportViews.{import_of}
use Rattle.sheet_calls.proofs.ImportSteps.{import_written}
use Rattle.sheet_calls.proofs.imports.push_import.Goals as goal

pub returns : goal.returns
returns c =
    on_ok_weaker c.writeln-2.result
    (λ wrote. import_written (import_of c.args.import.now) (string_bytes c.args.out.now)
    (string_bytes c.write.new.self) (string_bytes c.writeln.new.self)
    (string_bytes c.writeln-2.new.self) _ _ _ _ _ _
    c.url_parts-is_string.ensures.is_string c.url_parts-is_string.ensures.text
    c.layer_parts-layer.ensures.number c.layer_parts-layer.ensures.name
    c.condition_parts-has.ensures.number c.condition_parts-has.ensures.text
    c.in_ok-write.ensures.bytes c.in_ok-writeln.ensures.bytes wrote)
    c.writeln-2.ensures.bytes
