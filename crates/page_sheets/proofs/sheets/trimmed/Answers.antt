use Rattle.std.proofs.Common.{refl}
use Rattle.std.proofs.lemmas.Str.Ascii.{trim_ascii_is}
use Rattle.page_sheets.specs.Sheets.{past_spaces}
use Rattle.page_sheets.proofs.sheets.trimmed.Goals as goal

pub returns : goal.returns
returns c =
    trim_ascii_is c.args.text.now c.trim_ascii.result.now (past_spaces c.args.text.now) refl
    c.trim_ascii.ensures.value
