use Rattle.std.proofs.Common.{rules, tests}
use Rattle.std.specs.Char.{is_ascii_whitespace}
use Rattle.std.specs.Str.{str_eq_ignore_ascii_case}
use Rattle.std.proofs.lemmas.Iterator.Search.{any_from_yields_List}
use Rattle.std.proofs.lemmas.Iterator.Splits.{YieldsList-from_slice_split}
use Rattle.page_sheets.proofs.sheets.has_word.Goals as goal

pub returns : goal.returns
returns c =
    any_from_yields_List (str_eq_ignore_ascii_case c.args.word.now) _ _ _ c.any.ensures.ran
    (YieldsList-from_slice_split _ is_ascii_whitespace c.args.text.now c.split.ensures.rest
    c.split.ensures.done c.split.ensures.closure (λ x r q k. search (rules, tests)))
    (λ x b q k. search (rules, tests))
