-- What contracts see of what a statement is in an answer.
use Rattle.std.specs.Prelude.{map}
use Rattle.css_selector_text.specs.reading.ReadViews.{placed_of}
use Rattle.css_syntax.specs.Views.{prelude_of, block_of, at_rule_of}
use Rattle.sheet_calls.specs.declared.sheets.Shown.{Shown}
use Rattle.sheet_calls.specs.declared.sheets.Shown.TheVariants as shown
use Rattle.call_answers.specs.SheetNumbers.{ShownText, shown_rule, shown_at_rule, shown_skipped}

abbrev pub shown_text : Shown → ShownText
shown_text (shown.Rule rule selectors) =
    shown_rule (prelude_of rule.now.prelude) (block_of rule.now.block) (map placed_of selectors.items)
shown_text (shown.AtRule rule) = shown_at_rule (at_rule_of rule.now)
shown_text (shown.Skipped fault) = shown_skipped fault
