-- What contracts see of hints: the bytes of their texts, wherever these are stored.
use Rattle.std.specs.Prelude.{List, map}
use Rattle.simplecss.specs.declared.hints.kinds.Hint.{Hint as FoundHint}
use Rattle.simplecss.specs.declared.hints.kinds.HintKind.{HintKind}
use Rattle.simplecss.specs.declared.hints.kinds.HintKind.TheVariants.{ByteOrderMark, StrayCommentEnd, OtherSelectors, CutValue, OpenParenthesis, MarkWithoutImportant}
use Rattle.simplecss.specs.Hints.{Surprise, byte_order_mark, stray_comment_end, other_selectors, cut_value, open_parenthesis, mark_without_important, Hint}

abbrev pub surprise_of : HintKind → Surprise
surprise_of ByteOrderMark = byte_order_mark
surprise_of StrayCommentEnd = stray_comment_end
surprise_of OtherSelectors = other_selectors
surprise_of (CutValue value) = cut_value value.now
surprise_of (OpenParenthesis value) = open_parenthesis value.now
surprise_of (MarkWithoutImportant value) = mark_without_important value.now

abbrev pub hint_of : FoundHint → Hint
hint_of hint = record { from = hint.from.now; surprise = surprise_of hint.kind }

-- what contracts see of each hint of a list, in order
abbrev pub hints_of : List FoundHint → List Hint
hints_of hints = map hint_of hints
