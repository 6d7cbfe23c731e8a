use Rattle.std.proofs.Common.{◌≡◌, string_bytes}
use Rattle.call_answers.proofs.PageLines.{LinesWithin}
use Rattle.page_calls.specs.ModernLines.{IsModernLine}
use Rattle.page_calls.proofs.modern.pages.lines_by.Given as goal

-- the lines of the elements so far, which are short enough, by a walk of the same selectors
abbrev pub invariant-loop-element : goal.invariant-loop-element
invariant-loop-element l = record {
  lines : LinesWithin l.most (IsModernLine l.content l.fn.walk.walk.selectors l.fn.walk.page) l.element
      (string_bytes l.text);
  page : l.walk.page ≡ l.fn.walk.page;
  selectors : l.walk.walk.selectors ≡ l.fn.walk.walk.selectors;
}
