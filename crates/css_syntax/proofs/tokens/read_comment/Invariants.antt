use Rattle.std.proofs.Common.{◌≡◌, length}
use Rattle.css_text.specs.Comments.{after_close, after_comment}
use Rattle.css_syntax.specs.Tokens.{from_close, closed_or_open}
use Rattle.css_syntax.proofs.tokens.read_comment.Given as goal

abbrev pub invariant-comment : goal.invariant-comment
invariant-comment l = record {
  quality : closed_or_open (after_close l.rest) ≡ closed_or_open (after_comment l.bytes);
  rest : from_close (after_close l.rest) ≡ from_close (after_comment l.bytes);
}

abbrev pub decreases-comment : goal.decreases-comment
decreases-comment l = length l.rest
