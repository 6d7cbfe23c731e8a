use Rattle.std.proofs.Common.{◌≡◌, length}
use denote.Text.{Utf8}
use denote.Shadow.{shadow}
use Rattle.css_syntax.specs.Tokens.{past_comments}
use Rattle.css_syntax.proofs.texts.past_comments.Given as goal

abbrev pub invariant-comments : goal.invariant-comments
invariant-comments l = record {
  text : shadow (Utf8 l.rest);
  left : past_comments l.rest ≡ past_comments l.text;
}

abbrev pub decreases-comments : goal.decreases-comments
decreases-comments l = length l.rest
