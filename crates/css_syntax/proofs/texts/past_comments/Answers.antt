use Rattle.std.proofs.Common.{◌<◌, length, sym, ap, ◌∙◌, subst, arith, rules}
use Rattle.std.proofs.lemmas.Grind.{common_steps}
use Rattle.css_syntax.proofs.CommentLemmas.{comment_goes, comment_less, no_comments}
use Rattle.css_syntax.specs.Tokens.{past_comments}
use Rattle.css_syntax.proofs.texts.past_comments.Goals as goal

pub comments-smaller : goal.comments-smaller
comments-smaller c =
    subst (λ l. length l < length c.comments.rest.now) (ap (λ p. p.1) c.read_token.ensures)
    (comment_less c.comments.rest.now (sym c.opens_comment.ensures.value ∙ c.comments-test.true))

pub comments-preserved : goal.comments-preserved
comments-preserved c = record {
  text = first_of (search rules, grind (arith, common_steps));
  left = ap past_comments (sym (ap (λ p. p.1) c.read_token.ensures))
      ∙ comment_goes c.comments.rest.now
      (sym c.opens_comment.ensures.value ∙ c.comments-test.true)
      ∙ c.comments.invariant.left;
}

pub returns : goal.returns
returns c =
    sym (no_comments c.comments.rest.now
    (sym c.opens_comment.ensures.value ∙ c.comments-test.false))
    ∙ c.comments.invariant.left
