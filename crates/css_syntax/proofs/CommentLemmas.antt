-- Comments, one after another.
-- Serves `texts::past_comments`.
use Rattle.std.proofs.Common.{◌≡◌, ℕ, Bool, true, false, if◌then◌else◌, List, [], ◌∷◌, Some, None, ◌<◌, ◌≤◌, length, refl, arith}
use Rattle.css_text.specs.Comments.{opens_comment}
use Rattle.css_text.proofs.reading.EachLemmas.{Takes, Shrinks}
use Rattle.css_text.proofs.reading.TakesLemmas.{each-within}
use Rattle.css_syntax.specs.Tokens.{comment_part, past_comment, past_comments, token}
use Rattle.css_syntax.proofs.Shorter.{each-goes, each-rests, past_comment-within}

comment_shrinks : (text : List ℕ) (t : Bool) → opens_comment text ≡ t
    → Shrinks {A = Unit {0}} text (if t then Some (tt, past_comment text) else None)
comment_shrinks [] true h = absurd (cc)
comment_shrinks (b ∷ text) true h = omega (arith, past_comment-within b text)
comment_shrinks text false h = tt

comment_part-takes : Takes comment_part
comment_part-takes text = comment_shrinks text (opens_comment text) refl

pub past_comments-within : (text : List ℕ) → length (past_comments text) ≤ length text
past_comments-within text = each-within comment_part comment_part-takes text

-- the token that a comment is
pub comment_goes : (text : List ℕ) → opens_comment text ≡ true
    → past_comments (token text).1 ≡ past_comments text
unfolding token
comment_goes [] h = absurd (cc)
comment_goes (b ∷ text) h = each-goes comment_part comment_part-takes (b ∷ text) _ tt (rw h refl)

pub comment_less : (text : List ℕ) → opens_comment text ≡ true
    → length (token text).1 < length text
unfolding token
comment_less [] h = absurd (cc)
comment_less (b ∷ text) h = rw h (omega (arith, past_comment-within b text))

-- where no comment opens, none is read
pub no_comments : (text : List ℕ) → opens_comment text ≡ false → past_comments text ≡ text
no_comments text h = each-rests comment_part text (rw h refl)
