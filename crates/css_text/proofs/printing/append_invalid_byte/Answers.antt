use Rattle.std.proofs.Common.{List, ℕ, ◌≡◌, ◌++◌, ap, ◌∙◌, append_assoc, decimal, encode_utf8}
use lib.Chars.{codes}
use Rattle.css_text.specs.declared.error.Error.TheVariants.{InvalidByte}
use Rattle.css_text.specs.Errors.{error_text}
use Rattle.css_text.proofs.round_trip.StyledWrites.{appends_on_ok}
use Rattle.css_text.proofs.printing.append_invalid_byte.Goals as goal

-- the pieces of the call, grouped as the error's text groups them
regroup : (a b c d e f g h : List ℕ)
    → a ++ (b ++ (c ++ (d ++ (e ++ (f ++ (g ++ h))))))
    ≡ ((((a ++ b) ++ c) ++ d) ++ e) ++ ((f ++ g) ++ h)
regroup a b c d e f g h = simp append_assoc

-- the words, the two characters and the position are written in one call
pub returns : goal.returns
returns c =
    let pos = c.args.pos in
    let text = regroup (codes "expected '") (encode_utf8 c.from-expected.result) (codes "' not '")
    (encode_utf8 c.from-actual.result) (codes "' at ") (decimal pos.row) (codes ":")
    (decimal pos.col) in
    let bytes =
    ap (λ x. error_text (InvalidByte x c.from-actual.result pos)) c.from-expected.ensures
    ∙ ap (λ x. error_text (InvalidByte c.args.expected x pos)) c.from-actual.ensures in
    appends_on_ok c.args.text.now _ _ c.write.new.self c.write.result c.write.ensures.writes
    (text ∙ bytes)
