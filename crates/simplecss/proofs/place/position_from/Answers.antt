use Rattle.std.proofs.Common.{◌≡◌, ℕ, List, length, min, ap, ◌∙◌, arith}
use Rattle.css_text.specs.Positions.{in_whole, position}
use Rattle.simplecss.proofs.PlaceLemmas.{offset-from}
use Rattle.simplecss.proofs.place.position_from.Goals as goal

pub returns-in-Some : goal.returns-in-Some
returns-in-Some c known boundary later =
    let between : List ℕ = c.in-Some.between.now in
    let whole : min (length between) (length between) ≡ length between = omega arith in
    c.in_whole.ensures
    ∙ ap (in_whole c.args.known.pos) (c.gen_text_pos_from.ensures ∙ ap (λ (t : List ℕ).
    position t (min (length between) (length t))) c.new.ensures.text ∙ ap (position between) whole)
    ∙ offset-from c.args.text.now between c.args.known.offset c.args.offset c.args.known.pos
    c.utf8.text known.0 known.1 later c.in-Some.ensures.cases.0
