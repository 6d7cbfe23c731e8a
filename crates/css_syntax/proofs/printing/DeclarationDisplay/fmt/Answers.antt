use Rattle.std.proofs.Common.{◌++◌, true, refl, ap, ◌∙◌}
use Rattle.std.specs.Prelude.{codes}
use Rattle.css_text.proofs.round_trip.StyledWrites.{styled_four, plain_of_styled}
use Rattle.css_syntax.specs.Printing.{lone_end}
use Rattle.css_syntax.proofs.printing.DeclarationDisplay.fmt.Goals as goal

pub returns-clause-styled : goal.returns-clause-styled
returns-clause-styled g c flush ok =
    let d = c.args.self.now in
    let stated = c.in_ok-write_three.ensures flush (refl {a = true}) in
    let ended = c.in_ok-write_str.ensures.styled stated.flush (refl {a = true}) in
    let marked = c.in_ok-write_str-2.ensures.styled ended.flush (refl {a = true}) in
    let closed = c.write_str-3.ensures.styled marked.flush ok in
    let front = d.name.now ++ codes ": " ++ d.value.now in
    styled_four g.W.Write.write_str_gives _ _ _ _ _ _ _ _ _ _ stated ended marked closed
    (ap (λ end. front ++ end ++ c.important_mark.result.now ++ codes ";") c.lone_end.ensures
    ∙ ap (λ mark. front ++ lone_end d.value.now ++ mark ++ codes ";") c.important_mark.ensures)

pub returns-clause-writes : goal.returns-clause-writes
returns-clause-writes g c plain ok =
    plain_of_styled g.W.Write.write_str_gives _ _ _ plain (returns-clause-styled g c plain.flush ok)
