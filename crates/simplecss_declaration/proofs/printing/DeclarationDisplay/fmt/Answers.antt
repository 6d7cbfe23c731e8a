use Rattle.std.proofs.Common.{◌++◌, true, refl, ap}
use Rattle.std.specs.Prelude.{codes}
use Rattle.css_text.proofs.round_trip.StyledWrites.{styled_three, plain_of_styled}
use Rattle.simplecss_declaration.proofs.printing.DeclarationDisplay.fmt.Goals as goal

pub returns-clause-styled : goal.returns-clause-styled
returns-clause-styled g c flush ok =
    let d = c.args.self.now in
    let stated = c.in_ok-write_three.ensures flush (refl {a = true}) in
    let marked = c.in_ok-write_str.ensures.styled stated.flush (refl {a = true}) in
    let closed = c.write_str-2.ensures.styled marked.flush ok in
    styled_three g.W.Write.write_str_gives _ _ _ _ _ _ _ _ stated marked closed (ap
    (λ mark. d.name.now ++ codes ":" ++ d.value.now ++ mark ++ codes ";") c.important_mark.ensures)

pub returns-clause-writes : goal.returns-clause-writes
returns-clause-writes g c plain ok =
    plain_of_styled g.W.Write.write_str_gives _ _ _ plain (returns-clause-styled g c plain.flush ok)
