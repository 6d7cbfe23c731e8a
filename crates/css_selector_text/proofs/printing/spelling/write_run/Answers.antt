use Rattle.std.proofs.Common.{true, refl, ◌<◌, length, subst, sym}
use Rattle.css_text.proofs.round_trip.StyledWrites.{styled_two}
use Rattle.css_selector_text.proofs.round_trip.PrintLemmas.{written_escape, written_run, nothing_left}
use Rattle.css_selector_text.proofs.printing.spelling.write_run.Goals as goal

pub returns-in_ok-write_escape-in-Some-clause-written :
    goal.returns-in_ok-write_escape-in-Some-clause-written
returns-in_ok-write_escape-in-Some-clause-written g c = λ flush.
    let one = c.in_ok-write_str.ensures.styled flush (refl {a = true}) in
    let two = c.in_ok-write_escape-in-Some.ensures one.flush (refl {a = true}) in (
      _,
      styled_two _ _ _ _ _ _ _ one two refl,
      written_escape c.args.quote c.args.text.now _ _ c.in-Some.byte _ c.split_kept.ensures.front
          c.split_kept.ensures.rest c.in-Some.ensures.0,
    )

pub returns-in-None-clause-less : goal.returns-in-None-clause-less
returns-in-None-clause-less g c =
    let none = nothing_left c.args.quote c.args.text.now c.requires.low
    c.split_kept.result.1.now c.split_kept.ensures.rest c.in-None.ensures in
    subst (λ l. length l < length c.args.text.now) (sym none) c.requires.some

pub returns-in-None-clause-written : goal.returns-in-None-clause-written
returns-in-None-clause-written g c = λ flush.
    let one = c.in_ok-write_str.ensures.styled flush (refl {a = true}) in (
      _,
      one,
      written_run c.args.quote c.args.text.now _ _ c.split_kept.ensures.front
          c.split_kept.ensures.rest,
    )
