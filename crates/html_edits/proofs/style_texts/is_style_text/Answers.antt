use Rattle.std.proofs.Common.{◌≡◌, [], length, arith}
use Rattle.std.proofs.lemmas.Grind.{common_steps}
use Rattle.std.proofs.lemmas.List.{nil_from_length}
use Rattle.html_edits.proofs.StyleTexts.{no_end}
use Rattle.html_edits.proofs.style_texts.is_style_text.Goals as goal

pub returns : goal.returns
returns c = λ h.
    let none : length c.from_style_end.result.now ≡ 0 = grind (arith, common_steps) in
    let e : c.from_style_end.result.now ≡ [] = nil_from_length c.from_style_end.result.now none in
    no_end c.args.text.now (rw (← c.from_style_end.ensures) e)
