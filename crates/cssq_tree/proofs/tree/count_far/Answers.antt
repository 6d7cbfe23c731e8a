use Rattle.std.proofs.Common.{◌<◌, ◌==◌, ap, ◌∙◌, arith}
use Rattle.std.specs.List.{position_or_len}
use Rattle.std.proofs.lemmas.Str.Pattern.{find_char}
use Rattle.cssq_tree.proofs.FirstBytes.{first_found}
use Rattle.cssq_tree.proofs.tree.count_far.Goals as goal

pub returns : goal.returns
returns c =
    let text = c.args.text.now in
    let wanted = c.from.result in
    let low : wanted < 128 = omega (arith, c.from.ensures, c.requires) in
    c.unwrap_or.ensures
    ∙ first_found wanted text c.find.result
    (find_char wanted text c.find.result c.find.ensures.cases low)
    ∙ ap (λ byte. position_or_len (λ b. b == byte) text) c.from.ensures
