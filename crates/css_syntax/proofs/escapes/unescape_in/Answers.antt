use Rattle.std.proofs.Common.{◌∙◌, ◌∷◌, ap, sym, arith}
use Rattle.std.proofs.lemmas.Str.Pattern.{split_parts}
use Rattle.css_text.specs.AsciiBytes.{backslash}
use Rattle.css_syntax.specs.Escapes.{unescaped_in}
use Rattle.css_syntax.proofs.Decoding.{decoded-run, decoded-whole}
use Rattle.css_syntax.proofs.escapes.unescape_in.Goals as goal

pub returns-in-None : goal.returns-in-None
returns-in-None c =
    let parts = split_parts backslash c.args.text.now c.split_once.result c.split_once.ensures.cases
    (omega arith) in
    let none = rw c.in-None.is at parts in
    sym (decoded-whole c.args.in_string c.args.text.now none)

pub returns-in_ok-unescape_from-in-Some : goal.returns-in_ok-unescape_from-in-Some
returns-in_ok-unescape_from-in-Some c =
    let parts = split_parts backslash c.args.text.now c.split_once.result c.split_once.ensures.cases
    (omega arith) in
    let some = rw c.in-Some.is at parts in
    c.in_ok-unescape_from-in-Some.ensures
    ∙ sym (decoded-run c.args.in_string c.in-Some.front.now (backslash ∷ c.in-Some.after.now) some.1)
    ∙ ap (unescaped_in c.args.in_string) (sym some.0)
