use Rattle.std.proofs.Common.{◌∙◌, ap, sym, arith}
use Rattle.std.specs.List.{prefix_len}
use Rattle.std.proofs.lemmas.Str.Pattern.{contains_char}
use Rattle.css_syntax.specs.Escapes.{is_itself, without_nul}
use Rattle.css_syntax.proofs.WithoutNul.{nul-whole, plain-whole}
use Rattle.css_syntax.proofs.escapes.decode_in.Goals as goal

pub returns-then-plain_len-text : goal.returns-then-plain_len-text
returns-then-plain_len-text c =
    let text = c.args.text.now in
    sym (plain-whole c.args.in_string text
    (ap (prefix_len is_itself) (sym c.as_bytes.ensures.value) ∙ sym c.plain_len.ensures
    ∙ c.if-plain_len-text.true))

pub returns : goal.returns
returns c =
    let found = contains_char 0 c.as_str.result.now c.contains.result c.contains.ensures.cases
    (omega arith) in
    let is = sym c.as_str.ensures.value in
    is ∙ sym (nul-whole c.as_str.result.now (λ k within nul. absurd
    (let wrong = sym c.if-contains.false ∙ found.1 k within nul in cc)))
    ∙ ap without_nul (c.as_str.ensures.value ∙ c.in_ok-unescaped.ensures)
