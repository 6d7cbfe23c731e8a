use Rattle.std.proofs.Common.{◌∙◌, ◌++◌, ◌∷◌, List, ℕ, ap, sym, arith, rules, length, length-append}
use Rattle.std.specs.String.{string_bytes}
use Rattle.std.proofs.lemmas.Str.Pattern.{split_parts}
use Rattle.css_text.specs.AsciiBytes.{backslash}
use Rattle.css_syntax.specs.Escapes.{unescaped_in}
use Rattle.css_syntax.proofs.Decoding.{ran, decoded-whole}
use Rattle.css_syntax.proofs.escapes.unescape_from.Goals as goal

pub parts-smaller : goal.parts-smaller
parts-smaller c =
    let parts = split_parts backslash c.parts.rest.now c.split_once.result c.split_once.ensures.cases
    (omega arith) in
    let some = rw c.in-Some.is at parts in
    omega (
      arith,
      ap length some.0,
      length-append c.in-Some.plain.now (backslash ∷ c.in-Some.next.now),
      c.in_ok-rest-2.ensures.within,
    )

pub parts-preserved : goal.parts-preserved
parts-preserved c =
    let parts = split_parts backslash c.parts.rest.now c.split_once.result c.split_once.ensures.cases
    (omega arith) in
    let some = rw c.in-Some.is at parts in
    let run = c.in-Some.plain.now in
    let next = c.in-Some.next.now in
    let out = string_bytes c.parts.out in (
      search rules,
      c.in_ok-rest-2.ensures.pushed ∙ ran c.args.in_string out _ run next some.1 c.in_ok-push_str-2.ensures.bytes
          ∙ ap (λ (l : List ℕ). out ++ unescaped_in c.args.in_string l) (sym some.0)
          ∙ c.parts.invariant.1,
    )

pub returns : goal.returns
returns c =
    let parts = split_parts backslash c.parts.rest.now c.split_once.result c.split_once.ensures.cases
    (omega arith) in
    let none = rw c.in_default.is at parts in
    c.in_ok-push_str-3.ensures.bytes
    ∙ ap (λ (l : List ℕ). string_bytes c.parts.out ++ l) (sym (decoded-whole c.args.in_string c.parts.rest.now none))
    ∙ c.parts.invariant.1
