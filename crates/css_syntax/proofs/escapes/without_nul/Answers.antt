use Rattle.std.proofs.Common.{◌∙◌, ◌++◌, ◌∷◌, List, ℕ, encode_utf8, ap, sym, arith, rules, length, length-append}
use Rattle.std.specs.String.{string_bytes}
use Rattle.css_syntax.specs.Escapes.{without_nul}
use Rattle.std.proofs.lemmas.Str.Pattern.{split_parts}
use Rattle.css_syntax.proofs.WithoutNul.{nul-step, nul-whole}
use Rattle.css_syntax.proofs.escapes.without_nul.Goals as goal

pub parts-smaller : goal.parts-smaller
parts-smaller c =
    let parts = split_parts 0 c.parts.rest.now c.split_once.result c.split_once.ensures.cases
    (omega arith) in
    let some = rw c.in-Some.is at parts in
    omega (arith, ap length some.0, length-append c.in-Some.plain.now (0 ∷ c.in-Some.next.now))

pub parts-preserved : goal.parts-preserved
parts-preserved c =
    let parts = split_parts 0 c.parts.rest.now c.split_once.result c.split_once.ensures.cases
    (omega arith) in
    let some = rw c.in-Some.is at parts in
    let next = c.in-Some.next.now in (
      search rules,
      ap (λ (l : List ℕ). l ++ without_nul next) (c.in_ok-push.ensures.bytes
          ∙ ap (λ (l : List ℕ). l ++ encode_utf8 65533) c.in_ok-push_str.ensures.bytes)
          ∙ nul-step (string_bytes c.parts.out) c.in-Some.plain.now next c.parts.rest.now some.0 some.1
          ∙ c.parts.invariant.1,
    )

pub returns : goal.returns
returns c =
    let parts = split_parts 0 c.parts.rest.now c.split_once.result c.split_once.ensures.cases
    (omega arith) in
    let none = rw c.in_default.is at parts in
    c.in_ok-push_str-2.ensures.bytes
    ∙ ap (λ (l : List ℕ). string_bytes c.parts.out ++ l) (sym (nul-whole c.parts.rest.now none))
    ∙ c.parts.invariant.1
