use Rattle.std.proofs.Common.{◌≡◌, None, false, if◌then◌else◌, sym, ap, ◌∙◌, lit<}
use Rattle.std.proofs.lemmas.Str.Pattern.{contains_char}
use Rattle.css_text.specs.AsciiBytes.{open_parenthesis}
use Rattle.css_text.specs.ThisEdition.{this_edition}
use Rattle.simplecss_declaration.specs.ValueStarts.{value_from}
use Rattle.simplecss.specs.OpenParentheses.{leaves_open}
use Rattle.simplecss.proofs.OpenParentheses.{leaves-none}
use Rattle.simplecss.proofs.hints.rest_of_open_value.Goals as goal
use Rattle.simplecss.proofs.hints.rest_of_open_value.Goals.{else-contains-via-then-contains+else-is_left_open, else-contains-via-else-contains}

-- nothing is left open, whether the value was read for it or has no parenthesis
pub returns-else-contains : goal.returns-else-contains
returns-else-contains c =
    let value = c.args.value.now in
    let tests = contains_char open_parenthesis value c.contains.result c.contains.ensures.cases
    (lit< tt) in
    let none : leaves_open value ≡ false = elim c.else-contains.branch [
      | else-contains-via-then-contains+else-is_left_open w
          ↦ sym w.is_left_open.ensures ∙ w.if-is_left_open.false
      | else-contains-via-else-contains w
          ↦ leaves-none value (λ k less at. cc (tests.1 k less at, w.if-contains.false))
    ] in
    sym (ap (λ b. if b then value_from this_edition c.args.from.now else None) none)
