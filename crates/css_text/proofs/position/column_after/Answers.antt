use Rattle.std.proofs.Common.{List, ℕ, lit<, ap, ◌∙◌, ◌≡◌, ◌+◌, ◌==◌, min, length, chars, Bor}
use Rattle.std.specs.List.{after_last}
use Rattle.std.proofs.lemmas.Str.Pattern.{rfind_char}
use Rattle.css_text.specs.AsciiBytes.{newline}
use Rattle.css_text.proofs.bytes.PositionLemmas.{after_newline, one_line}
use Rattle.css_text.proofs.position.column_after.Goals as goal
use Rattle.css_text.proofs.position.column_after.Goals.{in-Some, in-None}

-- the line is what follows the last newline, wherever that is
pub returns : goal.returns
returns c =
    let last = rfind_char newline c.args.before.now _ c.rfind.ensures.cases (lit< tt) in
    let line : c.match-rfind.line.now ≡ after_last (λ b. b == newline) c.args.before.now
    = elim c.match-rfind.branch [
      | in-Some w ↦
          let found = rw w.in-Some.is at last in
          ap (λ (r : Bor (List ℕ)). r.now) w.line-is ∙ w.range_from-line.ensures.value
          ∙ after_newline _ _ found.0 found.1 found.2
      | in-None w ↦
          let none = rw w.in-None.is at last in
          ap (λ (r : Bor (List ℕ)). r.now) w.line-is ∙ one_line _ none
    ] in
    c.one_more.ensures ∙ ap (λ n. min 4294967295 (1 + n))
    (c.char_count.ensures ∙ ap (λ (t : List ℕ). length (chars t)) line)
