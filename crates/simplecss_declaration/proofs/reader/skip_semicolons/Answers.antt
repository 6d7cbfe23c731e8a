use Rattle.std.proofs.Common.{◌≡◌, ◌<◌, length, sym, ap, ◌∙◌, subst, List, ℕ}
use Rattle.css_text.specs.AsciiBytes.{semicolon}
use Rattle.css_text.specs.Bytes.{past_one}
use Rattle.css_text.specs.Comments.{past_blank}
use Rattle.css_text.specs.Cursor.{rest_of}
use Rattle.css_text.proofs.bytes.ByteLemmas.{past_byte_there, past_byte_not}
use Rattle.simplecss_declaration.proofs.ValueLemmas.{semicolons-some, semicolons-none, semicolon-less}
use Rattle.simplecss_declaration.proofs.reader.skip_semicolons.Goals as goal

pub semicolons-smaller : goal.semicolons-smaller
semicolons-smaller c =
    let occurs = sym c.skip_byte.ensures.occurs ∙ c.semicolons-test.true in
    let after : rest_of c.skip_gap.new.s ≡ past_blank (past_one (rest_of c.semicolons.s)) =
    c.skip_gap.ensures.rest ∙ ap past_blank
    (c.skip_byte.ensures.rest ∙ past_byte_there semicolon (rest_of c.semicolons.s) occurs) in
    subst (λ (t : List ℕ). length t < length (rest_of c.semicolons.s)) (sym after)
    (semicolon-less (rest_of c.semicolons.s) occurs)

pub semicolons-preserved : goal.semicolons-preserved
semicolons-preserved c =
    let occurs = sym c.skip_byte.ensures.occurs ∙ c.semicolons-test.true in
    let after : rest_of c.skip_gap.new.s ≡ past_blank (past_one (rest_of c.semicolons.s)) =
    c.skip_gap.ensures.rest ∙ ap past_blank
    (c.skip_byte.ensures.rest ∙ past_byte_there semicolon (rest_of c.semicolons.s) occurs) in
    record {
      same = c.skip_gap.ensures.text ∙ c.skip_byte.ensures.text ∙ c.semicolons.invariant.same;
      rest = rw after
          (sym (semicolons-some (rest_of c.semicolons.s) occurs) ∙ c.semicolons.invariant.rest);
    }

pub returns-clause-rest : goal.returns-clause-rest
returns-clause-rest c =
    let none = sym c.skip_byte.ensures.occurs ∙ c.semicolons-test.false in
    c.skip_byte.ensures.rest
    ∙ past_byte_not semicolon (rest_of c.semicolons.s) none
    ∙ sym (semicolons-none (rest_of c.semicolons.s) none)
    ∙ c.semicolons.invariant.rest
