use Rattle.std.proofs.Common.{◌≡◌, sym, ap, ◌∙◌, refl, List, ℕ, Some, None}
use Rattle.css_text.specs.Reading.{Reading, got, fails}
use Rattle.simplecss_grammar.specs.Declarations.{stated_name}
use Rattle.css_text.specs.ThisEdition.{this_edition}
use Rattle.css_text.specs.Cursor.{rest_of}
use Rattle.simplecss_declaration.specs.internal.UnreportedFaults.{FailsAt}
use Rattle.simplecss_declaration.specs.ValueStarts.{past_terms}
use Rattle.simplecss_declaration.proofs.reader.find_value_end.Goals as goal

none_after : (r : Reading (List ℕ)) (left : List ℕ) → FailsAt r left
    → None ≡ past_terms this_edition r
none_after (got n rest) left is = absurd is
none_after (fails fault rest) left is = refl

pub returns-in_err-take_stated_name : goal.returns-in_err-take_stated_name
returns-in_err-take_stated_name c =
    let whole : rest_of c.new-s.result ≡ c.args.text.now =
    rw (c.new-s.ensures.offset, c.new-s.ensures.text) refl in
    let none = c.from_residual.ensures in
    rw none (none_after (stated_name this_edition c.args.text.now) (rest_of c.take_stated_name.new.s)
    (rw whole at c.in_err-take_stated_name.ensures.reads))

pub returns : goal.returns
returns c =
    let whole : rest_of c.new-s.result ≡ c.args.text.now =
    rw (c.new-s.ensures.offset, c.new-s.ensures.text) refl in
    ap Some c.past_terms.ensures.from ∙ sym (ap (past_terms this_edition)
    (rw whole at c.in_ok-take_stated_name.ensures.reads))
