use Rattle.std.proofs.Common.{◌≡◌, sym, ◌∙◌, refl, subst, List, ℕ, false}
use Rattle.std.specs.Bool.{IsTrue}
use Rattle.simplecss_grammar.specs.Declarations.{stated_name}
use Rattle.css_text.specs.ThisEdition.{this_edition}
use Rattle.css_text.specs.Cursor.{rest_of}
use Rattle.simplecss_declaration.specs.internal.UnreportedFaults.{FailsAt}
use Rattle.simplecss_grammar.specs.Skipped.{declaration_skips}
use Rattle.simplecss_declaration.proofs.OpenValueLemmas.{open_at, declaration_skips-none, declaration_skips-stated, open_at-empty, open_at-left, open_at-all}
use Rattle.simplecss_declaration.proofs.reader.find_open_value.Goals.{After-past_terms-from}
use Rattle.simplecss_declaration.proofs.reader.find_open_value.Goals as goal

-- what is skipped of a declaration whose terms were read
skips_here : (c : After-past_terms-from)
    → declaration_skips this_edition c.args.text.now
    ≡ open_at c.past_terms-from.result.now (rest_of c.past_terms-from.new.s)
skips_here c =
    let whole : rest_of c.new-s.result ≡ c.args.text.now =
    rw (c.new-s.ensures.offset, c.new-s.ensures.text) refl in
    declaration_skips-stated this_edition c.args.text.now
    (rest_of c.take_stated_name.new.s) c.past_terms-from.result.now
    (rest_of c.past_terms-from.new.s) c.in_ok-take_stated_name.field-0.now
    (rw (← whole) c.in_ok-take_stated_name.ensures.reads) c.past_terms-from.ensures.from
    c.past_terms-from.ensures.rest

pub returns-in_err-take_stated_name : goal.returns-in_err-take_stated_name
returns-in_err-take_stated_name c =
    let whole : rest_of c.new-s.result ≡ c.args.text.now =
    rw (c.new-s.ensures.offset, c.new-s.ensures.text) refl in
    let none = c.from_residual.ensures in
    rw none (sym (declaration_skips-none this_edition c.args.text.now
    (rest_of c.take_stated_name.new.s)
    (subst (λ (t : List ℕ). FailsAt (stated_name this_edition t)
    (rest_of c.take_stated_name.new.s)) whole c.in_err-take_stated_name.ensures.reads)))

pub returns-then-is_empty : goal.returns-then-is_empty
returns-then-is_empty c =
    sym (skips_here (goal.at.returns-then-is_empty c).After-past_terms-from
    ∙ open_at-empty c.past_terms-from.result.now (rest_of c.past_terms-from.new.s)
    (sym c.is_empty.ensures ∙ c.if-is_empty.true))

pub returns-then-at_end : goal.returns-then-at_end
returns-then-at_end c =
    sym (skips_here (goal.at.returns-then-at_end c).After-past_terms-from
    ∙ open_at-all c.past_terms-from.result.now (rest_of c.past_terms-from.new.s)
    (sym c.is_empty.ensures ∙ c.if-is_empty.false)
    (c.at_end.ensures.0 (rw c.if-at_end.true refl)))

pub returns-else-at_end : goal.returns-else-at_end
returns-else-at_end c =
    sym (skips_here (goal.at.returns-else-at_end c).After-past_terms-from
    ∙ open_at-left c.past_terms-from.result.now (rest_of c.past_terms-from.new.s)
    (λ ended. let ends : IsTrue false = c.if-at_end.ensures.1 ended in cc))
