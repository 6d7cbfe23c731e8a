use Rattle.std.proofs.Common.{◌≡◌, ◌++◌, List, ℕ, Some, drop, map, refl, sym, ap, ◌∙◌, subst}
use Rattle.std.specs.Str.{IsCharBoundary}
use Rattle.css_text.specs.Cursor.{text_of, rest_of}
use Rattle.simplecss_grammar.specs.Statements.{statement}
use Rattle.css_text.specs.ThisEdition.{this_edition}
use Rattle.simplecss.specs.StatementOffsets.{OccursNext}
use Rattle.simplecss.specs.RuleViews.{rule_of}
use Rattle.simplecss.specs.internal.SharedBlocks.{rules_read}
use Rattle.simplecss.proofs.StatementRests.{occurs_next}
use Rattle.simplecss.proofs.sheet.statement_reader.StatementReader.read_next.Goals as goal

pub returns-clause-ok : goal.returns-clause-ok
returns-clause-ok g c =
    let text = text_of c.self.inside.stream in
    let at_start : text_of c.at_statement.new.s ≡ text = c.at_statement.ensures.text in
    let at_end : text_of c.consume_statement.new.s ≡ text =
    c.in_ok-consume_statement.ensures.text ∙ at_start in
    let begins : drop c.pos-start.result text ≡ rest_of c.at_statement.new.s =
    (let back = sym at_start in λ k. drop (c.pos-start.ensures k) (back k)) in
    let ends : drop c.pos.result text ≡ rest_of c.consume_statement.new.s =
    (let back = sym at_end in λ k. drop (c.pos.ensures k) (back k)) in (
      subst (λ (v : List ℕ × ℕ). OccursNext v.0 v.1
          (record { start = c.pos-start.result; end = c.pos.result; rules = c.into_rules.result }))
          c.self.view_is
          (occurs_next text c.self.inside.stream.pos
          (record { start = c.pos-start.result; end = c.pos.result; rules = c.into_rules.result })
          (begins ∙ c.if-not-at_statement.ensures.rest refl)
          (c.if-not-at_statement.ensures.reads
          ∙ ap (λ (t : List ℕ). Some (statement this_edition t)) (sym begins))
          (ends ∙ c.in_ok-consume_statement.ensures.rest
          ∙ ap (λ (t : List ℕ). (statement this_edition t).1) (sym begins))
          (c.self.inside.stream.boundary.0)
          (subst (λ (t : List ℕ). IsCharBoundary t c.pos-start.result) at_start
          (subst (IsCharBoundary (text_of c.at_statement.new.s))
          (sym c.pos-start.ensures) c.at_statement.new.s.boundary))
          (subst (λ (t : List ℕ). IsCharBoundary t c.pos.result) at_end
          (subst (IsCharBoundary (text_of c.consume_statement.new.s))
          (sym c.pos.ensures) c.consume_statement.new.s.boundary))
          (ap (map rule_of) c.into_rules.ensures ∙ c.in-Ok.ensures.rules
          ∙ ap (λ rules. map rule_of rules ++ rules_read c.consume_statement.new.self)
          (c.consume_statement.ensures.kept ∙ c.new-reader.ensures)
          ∙ c.in_ok-consume_statement.ensures.rules
          ∙ ap (λ (t : List ℕ). (statement this_edition t).0) (sym begins))),
      sym c.pos.ensures,
    )
