use Rattle.std.proofs.Common.{◌≡◌, ◌++◌, List, ℕ, drop, sym, ap, ◌∙◌, append_assoc, append-nil, refl}
use Rattle.css_text.specs.Comments.{past_blank}
use Rattle.css_text.specs.ThisEdition.{this_edition}
use Rattle.simplecss_grammar.specs.Statements.{next_statement}
use Rattle.simplecss.specs.Hints.{hints, statement_hints}
use Rattle.simplecss.specs.HintViews.{hints_of}
use Rattle.simplecss.specs.StatementOffsets.{IsNextRange}
use Rattle.simplecss.proofs.HintLemmas.{hints_from, hints_from-some, hints_from-none, next-there}
use Rattle.simplecss.proofs.hints.find_hints.Goals as goal

pub statements-init : goal.statements-init
unfolding hints
statements-init c =
    let text = c.args.text.now in
    record {
      same = ap (λ (v : List ℕ × ℕ). v.0) c.new-reader.ensures;
      found = rw (c.new-reader.ensures, c.in_ok-push_mark.ensures, c.new-found.ensures.items) refl;
    }

pub statements-preserved : goal.statements-preserved
statements-preserved c =
    let text = c.args.text.now in
    let here = drop c.statements.reader.1 text in
    let had = hints_of c.statements.found.items in
    let whole : c.statements.reader.0 ≡ text = c.statements.invariant.same in
    let next = rw (c.in-Some.is, whole) at c.in_ok-next.ensures.ok in
    let range : IsNextRange text c.statements.reader.1 c.in-Some.start _ = next.0 in
    let read = next-there (next_statement this_edition here) _ range.ends in
    let step = hints_from-some this_edition here _ read.0 read.1 in
    let pushed = c.in_ok-push_statement-in-Some.ensures in
    record {
      same = c.in_ok-next.ensures.text ∙ whole;
      found = rw next.1 (
          ap (λ t. t ++ hints_from this_edition (drop c.in-Some.field-0-1 text))
          (pushed ∙ ap (λ (t : List ℕ). had ++ statement_hints this_edition t)
          (c.from_offset.ensures ∙ range.starts))
          ∙ append_assoc had (statement_hints this_edition (past_blank here))
          (hints_from this_edition (drop c.in-Some.field-0-1 text))
          ∙ ap (λ t. had ++ t) (sym step)
          ∙ c.statements.invariant.found);
    }

pub returns-in-None : goal.returns-in-None
returns-in-None c =
    let text = c.args.text.now in
    let here = drop c.statements.reader.1 text in
    let had = hints_of c.statements.found.items in
    let none : next_statement this_edition here ≡ _ =
    (rw (c.in-None.is, c.statements.invariant.same) at c.in_ok-next.ensures.ok).0 in
    sym (append-nil had) ∙ ap (λ t. had ++ t) (sym (hints_from-none this_edition here none))
    ∙ c.statements.invariant.found
