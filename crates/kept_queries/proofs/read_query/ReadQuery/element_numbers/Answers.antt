use Rattle.std.proofs.Common.{ℕ, List, Option, map, ap, sym, subst, ◌∙◌}
use Rattle.std.specs.Borrow.{Bor}
use Rattle.call_answers.specs.Outcomes.{numbers_outcome}
use Rattle.css_tree.specs.TreeNumbers.{page_by}
use Rattle.css_tree.specs.declared.numbered_tree.tree_numbers.TreeNumbers.{TreeNumbers}
use Rattle.simplecss_calls.specs.Asked.{IsAskedOf}
use Rattle.kept_queries.specs.Queries.{AreElementNumbers, QueryText}
use Rattle.kept_queries.specs.ReadQueries.{query_text}
use Rattle.kept_queries.proofs.read_query.ReadQuery.element_numbers.Goals as goal

pub returns-clause-answer : goal.returns-clause-answer
returns-clause-answer c =
    let inside = c.self.inside in
    let asked = c.args.asked in
    let outcome = numbers_outcome c.numbers_on-numbers.result.1 in
    subst (λ (query : QueryText). AreElementNumbers asked query outcome)
    (ap (λ (n : Option TreeNumbers). query_text inside.kind inside.read n inside.rules inside.own)
    (sym c.in-Some.is ∙ c.replace.ensures.value) ∙ c.self.view_is)
    (subst (λ (own : List (Bor (List ℕ))). IsAskedOf asked.content asked.most asked.range inside.kind inside.rules.rules
    inside.rules.lists (map (λ text. text.now) own) (page_by inside.read.rows c.in-Some.numbers) outcome)
    c.deref.ensures.value c.numbers_on-numbers.ensures.answer)
