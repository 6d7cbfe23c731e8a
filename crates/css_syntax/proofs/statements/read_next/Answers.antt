use Rattle.std.proofs.Common.{List, ℕ, ap, subst}
use Rattle.css_text.specs.Reading.{Ends}
use Rattle.css_syntax.specs.Statements.{StatementText}
use Rattle.css_syntax.proofs.ItemLemmas.{statement-ends}
use Rattle.css_syntax.proofs.statements.read_next.Goals as goal

pub front-requires : goal.front-requires
front-requires c =
    let start = c.past_between-from.result.now in
    subst (λ (r : List ℕ). Ends start r)
    (ap (λ (found : StatementText × List ℕ). found.1) c.read_statement-found.ensures.read)
    (statement-ends c.args.in_block start)
