use Rattle.std.proofs.Common.{List, ℕ, ap, subst}
use Rattle.css_text.specs.Reading.{Ends}
use Rattle.css_syntax.specs.DeclarationLists.{ItemText}
use Rattle.css_syntax.proofs.ItemLemmas.{item-ends}
use Rattle.css_syntax.proofs.declarations.read_part.Goals as goal

pub front-requires : goal.front-requires
front-requires c =
    let start = c.past_separators-from.result.now in
    subst (λ (r : List ℕ). Ends start r)
    (ap (λ (found : ItemText × List ℕ). found.1) c.read_item-read.ensures.read)
    (item-ends c.args.in_block start)
