use Rattle.std.proofs.Common.{◌<◌, [], sym, subst}
use Rattle.std.specs.List.{All}
use Rattle.css_tree.proofs.Numbering.{kinds_within}
use Rattle.css_tree.proofs.numbered_tree.NumberedTree.new.Goals as goal

pub new-requires-2-clause-within : goal.new-requires-2-clause-within
new-requires-2-clause-within c =
    subst (λ n. All (λ number. number < n) c.in_ok-kinds.kinds.items) (sym c.len-3.ensures)
    (kinds_within c.args.tree.now [] c.in_ok-kinds.kinds.items c.in_ok-kinds.ensures)
