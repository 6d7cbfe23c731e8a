-- The language of an element that names none is its parent's.
-- Serves `Tree::language`.
use Rattle.std.proofs.Common.{◌≡◌, ℕ, List, None, Some, ap, ◌∙◌}
use Rattle.std.specs.Prelude.{codes}
use Rattle.std.specs.Option.{option_or}
use Rattle.css_matching.specs.ListTrees.{parent_by, with_those_after, ancestors, ancestors_step}
use Rattle.css_elements.specs.Rows.{Row}
use Rattle.css_elements.specs.TreeNodes.{named_parent, attribute_at, first_value, language_at}

pub language_at-parent : (rows : List Row) (i p : ℕ) → attribute_at rows i (codes "lang") ≡ None
    → parent_by (named_parent rows) i ≡ Some p → language_at rows i ≡ language_at rows p
language_at-parent rows i p none up =
    ap (λ r. option_or r (first_value rows (codes "lang") (ancestors (named_parent rows) i))) none
    ∙ ap (first_value rows (codes "lang")) (ancestors_step (named_parent rows) i
    ∙ ap (with_those_after (ancestors (named_parent rows))) up)
