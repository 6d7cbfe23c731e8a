use Rattle.std.proofs.Common.{◌≡◌, length}
use Rattle.css_conditions.specs.Media.{some_query, whole_query}
use Rattle.css_conditions.proofs.media.media_says.Given as goal

abbrev pub invariant-queries : goal.invariant-queries
invariant-queries g l =
    some_query (g.F.Features.type_holds l.features) (g.F.Features.says l.features) l.left
    (l.last.truth, l.last.rest.now)
    ≡ some_query (g.F.Features.type_holds l.features) (g.F.Features.says l.features) (length l.text)
    (whole_query (g.F.Features.type_holds l.features) (g.F.Features.says l.features) l.text)

abbrev pub decreases-queries : goal.decreases-queries
decreases-queries g l = l.left
