use Rattle.std.proofs.Common.{◌-◌, ◌∙◌, ◌++◌, List, ap, map}
use Rattle.css_sheet.specs.SheetParts.{SheetPart}
use Rattle.css_sheet.specs.Said.{ends_of}
use Rattle.css_sheet.specs.ContentViews.{part_of}
use Rattle.css_sheet.proofs.SaidLemmas.{ends-left}
use Rattle.css_sheet.proofs.said.push_ends.Goals as goal

pub ends-preserved : goal.ends-preserved
ends-preserved c =
    ap (λ (ps : List SheetPart). ps ++ ends_of (c.ends.left - 1)) c.in_ok-append_part.ensures.parts
    ∙ ends-left (map part_of c.ends.parts.items) c.ends.left
    (map part_of c.args.parts.now.items ++ ends_of c.args.depth) c.ends-test.true c.ends.invariant
