use Rattle.std.proofs.Common.{◌≡◌, ◌∙◌, Bool, List, not, map, ap, subst, rules}
use Rattle.css_selector_text.specs.NameViews.{names_of}
use Rattle.css_sheet.specs.declared.parts.OpenRule.{OpenRule}
use Rattle.css_sheet.specs.OpenParents.{ParentsText, after_part_of}
use Rattle.css_sheet.specs.ParentViews.{parents_of}
use Rattle.css_sheet.specs.internal.GatherViews.{counts_after}
use Rattle.css_sheet.specs.internal.OpenViews.{known_in, numbers_in, outermost_in, GoesOver, is_known_dropped}
use Rattle.css_sheet.specs.ContentViews.{part_of}
use Rattle.css_sheet.specs.internal.PartViews.{open_in, open_of}
use Rattle.css_sheet.proofs.GatherLemmas.{handed-error}
use Rattle.css_sheet.proofs.sheet_order.ReadRules.push_part.Goals as goal

pub returns-in_err-go_through-2-clause-many : goal.returns-in_err-go_through-2-clause-many
returns-in_err-go_through-2-clause-many c =
    let before = c.args.self.now in
    let part = part_of c.args.part.now in
    let reader = c.args.reader.now in
    let counts : not c.is_known_dropped-counts.result ≡ counts_after before part reader =
    ap not (c.is_known_dropped-counts.ensures
    ∙ ap (λ (p : ParentsText). is_known_dropped p.innermost) (c.in_ok-go_through.ensures
    ∙ ap (λ (rs : List OpenRule). after_part_of (names_of reader.names.now) (parents_of before.parents) part (map open_of rs))
    c.deref.ensures.value)) in
    let Over = GoesOver (outermost_in before.opened) (known_in before.opened) (numbers_in before.opened) in
    handed-error (Over (counts_after before part reader) part (open_in reader)) _ _ (search rules)
    (λ over. subst (λ (t : Bool). Over t part (open_in reader)) counts
    (subst (λ (rs : List OpenRule). Over (not c.is_known_dropped-counts.result) part (map open_of rs))
    c.deref-2.ensures.value (c.in_err-go_through-2.ensures.many over)))
