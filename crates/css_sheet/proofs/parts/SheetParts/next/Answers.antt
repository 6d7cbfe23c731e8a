use Rattle.std.proofs.Common.{◌≡◌, length, map, arith, ap}
use Rattle.std.proofs.lemmas.List.{nil_from_length}
use Rattle.css_sheet.specs.GroupViews.{group_rule_of}
use Rattle.css_sheet.proofs.PartSteps.{none-given-ok}
use Rattle.css_sheet.proofs.parts.SheetParts.next.Goals as goal

pub returns-in-empty-clause-parts : goal.returns-in-empty-clause-parts
returns-in-empty-clause-parts g c = λ answers k.
    let old = c.args.self.now in
    let none : length old.given.now ≡ 0 = omega (arith, c.in-empty.len_below) in
    none-given-ok answers old c.read_next.new.self c.read_next.result
    (ap (map group_rule_of) (nil_from_length old.given.now none)) c.read_next.ensures.given
    (c.read_next.ensures.parts answers k)
