use Rattle.std.proofs.Common.{◌≡◌, ◌∙◌, sym, ap, arith, refl, length}
use Rattle.std.proofs.lemmas.List.{nil_from_length, append-nil}
use Rattle.css_sheet.specs.ReaderViews.{level_of}
use Rattle.css_sheet.proofs.SheetSteps.{texts, map-last}
use Rattle.css_sheet.proofs.state.SheetReader.leave.Goals as goal

pub returns-in-Some : goal.returns-in-Some
returns-in-Some c =
    let level = c.in-Some.level in
    record {
      level = level_of level;
      levels = ap texts c.in-Some.ensures.items ∙ map-last level_of c.pop.new.self.items level;
      text = refl;
      ends = refl;
    }

pub returns-in-None : goal.returns-in-None
returns-in-None c =
    let old = c.args.self.now.levels.items in
    let none : length old ≡ 0 = omega (arith, c.in-None.ensures.cases.0, c.args.self.now.levels.ok.0) in
    let same : c.pop.new.self.items ≡ old =
    sym (c.in-None.ensures.items ∙ append-nil c.pop.new.self.items) in
    (ap texts (nil_from_length old none), ap texts (same ∙ nil_from_length old none), refl, refl)
