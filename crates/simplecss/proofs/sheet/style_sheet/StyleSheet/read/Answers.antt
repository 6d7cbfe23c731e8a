use Rattle.std.proofs.Common.{◌≡◌, ◌<◌, ℕ, List, ap, sym, map, refl, IsUtf8}
use Rattle.std.proofs.lemmas.List.Elements.{All-map}
use Rattle.css_text.specs.ThisEdition.{this_edition}
use Rattle.simplecss.specs.RuleViews.{rules_of}
use Rattle.simplecss.specs.DeclarationCounts.{kept_in_all}
use Rattle.css_text.specs.declared.sheet_error.SheetError.TheVariants.{TooManyDeclarations, Memory}
use Rattle.simplecss.proofs.Reports.{passed_on}
use Rattle.simplecss.proofs.ReadFacts.{into, into_none, reads-ok, reads-err}
use Rattle.simplecss.proofs.sheet.style_sheet.StyleSheet.read.Goals as goal
use Rattle.simplecss.proofs.sheet.style_sheet.StyleSheet.read.Goals.{in-Some+in_ok-merge-in-Some, in-None}

pub returns-in_err-more : goal.returns-in_err-more
returns-in_err-more g c =
    let texts : List (List ℕ) = map (λ text. text.now) c.args.texts.now in
    reads-err this_edition g.P.Report.begun g.P.Report.add (rules_of c.args.self.now.rules.items) texts
    c.args.how.most (g.P.Report.state c.args.how.report.now)
    (rules_of c.args.self.now.rules.items) (g.P.Report.state c.read_all.new.report)
    c.from_residual.result c.from_residual.ensures.0
    (passed_on
    (λ error. error ≡ TooManyDeclarations → c.args.how.most < kept_in_all this_edition texts)
    c.from_residual.result c.in_err-more.field-0.0 c.from_residual.ensures.1
    c.in_err-more.ensures.refused)
    refl

pub returns-in_err-merge-in-Some : goal.returns-in_err-merge-in-Some
returns-in_err-merge-in-Some g c =
    let texts : List (List ℕ) = map (λ text. text.now) c.args.texts.now in
    reads-err this_edition g.P.Report.begun g.P.Report.add (rules_of c.args.self.now.rules.items) texts
    c.args.how.most (g.P.Report.state c.args.how.report.now)
    (rules_of c.merge.new.rules.items) (g.P.Report.state c.read_all.new.report)
    c.from_residual-in_err-merge-in-Some.result c.from_residual-in_err-merge-in-Some.ensures.0
    (passed_on
    (λ error. error ≡ TooManyDeclarations → c.args.how.most < kept_in_all this_edition texts)
    c.from_residual-in_err-merge-in-Some.result Memory
    c.from_residual-in_err-merge-in-Some.ensures.1 (λ is. absurd (cc)))
    (ap rules_of c.in_err-merge-in-Some.ensures.err)

pub returns : goal.returns
returns g c =
    let texts : List (List ℕ) = map (λ text. text.now) c.args.texts.now in
    let old = rules_of c.args.self.now.rules.items in
    let u = All-map IsUtf8 (λ text. text.now) c.args.texts.now (c.in_ok-more.ensures.utf8 refl) in
    elim c.match-branch-2.branch [
      | in-Some+in_ok-merge-in-Some w ↦ rw w.result-is (rw w.self-is
          (reads-ok this_edition g.P.Report.begun g.P.Report.add old texts c.args.how.most
          (g.P.Report.state c.args.how.report.now) (rules_of w.merge.new.rules.items)
          (g.P.Report.state c.read_all.new.report) tt c.in_ok-more.ensures.within u
          (into this_edition old texts (rules_of w.in-Some.more.items)
          (rules_of w.merge.new.rules.items)
          (rw w.in-Some.is at c.in_ok-more.ensures.rules) w.in_ok-merge-in-Some.ensures.ok)
          c.in_ok-more.ensures.reported))
      | in-None w ↦ rw w.result-is (rw w.self-is
          (reads-ok this_edition g.P.Report.begun g.P.Report.add old texts c.args.how.most
          (g.P.Report.state c.args.how.report.now) old
          (g.P.Report.state c.read_all.new.report) tt c.in_ok-more.ensures.within u
          (sym (into_none this_edition old texts (rw w.in-None.is at c.in_ok-more.ensures.rules)))
          c.in_ok-more.ensures.reported))
    ]
