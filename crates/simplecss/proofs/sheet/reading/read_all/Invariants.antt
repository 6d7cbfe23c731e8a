use Rattle.std.proofs.Common.{◌≡◌, ◌+◌, map, take, flat_map, IsUtf8}
use Rattle.std.specs.List.{filter, All}
use Rattle.css_text.specs.ThisEdition.{this_edition}
use Rattle.simplecss_grammar.specs.Statements.{has_declaration, kept}
use Rattle.simplecss.specs.RuleViews.{rules_of}
use Rattle.simplecss.specs.DeclarationCounts.{kept_in_all}
use Rattle.simplecss.specs.Readings.{are_open_comments, reports_of}
use Rattle.simplecss.proofs.sheet.reading.read_all.Given as goal

-- The rules so far are those of the first texts, and so is what was skipped. What is left of the
-- limit and the declarations of these texts are the limit.
abbrev pub invariant-loop-text : goal.invariant-loop-text
invariant-loop-text g l = record {
  rules : filter has_declaration (rules_of l.rules.items)
      ≡ flat_map (kept this_edition) (map (λ text. text.now) (take l.text-index l.texts));
  open_comments :
      l.open ≡ are_open_comments (map (λ text. text.now) (take l.text-index l.texts));
  left :
      l.left + kept_in_all this_edition (map (λ text. text.now) (take l.text-index l.texts)) ≡ l.most;
  utf8 : All (λ text. IsUtf8 text.now) (take l.text-index l.texts);
  reported : g.P.Report.state l.report
      ≡ reports_of g.P.Report.begun g.P.Report.add this_edition (g.P.Report.state l.initial.report)
      (map (λ text. text.now) (take l.text-index l.texts));
}
