use Rattle.std.proofs.Common.{◌≡◌, ◌∙◌, [], ℕ, List, length, map, sym, ap, rules}
use Rattle.std.proofs.lemmas.List.{length-map}
use Rattle.css_selector_text.specs.NameViews.{names_of}
use Rattle.css_sheet.specs.declared.parts.OpenRule.{OpenRule}
use Rattle.css_sheet.specs.GroupViews.{group_rule_of}
use Rattle.css_sheet.specs.SheetParts.{Source, parts_given}
use Rattle.css_sheet.specs.internal.PartViews.{open_of}
use Rattle.css_sheet.proofs.parts.SheetParts.new.Goals as goal

-- as many group rules are to begin as the sheet is in
pub returns-clause-parts : goal.returns-clause-parts
returns-clause-parts c = λ answers.
    let sheet = c.args.sheet.now in
    let source : ℕ → Source =
    λ depth. record {
      sheet = c.args.number;
      size = length sheet.text.now;
      depth = depth;
      names = names_of c.args.names.now;
    } in
    let none : c.new.result.items ≡ [] = search rules in
    ap (λ (items : List OpenRule). parts_given answers (source (length sheet.around.now)) (map open_of items)
    (map group_rule_of sheet.around.now) sheet.text.now) none
    ∙ ap (λ (depth : ℕ). parts_given answers (source depth) [] (map group_rule_of sheet.around.now)
    sheet.text.now) (sym (length-map sheet.around.now group_rule_of))
