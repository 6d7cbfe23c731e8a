use Rattle.std.proofs.Common.{◌∙◌, [], length, ap, subst, sym, rules, of_calls, Option, refl}
use Rattle.css_sheet.specs.declared.parts.Part.{Part}
use Rattle.css_sheet.specs.internal.PartViews.{GivesPart}
use Rattle.css_sheet.specs.SheetLayers.{sheet_layers, with_layers}
use Rattle.css_sheet.specs.internal.OpenViews.{AreFew, AreMany}
use Rattle.css_sheet.specs.Sheets.{outermost_at}
use Rattle.css_selector_text.specs.Names.{Names}
use Rattle.css_sheet.specs.SheetParts.{parts_given, sheet_parts}
use Rattle.css_sheet.specs.SheetRuleViews.{sheet_of}
use Rattle.css_sheet.proofs.GatherLemmas.{handed-error, reads-many, reads-none, reads-part, reads-over, reads-all, stopped-sheet}
use Rattle.css_sheet.proofs.sheet_order.ReadRules.push_sheet.Goals as goal

pub parts-init : goal.parts-init
parts-init g c = record {
  reads = λ answers k sheets most more same awaits.
      reads-none answers sheets most more c.args.self.now
      (record {
        gathered = c.args.self.now.gathered;
        opened = c.begin_sheet.new.self;
        parents = c.args.self.now.parents;
      })
      c.new-reader.result (sheet_parts (with_layers answers) c.args.number (sheet_of c.args.sheet.now))
      (c.begin_sheet.ensures.outermost ∙ c.outermost.ensures ∙ same
      ∙ ap (outermost_at sheets) (sym c.new-reader.ensures.sheet))
      c.begin_sheet.ensures.known c.begin_sheet.ensures.numbers refl refl c.new-reader.ensures.open
      (c.new-reader.ensures.parts (with_layers answers)
      ∙ ap (λ (names : Names). parts_given (with_layers answers) (record {
        sheet = c.args.number;
        size = length c.args.sheet.now.text.now;
        depth = length (sheet_of c.args.sheet.now).around;
        names = names;
      }) [] (sheet_of c.args.sheet.now).around c.args.sheet.now.text.now) c.requires.names) awaits;
  few = subst AreFew (sym c.begin_sheet.ensures.known);
}

pub parts-preserved : goal.parts-preserved
parts-preserved g c = record {
  reads = λ answers k sheets most more same awaits.
      let before = c.parts.reader in
      let now = c.next.new.self in
      let part = c.in-Some.part in
      let gives = subst (λ (o : Option Part). GivesPart (with_layers answers) before o now) c.in-Some.is
      (c.in_ok-part.ensures.parts (with_layers answers) (λ n p a w. search (rules, of_calls))) in
      let pushed = c.in_ok-push_part-in-Some.ensures.pushes in
      reads-part answers sheets most more c.parts.self c.push_part.new.self before now part
      (c.parts.invariant.reads answers k sheets most more same awaits) gives pushed.0 pushed.1 pushed.2 pushed.3;
  few = λ few. c.in_ok-push_part-in-Some.ensures.few (c.parts.invariant.few few);
}

pub returns-in_err-push_part-in-Some-clause-awaits : goal.returns-in_err-push_part-in-Some-clause-awaits
returns-in_err-push_part-in-Some-clause-awaits g c = λ answers k sheets most more same awaits.
    let before = c.parts.reader in
    let now = c.next.new.self in
    let part = c.in-Some.part in
    let gives = subst (λ (o : Option Part). GivesPart (with_layers answers) before o now) c.in-Some.is
    (c.in_ok-part.ensures.parts (with_layers answers) (λ n p a w. search (rules, of_calls))) in
    stopped-sheet answers sheets most _ _ _ more (search rules)
    (λ over. reads-over answers sheets most more c.parts.self c.push_part.new.self before now part
    (c.parts.invariant.reads answers k sheets most more same awaits) gives
    (c.in_err-push_part-in-Some.ensures.pushes over).0 (c.in_err-push_part-in-Some.ensures.pushes over).1
    (c.in_err-push_part-in-Some.ensures.pushes over).2)

pub returns-in-None-clause-awaits : goal.returns-in-None-clause-awaits
returns-in-None-clause-awaits g c = λ answers k sheets most more same awaits.
    reads-all answers sheets most more c.parts.self c.parts.reader
    (c.parts.invariant.reads answers k sheets most more same awaits)
    (subst (λ (o : Option Part). GivesPart (with_layers answers) c.parts.reader o c.next.new.self)
    c.in-None.is
    (c.in_ok-part.ensures.parts (with_layers answers) (λ n p a w. search (rules, of_calls))))

pub returns-in_err-push_part-in-Some-clause-many : goal.returns-in_err-push_part-in-Some-clause-many
returns-in_err-push_part-in-Some-clause-many g c = λ answers k sheets most more same awaits.
    let before = c.parts.reader in
    let now = c.next.new.self in
    let part = c.in-Some.part in
    let gives = subst (λ (o : Option Part). GivesPart (with_layers answers) before o now) c.in-Some.is
    (c.in_ok-part.ensures.parts (with_layers answers) (λ n p a w. search (rules, of_calls))) in
    handed-error (AreMany (sheet_layers answers sheets)) _ _ (search rules)
    (λ over. reads-many answers sheets most more c.parts.self before now part
    (c.parts.invariant.reads answers k sheets most more same awaits) gives
    (c.in_err-push_part-in-Some.ensures.many over))
