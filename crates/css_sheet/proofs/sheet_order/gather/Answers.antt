use Rattle.std.proofs.Common.{◌≡◌, List, ap, subst, length, map, arith, rules}
use Rattle.std.proofs.lemmas.List.{nil_from_length}
use Rattle.css_cascade.specs.Layers.{outermost_number}
use Rattle.css_selector_text.specs.NameViews.{names_of}
use Rattle.css_sheet.specs.declared.sheet_rules.Sheet.{Sheet}
use Rattle.css_sheet.specs.Namespaces.{sheet_names}
use Rattle.css_sheet.specs.SheetLayers.{sheet_layers}
use Rattle.css_sheet.specs.SheetRuleViews.{sheet_of}
use Rattle.css_sheet.specs.internal.GatherViews.{Awaits}
use Rattle.css_sheet.specs.internal.OpenViews.{AreMany}
use Rattle.css_sheet.proofs.GatherLemmas.{awaits-all, counted-next, handed-error, stopped-all, sheets-first, sheets_left}
use Rattle.css_sheet.proofs.NamespaceLemmas.{alike-next}
use Rattle.css_sheet.proofs.sheet_order.gather.Goals as goal

pub sheets-preserved : goal.sheets-preserved
sheets-preserved g c =
    let rest = c.sheets.rest.now in
    let some = c.in-len1-up.len_at_least in
    record {
      counted =
          counted-next c.sheets.number (length c.args.sheets.now) rest some c.sheets.invariant.counted;
      awaits = λ answers k.
          let sheets = map sheet_of c.args.sheets.now in
          c.in_ok-push_sheet.ensures.awaits answers k sheets c.args.most _
          (ap outermost_number c.origin_at-origin.ensures)
          (sheets-first answers sheets c.args.most c.sheets.read c.sheets.number rest _ some
          (c.sheets.invariant.awaits answers k));
      few = c.in_ok-push_sheet.ensures.few c.sheets.invariant.few;
      named =
          alike-next names_of (λ sheet. sheet_names (sheet_of sheet)) c.sheets.declared.now rest
          c.in-len1-up-declared.len_at_least some c.sheets.invariant.named;
    }

pub returns-in_err-push_sheet-clause-gathers : goal.returns-in_err-push_sheet-clause-gathers
returns-in_err-push_sheet-clause-gathers g c = λ answers k.
    let sheets = map sheet_of c.args.sheets.now in
    stopped-all c.args.most answers sheets _ _ (search rules)
    (c.in_err-push_sheet.ensures.awaits answers k sheets c.args.most _
    (ap outermost_number c.origin_at-origin.ensures)
    (sheets-first answers sheets c.args.most c.sheets.read c.sheets.number c.sheets.rest.now _
    c.in-len1-up.len_at_least (c.sheets.invariant.awaits answers k)))

pub returns-clause-gathers : goal.returns-clause-gathers
returns-clause-gathers g c = λ answers k.
    let rest = c.sheets.rest.now in
    let none : length rest ≡ 0 = omega (arith, c.in_default.len_below) in
    let sheets = map sheet_of c.args.sheets.now in
    awaits-all answers sheets c.args.most c.sheets.read
    (subst (λ (left : List Sheet). Awaits answers sheets c.args.most c.sheets.read
    (sheets_left answers c.sheets.number left))
    (nil_from_length rest none) (c.sheets.invariant.awaits answers k))

pub returns-in_err-push_sheet-clause-many : goal.returns-in_err-push_sheet-clause-many
returns-in_err-push_sheet-clause-many g c = λ answers k.
    let sheets = map sheet_of c.args.sheets.now in
    handed-error (AreMany (sheet_layers answers sheets)) _ _ (search rules)
    (c.in_err-push_sheet.ensures.many answers k sheets c.args.most _
    (ap outermost_number c.origin_at-origin.ensures)
    (sheets-first answers sheets c.args.most c.sheets.read c.sheets.number c.sheets.rest.now _
    c.in-len1-up.len_at_least (c.sheets.invariant.awaits answers k)))
