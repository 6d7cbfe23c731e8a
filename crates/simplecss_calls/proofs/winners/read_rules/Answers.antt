use Rattle.std.proofs.Common.{Bor, List, ℕ, ◌≡◌, ◌<◌, ◌≤◌, map, subst}
use Rattle.css_sheet.specs.declared.sheet_error.SheetError.TheVariants.{TooManyDeclarations, TooManyLayers}
use Rattle.css_sheet.specs.declared.sheet_rules.Sheet.{Sheet}
use Rattle.css_cascade.specs.Layers.{most_layers}
use Rattle.css_sheet.specs.SheetRuleViews.{sheet_of}
use Rattle.simplecss_calls.specs.WinnerNumbers.{AreRules, FailsBeside, held_declarations, held_layers, held_rules, sheets_of}
use Rattle.call_answers.proofs.Handing.{handed-match}
use Rattle.simplecss_calls.proofs.WinnerCalls.{are-sheets, texts-beside, groups-beside, spaces-beside, memory-beside, rules-beside}
use Rattle.simplecss_calls.proofs.winners.read_rules.Goals as goal

pub returns-in_err-texts : goal.returns-in_err-texts
returns-in_err-texts c =
    let sheets = sheets_of c.args.sheets in
    let error = c.in_err-texts.field-0.0 in
    handed-match (λ read. AreRules sheets c.args.limit read.rules read.lists)
    (FailsBeside sheets c.args.limit ⊥ (λ fault. ⊥) ⊥ ⊥) c.from_residual.result error
    c.from_residual.ensures.1
    (texts-beside sheets c.args.limit ⊥ (λ fault. ⊥) ⊥ ⊥ error c.in_err-texts.ensures)

pub returns-in_err-groups : goal.returns-in_err-groups
returns-in_err-groups c =
    let sheets = sheets_of c.args.sheets in
    let error = c.in_err-groups.field-0.0 in
    handed-match (λ read. AreRules sheets c.args.limit read.rules read.lists)
    (FailsBeside sheets c.args.limit ⊥ (λ fault. ⊥) ⊥ ⊥) c.from_residual-in_err-groups.result error
    c.from_residual-in_err-groups.ensures.1
    (groups-beside sheets c.args.limit ⊥ (λ fault. ⊥) ⊥ ⊥ error c.in_err-groups.ensures)

pub returns-in_err-namespaces : goal.returns-in_err-namespaces
returns-in_err-namespaces c =
    let sheets = sheets_of c.args.sheets in
    let error = c.in_err-namespaces.field-0.0 in
    handed-match (λ read. AreRules sheets c.args.limit read.rules read.lists)
    (FailsBeside sheets c.args.limit ⊥ (λ fault. ⊥) ⊥ ⊥) c.from_residual-in_err-namespaces.result error
    c.from_residual-in_err-namespaces.ensures.1
    (spaces-beside sheets c.args.limit ⊥ (λ fault. ⊥) ⊥ ⊥ error c.in_err-namespaces.ensures)

pub returns-in_err-placed : goal.returns-in_err-placed
returns-in_err-placed c =
    memory-beside (λ read. AreRules (sheets_of c.args.sheets) c.args.limit read.rules read.lists)
    (sheets_of c.args.sheets) c.args.limit c.from_residual-in_err-placed.result
    c.from_residual-in_err-placed.ensures.1

pub returns-in_err-rules : goal.returns-in_err-rules
returns-in_err-rules c =
    let passed = sheets_of c.args.sheets in
    let error = c.in_err-rules.field-0.0 in
    let groups = map (λ (text : Bor (List ℕ)). text.now) c.in_ok-groups.groups.items in
    let sheets = map sheet_of c.in_ok-placed.placed.items in
    let are =
    are-sheets passed c.in_ok-texts.texts.items c.deref-4.result.now c.in_ok-groups.groups.items
    c.deref.result.now c.in_ok-namespaces.namespaces.items c.deref-3.result.now c.in_ok-around.around.items
    c.deref-2.result.now c.in_ok-placed.placed.items
    c.in_ok-texts.ensures c.in_ok-groups.ensures c.in_ok-namespaces.ensures c.deref-4.ensures.value
    c.deref.ensures.value c.deref-2.ensures.value c.deref-3.ensures.value c.in_ok-around.ensures
    c.in_ok-placed.ensures in
    rules-beside (λ read. AreRules passed c.args.limit read.rules read.lists) passed c.args.limit sheets groups are
    c.from_residual-in_err-rules.result error c.from_residual-in_err-rules.ensures.1
    (subst (λ (gs : List (Bor (List ℕ))). error ≡ TooManyDeclarations
    → c.args.limit < held_declarations sheets (map (λ g. g.now) gs)) c.deref-6.ensures.value
    (subst (λ (ss : List Sheet). error ≡ TooManyDeclarations
    → c.args.limit < held_declarations (map sheet_of ss)
    (map (λ g. g.now) c.deref-6.result.now)) c.deref-5.ensures.value c.in_err-rules.ensures.refused))
    (subst (λ (gs : List (Bor (List ℕ))). error ≡ TooManyLayers
    → most_layers < held_layers sheets (map (λ g. g.now) gs)) c.deref-6.ensures.value
    (subst (λ (ss : List Sheet). error ≡ TooManyLayers
    → most_layers < held_layers (map sheet_of ss)
    (map (λ g. g.now) c.deref-6.result.now)) c.deref-5.ensures.value
    c.in_err-rules.ensures.layers_refused))

pub returns : goal.returns
returns c =
    let passed = sheets_of c.args.sheets in
    let read = c.in_ok-rules.rules in
    let groups = map (λ (text : Bor (List ℕ)). text.now) c.in_ok-groups.groups.items in
    let sheets = map sheet_of c.in_ok-placed.placed.items in
    let are =
    are-sheets passed c.in_ok-texts.texts.items c.deref-4.result.now c.in_ok-groups.groups.items
    c.deref.result.now c.in_ok-namespaces.namespaces.items c.deref-3.result.now c.in_ok-around.around.items
    c.deref-2.result.now c.in_ok-placed.placed.items
    c.in_ok-texts.ensures c.in_ok-groups.ensures c.in_ok-namespaces.ensures c.deref-4.ensures.value
    c.deref.ensures.value c.deref-2.ensures.value c.deref-3.ensures.value c.in_ok-around.ensures
    c.in_ok-placed.ensures in (
      sheets,
      groups,
      are,
      subst (λ (gs : List (Bor (List ℕ))). held_declarations sheets (map (λ g. g.now) gs)
          ≤ c.args.limit) c.deref-6.ensures.value
          (subst (λ (ss : List Sheet). held_declarations (map sheet_of ss)
          (map (λ g. g.now) c.deref-6.result.now) ≤ c.args.limit) c.deref-5.ensures.value
          c.in_ok-rules.ensures.within),
      subst (λ (gs : List (Bor (List ℕ))). held_layers sheets (map (λ g. g.now) gs) ≤ most_layers)
          c.deref-6.ensures.value
          (subst (λ (ss : List Sheet). held_layers (map sheet_of ss)
          (map (λ g. g.now) c.deref-6.result.now) ≤ most_layers) c.deref-5.ensures.value
          c.in_ok-rules.ensures.layers_within),
      subst (λ (gs : List (Bor (List ℕ))). read.rules
          ≡ (held_rules sheets (map (λ g. g.now) gs)).0) c.deref-6.ensures.value
          (subst (λ (ss : List Sheet). read.rules
          ≡ (held_rules (map sheet_of ss) (map (λ g. g.now) c.deref-6.result.now)).0)
          c.deref-5.ensures.value c.in_ok-rules.ensures.rules),
      subst (λ (gs : List (Bor (List ℕ))). read.lists
          ≡ (held_rules sheets (map (λ g. g.now) gs)).1.lists) c.deref-6.ensures.value
          (subst (λ (ss : List Sheet). read.lists
          ≡ (held_rules (map sheet_of ss) (map (λ g. g.now) c.deref-6.result.now)).1.lists)
          c.deref-5.ensures.value c.in_ok-rules.ensures.lists),
    )
