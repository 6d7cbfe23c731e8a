-- What the calls for the cascade answer, and why they fail.
-- Serves `winners::read_rules`, `element_numbers::asked_numbers` and `rule_texts::rule_texts`.
use Rattle.std.proofs.Common.{Bor, ◌≡◌, ℕ, ◌<◌, ◌≤◌, List, Some, None, inl, inr, refl, sym, ap, ◌∙◌, length, map, string_bytes, subst}
use Rattle.std.specs.Prelude.{Result, Ok, Err, MatchResult, Vec, ◌⊎◌}
use Rattle.std.specs.Result.{IsErrAnd}
use Rattle.css_cascade.specs.Layers.{most_layers}
use Rattle.css_selectors.specs.MarkedLists.{ListText}
use Rattle.css_sheet.specs.SheetOrder.{SheetRuleText}
use Rattle.css_sheet.specs.GroupViews.{group_rule_of}
use Rattle.css_sheet.specs.SheetRuleViews.{sheet_of}
use Rattle.css_sheet.specs.Sheets.{GroupRuleText, SheetText}
use Rattle.css_sheet.specs.declared.sheet_error.SheetError.{SheetError}
use Rattle.css_sheet.specs.declared.sheet_rules.GroupRule.{GroupRule}
use Rattle.css_sheet.specs.declared.sheet_rules.Sheet.{Sheet}
use Rattle.css_sheet.specs.declared.sheet_error.SheetError.TheVariants as sheet
use Rattle.css_tree.specs.Pages.{Page}
use Rattle.call_answers.specs.declared.answer.CallError.{CallError}
use Rattle.call_answers.specs.declared.answer.CallError.TheVariants.{Refused, Tree, Memory, TooManyDeclarations, NotUtf8, AnswerTooLong, TooManyLayers}
use Rattle.simplecss_calls.specs.declared.contents.ElementContent.{ElementContent}
use Rattle.call_answers.specs.declared.elements.ElementFault.{ElementFault}
use Rattle.page_calls.specs.declared.modern.document_kind.DocumentKind.{DocumentKind}
use Rattle.call_answers.specs.Calls.{FailsFor, FailsLonger, FailsWithin, HasBadEnds, HasTexts, IsBrokenUtf8}
use Rattle.page_calls.specs.MarkedPages.{AreOnMarked}
use Rattle.page_calls.specs.declared.modern.ranges.ElementRange.{ElementRange}
use Rattle.std.specs.declared.string.String.{String}
use Rattle.call_answers.specs.Outcomes.{numbers_outcome, outcome_of}
use Rattle.simplecss_calls.specs.RuleTexts.{rule_texts, AreRuleTexts}
use Rattle.page_calls.specs.Readings.{selector_as}
use Rattle.simplecss_calls.specs.Asked.{ContentText, AreNumbers, HasBadContent, IsAskedOf, IsBrokenContent, IsContent}
use Rattle.simplecss_calls.specs.WinnerNumbers.{PassedSheets, AreSheets, FailsBeside, HasBadBeside, IsBrokenBeside, group_rule_at, sheets_with, AreBeyond, AreRules, held_declarations, held_layers}
use Rattle.call_answers.specs.Failures.{unread}
use Rattle.call_answers.proofs.Limits.{fails_within, within_wider, longer_wider}

-- the sheets that are made of texts and of group rules that were read, each of which was borrowed
pub are-sheets : (passed : PassedSheets)
    (texts lent_texts groups lent_groups urls lent_urls : List (Bor (List ℕ)))
    (rules lent_rules : List GroupRule) (sheets : List Sheet)
    → HasTexts passed.texts passed.ends (map (λ t. t.now) texts)
    → HasTexts passed.groups passed.group_ends (map (λ t. t.now) groups)
    → HasTexts passed.namespaces passed.namespace_ends (map (λ t. t.now) urls)
    → lent_texts ≡ texts → lent_groups ≡ groups → lent_rules ≡ rules → lent_urls ≡ urls
    → map group_rule_of rules ≡ map (group_rule_at (map (λ t. t.now) lent_groups)) passed.around
    → map sheet_of sheets
    ≡ sheets_with passed.origins passed.depths (map group_rule_of lent_rules) (map (λ t. t.now) lent_urls)
    (map (λ t. t.now) lent_texts)
    → AreSheets passed (map sheet_of sheets) (map (λ t. t.now) groups)
are-sheets passed texts lent_texts groups lent_groups urls lent_urls rules lent_rules sheets has held spaces
    st sg sr su e f = (
      map (λ t. t.now) texts,
      map (λ t. t.now) urls,
      record { sheets = has; held = held; spaces = spaces },
      f ∙ ap (λ (rs : List GroupRule). sheets_with passed.origins passed.depths (map group_rule_of rs)
          (map (λ t. t.now) lent_urls) (map (λ t. t.now) lent_texts)) sr
          ∙ ap (λ (us : List (Bor (List ℕ))). sheets_with passed.origins passed.depths (map group_rule_of rules)
          (map (λ t. t.now) us) (map (λ t. t.now) lent_texts)) su
          ∙ ap (λ (ts : List (Bor (List ℕ))). sheets_with passed.origins passed.depths (map group_rule_of rules)
          (map (λ t. t.now) urls) (map (λ t. t.now) ts)) st
          ∙ ap (λ (rs : List GroupRuleText). sheets_with passed.origins passed.depths rs (map (λ t. t.now) urls)
          (map (λ t. t.now) texts))
          (e ∙ ap (λ (gs : List (Bor (List ℕ))). map (group_rule_at (map (λ g. g.now) gs)) passed.around) sg),
    )

none-more : {A B C D : Type 0} → A ⊎ (B ⊎ (D ⊎ ⊥)) → A ⊎ (B ⊎ (D ⊎ C))
none-more (inl first) = inl first
none-more (inr (inl second)) = inr (inl second)
none-more (inr (inr (inl third))) = inr (inr (inl third))
none-more (inr (inr (inr is))) = absurd is

module _ (sheets : PassedSheets) (limit : ℕ) (R : Type 0) (F : ElementFault → Type 0) (B L : Type 0)
  where
    -- a failure that is not about layers
    beside : (error : CallError)
        → FailsWithin (HasBadEnds sheets.texts sheets.ends ⊎ HasBadBeside sheets R)
        F (IsBrokenUtf8 sheets.texts sheets.ends ⊎ IsBrokenBeside sheets B) (AreBeyond sheets limit) L error
        → FailsBeside sheets limit R F B L error
    beside Refused h = h
    beside (Tree fault) h = h
    beside Memory h = h
    beside TooManyDeclarations h = h
    beside NotUtf8 h = h
    beside AnswerTooLong h = h
    beside TooManyLayers h = absurd h

    -- the texts of sheets are none
    pub texts-beside : (error : CallError)
        → FailsFor (HasBadEnds sheets.texts sheets.ends) (λ fault. ⊥)
        (IsBrokenUtf8 sheets.texts sheets.ends) error
        → FailsBeside sheets limit R F B L error
    texts-beside error h =
        beside error
        (within_wider (λ bad. inl bad) (λ fault is. absurd is) (λ broken. inl broken)
        (λ is. absurd is) (λ is. absurd is) error
        (fails_within (HasBadEnds sheets.texts sheets.ends) (λ fault. ⊥)
        (IsBrokenUtf8 sheets.texts sheets.ends) ⊥ ⊥ error h))

    -- those of group rules are none
    pub groups-beside : (error : CallError)
        → FailsFor (HasBadEnds sheets.groups sheets.group_ends) (λ fault. ⊥)
        (IsBrokenUtf8 sheets.groups sheets.group_ends) error
        → FailsBeside sheets limit R F B L error
    groups-beside error h =
        beside error
        (within_wider (λ bad. inr (inl bad)) (λ fault is. absurd is) (λ broken. inr (inl broken))
        (λ is. absurd is) (λ is. absurd is) error
        (fails_within (HasBadEnds sheets.groups sheets.group_ends) (λ fault. ⊥)
        (IsBrokenUtf8 sheets.groups sheets.group_ends) ⊥ ⊥ error h))

    -- those of namespaces are none
    pub spaces-beside : (error : CallError)
        → FailsFor (HasBadEnds sheets.namespaces sheets.namespace_ends) (λ fault. ⊥)
        (IsBrokenUtf8 sheets.namespaces sheets.namespace_ends) error
        → FailsBeside sheets limit R F B L error
    spaces-beside error h =
        beside error
        (within_wider (λ bad. inr (inr (inl bad))) (λ fault is. absurd is)
        (λ broken. inr (inr (inl broken))) (λ is. absurd is) (λ is. absurd is) error
        (fails_within (HasBadEnds sheets.namespaces sheets.namespace_ends) (λ fault. ⊥)
        (IsBrokenUtf8 sheets.namespaces sheets.namespace_ends) ⊥ ⊥ error h))

    -- other texts are none
    pub content-beside : (B' : Type 0) → (B' → B) → (error : CallError) → FailsFor R (λ fault. ⊥) B' error
        → FailsBeside sheets limit R F B L error
    content-beside B' more error h =
        beside error
        (within_wider (λ bad. inr (inr (inr bad))) (λ fault is. absurd is)
        (λ broken. inr (inr (inr (more broken)))) (λ is. absurd is) (λ is. absurd is) error
        (fails_within R (λ fault. ⊥) B' ⊥ ⊥ error h))

    -- the tree is none
    pub tree-beside : (B' : Type 0) → (B' → B) → (error : CallError) → FailsFor ⊥ F B' error
        → FailsBeside sheets limit R F B L error
    tree-beside B' more error h =
        beside error
        (within_wider (λ is. absurd is) (λ fault is. is) (λ broken. inr (inr (inr (more broken))))
        (λ is. absurd is) (λ is. absurd is) error (fails_within ⊥ F B' ⊥ ⊥ error h))

    -- the answer is too long
    pub longer-beside : (error : CallError) → FailsLonger L error
        → FailsBeside sheets limit R F B L error
    longer-beside error h = beside error (longer_wider _ _ _ _ (λ longer. longer) error h)

    -- the sheets are not read
    pub sheets-beside : (error : CallError) → FailsBeside sheets limit ⊥ (λ fault. ⊥) ⊥ ⊥ error
        → FailsBeside sheets limit R F B L error
    sheets-beside Refused h = none-more h
    sheets-beside (Tree fault) h = absurd h
    sheets-beside Memory h = h
    sheets-beside TooManyDeclarations h = h
    sheets-beside NotUtf8 h = none-more h
    sheets-beside AnswerTooLong h = absurd h
    sheets-beside TooManyLayers h = h

-- an allocation failed
pub memory-beside : {V : Type 0} (P : V → Type 0) (sheets : PassedSheets) (limit : ℕ)
    (r : Result V CallError) → IsErrAnd r (λ failure. failure ≡ Memory)
    → MatchResult r P (FailsBeside sheets limit ⊥ (λ fault. ⊥) ⊥ ⊥)
memory-beside P sheets limit (Ok x) is = absurd is
memory-beside P sheets limit (Err failure) is =
    subst (FailsBeside sheets limit ⊥ (λ fault. ⊥) ⊥ ⊥) (sym is) tt

-- there are too many declarations or layers, or an allocation failed
pub rules-beside : {V : Type 0} (P : V → Type 0) (passed : PassedSheets) (limit : ℕ)
    (sheets : List SheetText) (groups : List (List ℕ)) → AreSheets passed sheets groups
    → (r : Result V CallError) (error : SheetError) → IsErrAnd r (λ failure. failure ≡ unread error)
    → (error ≡ sheet.TooManyDeclarations → limit < held_declarations sheets groups)
    → (error ≡ sheet.TooManyLayers → most_layers < held_layers sheets groups)
    → MatchResult r P (FailsBeside passed limit ⊥ (λ fault. ⊥) ⊥ ⊥)
rules-beside P passed limit sheets groups are (Ok x) error is over many = absurd is
rules-beside P passed limit sheets groups are (Err failure) sheet.TooManyDeclarations is over many =
    subst (FailsBeside passed limit ⊥ (λ fault. ⊥) ⊥ ⊥) (sym is) (sheets, groups, are, over refl)
rules-beside P passed limit sheets groups are (Err failure) sheet.TooManyLayers is over many =
    subst (FailsBeside passed limit ⊥ (λ fault. ⊥) ⊥ ⊥) (sym is) (sheets, groups, are, many refl)
rules-beside P passed limit sheets groups are (Err failure) sheet.Memory is over many =
    subst (FailsBeside passed limit ⊥ (λ fault. ⊥) ⊥ ⊥) (sym is) tt

-- the numbers that are due for what is asked
pub asked-due : {Z : Type 0} (asked : ElementContent) (content : ContentText) (most : ℕ) (range : ElementRange)
    (kind : DocumentKind) (rules : List SheetRuleText) (lists : List ListText) (texts : List (List ℕ)) (page : Page)
    → IsContent asked content → (r : Result (Vec ℕ Z) CallError)
    → MatchResult r
    (λ out. AreOnMarked most kind lists page (AreNumbers content texts most range (selector_as kind) rules) (Some out.items))
    (FailsLonger (AreOnMarked most kind lists page (AreNumbers content texts most range (selector_as kind) rules) None))
    → IsAskedOf asked most range kind rules lists texts page (numbers_outcome r)
asked-due asked content most range kind rules lists texts page asks (Ok out) due = (content, asks, due)
asked-due asked content most range kind rules lists texts page asks (Err error) due =
    longer_wider _ _ _ _ (λ longer. (content, asks, longer)) error due

-- why there are no names
pub asked-failed : {Z : Type 0} (asked : ElementContent) (most : ℕ) (range : ElementRange) (kind : DocumentKind)
    (rules : List SheetRuleText) (lists : List ListText) (texts : List (List ℕ)) (page : Page)
    (r : Result (Vec ℕ Z) CallError) (error : CallError) → IsErrAnd r (λ reported. reported ≡ error)
    → FailsFor (HasBadContent asked) (λ fault. ⊥) (IsBrokenContent asked) error
    → IsAskedOf asked most range kind rules lists texts page (numbers_outcome r)
asked-failed asked most range kind rules lists texts page (Ok numbers) error is h = absurd is
asked-failed asked most range kind rules lists texts page (Err reported) error is h =
    subst (λ e. IsAskedOf asked most range kind rules lists texts page (Err e)) (sym is)
    (within_wider (λ bad. bad) (λ fault is. absurd is) (λ broken. broken) (λ is. absurd is) (λ is. absurd is) error
    (fails_within (HasBadContent asked) (λ fault. ⊥) (IsBrokenContent asked) ⊥ ⊥ error h))

-- the texts that are due for rules
pub texts-due : {Z : Type 0} (most : ℕ) (rules same : List SheetRuleText) → same ≡ rules
    → (r : Result (String Z) CallError)
    → MatchResult r (λ lines. (string_bytes lines ≡ rule_texts same)
    × (length (string_bytes lines) ≤ most)) (FailsLonger (most < length (rule_texts same)))
    → AreRuleTexts most rules (outcome_of r)
texts-due most rules same is (Ok text) due = (due.0 ∙ ap rule_texts is, due.1)
texts-due most rules same is (Err error) due =
    subst (λ rs. FailsLonger (most < length (rule_texts rs)) error) is due
