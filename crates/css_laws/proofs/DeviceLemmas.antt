-- What wins where a caller passes the group rules that hold on a device is what wins on the device.
-- Serves `device_law`.
use Rattle.std.proofs.Common.{◌≡◌, ℕ, ◌↔◌, ◌⊎◌, Bool, true, false, if◌then◌else◌, List, [], map, Some, refl, sym, ap, ◌∙◌, subst}
use Rattle.std.specs.List.{Contains, slice_get}
use Rattle.std.proofs.lemmas.List.Elements.{All-weaker}
use Rattle.call_answers.specs.Calls.{HasTexts}
use Rattle.call_answers.specs.Outcomes.{truth_text}
use Rattle.css_cascade.specs.Layers.{outermost_layers}
use Rattle.css_conditions.specs.Supports.{supports}
use Rattle.css_conditions.specs.Truths.{is_true, truth_of}
use Rattle.css_conditions.specs.declared.device.Device.{Device}
use Rattle.css_conditions.specs.declared.truth.Truth.{Truth}
use Rattle.css_conditions.specs.declared.truth.Truth.TheVariants.{True, False, Unknown}
use Rattle.css_selector_text.specs.Components.{Selector}
use Rattle.css_sheet.specs.OpenParents.{after_parts, none_open}
use Rattle.css_sheet.specs.SheetLayers.{layered_parts, with_parts}
use Rattle.css_sheet.specs.SheetOrder.{SheetRuleText, cascade_rules, is_before, nested_lists, ranked, rules_of_parts}
use Rattle.css_sheet.specs.SheetParts.{OpenText, PlacedPart, RuleKind, SheetPart, begins, ends, group_rule, stands, states, style_rule}
use Rattle.css_sheet.specs.Sheets.{SheetText, outermost_at}
use Rattle.css_styles.specs.Contenders.{Contender, OwnText, of_own, states as rule_states}
use Rattle.css_styles.specs.Winners.{WinnerText}
use Rattle.css_text.specs.Ranks.{ordered_by}
use Rattle.css_tree.specs.PageMeanings.{Selects}
use Rattle.css_tree.specs.Pages.{Page}
use Rattle.page_calls.specs.Readings.{selector_as}
use Rattle.page_calls.specs.declared.modern.document_kind.DocumentKind.{DocumentKind}
use Rattle.sheet_calls.specs.Conditions.{device_of, is_function, is_known, media_on}
use Rattle.sheet_calls.specs.declared.conditions.DeviceNumbers.{DeviceNumbers}
use Rattle.css_laws.specs.Conditions.{OfCondition, OfConditions, OfPart}
use Rattle.css_laws.specs.Devices.{IsAsked, IsSaidOf, holds_on, is_media, is_supports}
use Rattle.css_laws.specs.Headline.{AreTheWinners}
use Rattle.css_laws.proofs.ConditionLemmas.{Agree, parts-same}

-- ---- what a caller says that asks the calls

said-true : (said : Bool) (truth : Truth) → (said ≡ true) ↔ (truth_text truth ≡ truth_text True)
    → said ≡ is_true truth
said-true true True both = refl
said-true false True both = both.1 refl
said-true true False both = absurd (let e = both.0 refl in cc)
said-true false False both = refl
said-true true Unknown both = absurd (let e = both.0 refl in cc)
said-true false Unknown both = refl

truth-of : (holds : Bool) → is_true (truth_of holds) ≡ holds
truth-of true = refl
truth-of false = refl

module _ (numbers : DeviceNumbers) (device : Device) (properties bounds : List ℕ) (names : List (List ℕ))
    (known : device_of numbers ≡ Some device) (texts : HasTexts properties bounds names) where
  asked-holds : (prelude : List ℕ) (media supported said : Bool)
      → IsSaidOf numbers properties bounds prelude media supported said
      → said
      ≡ (if media then is_true (media_on device prelude)
      else if supported then supports (is_known names) is_function prelude else false)
  asked-holds prelude true supported said h =
      let bytes = h.0 in
      let same : Some h.1.1 ≡ Some device = sym h.1.2 ∙ known in
      let here : h.1.1 ≡ device = cc in
      said-true said (media_on device prelude)
      (subst (λ (b : List ℕ). (said ≡ true) ↔ (b ≡ truth_text True))
      (h.1.3 ∙ ap (λ (d : Device). truth_text (media_on d prelude)) here) h.2)
  asked-holds prelude false true said h =
      let same : Some h.1.0 ≡ Some names = sym h.1.2.0 ∙ texts.0 in
      let here : h.1.0 ≡ names = cc in
      said-true said (truth_of (supports (is_known names) is_function prelude))
      (subst (λ (b : List ℕ). (said ≡ true) ↔ (b ≡ truth_text True))
      (h.1.3 ∙ ap (λ (ns : List (List ℕ)). truth_text (truth_of (supports (is_known ns) is_function prelude))) here) h.2)
      ∙ truth-of (supports (is_known names) is_function prelude)
  asked-holds prelude false false said h = h

  module _ (says : List ℕ → List ℕ → Bool) where
    asked-agrees : (keyword prelude : List ℕ) → IsAsked numbers properties bounds says keyword prelude
        → Agree says (holds_on device names) keyword prelude
    asked-agrees keyword prelude h = asked-holds prelude (is_media keyword) (is_supports keyword) (says keyword prelude) h

    condition-agrees : (kind : RuleKind) → OfCondition (IsAsked numbers properties bounds says) kind
        → OfCondition (Agree says (holds_on device names)) kind
    condition-agrees (style_rule prelude) h = tt
    condition-agrees (group_rule keyword prelude) h = λ other. asked-agrees keyword prelude (h other)

    part-agrees : (part : SheetPart) (around : List OpenText)
        → OfPart (IsAsked numbers properties bounds says) part around
        → OfPart (Agree says (holds_on device names)) part around
    part-agrees (states text) around h = tt
    part-agrees (begins kind) around h = λ applies. condition-agrees kind (h applies)
    part-agrees ends around h = tt
    part-agrees (stands item) around h = tt

    -- the parts of the sheets are those on the device
    pub asked-parts : (sheets : List SheetText) → OfConditions (IsAsked numbers properties bounds says) says sheets
        → layered_parts says sheets ≡ layered_parts (holds_on device names) sheets
    asked-parts sheets h =
        parts-same says (holds_on device names) sheets
        (All-weaker (λ (placed : PlacedPart). OfPart (IsAsked numbers properties bounds says) placed.part placed.around)
        (λ (placed : PlacedPart). OfPart (Agree says (holds_on device names)) placed.part placed.around)
        (λ placed. part-agrees placed.part placed.around) (layered_parts says sheets) h)

-- ---- what the parts of sheets decide

-- the rules of sheets with these parts, in order
abbrev rules_by : List SheetText → List PlacedPart → List SheetRuleText
rules_by sheets parts =
    let layers = with_parts (outermost_at sheets) outermost_layers (none_open []) parts in
    ordered_by is_before
    (map (ranked layers sheets) (rules_of_parts (outermost_at sheets) layers (none_open []) parts))

module _ (says holds : List ℕ → List ℕ → Bool) (sheets : List SheetText)
    (same : layered_parts says sheets ≡ layered_parts holds sheets) where
  pub rules-same : cascade_rules says sheets ≡ cascade_rules holds sheets
  rules-same = ap (rules_by sheets) same

  pub lists-same : nested_lists says sheets ≡ nested_lists holds sheets
  lists-same = ap (λ (parts : List PlacedPart). (after_parts (none_open []) parts).lists) same

  module _ (kind : DocumentKind) (page : Page) (index : ℕ) (own : OwnText) where
    -- it applies, by these lists of `&` and these rules
    abbrev AppliesBy : List (List Selector) → List SheetRuleText → Contender → Type 0
    AppliesBy nested rules one =
        ((place : ℕ) × (rule : SheetRuleText) × (slice_get rules place ≡ Some rule)
        × Selects page (map (map (selector_as kind)) nested) (selector_as kind rule.selector) index
        × Contains (rule_states place rule) one)
        ⊎ Contains (of_own own) one

    pub winners-same : (found : List WinnerText) → AreTheWinners says sheets kind page index own found
        → AreTheWinners holds sheets kind page index own found
    winners-same found are = record {
      applying = are.applying;
      apply =
          λ one.
          subst (λ (lists : List (List Selector)). Contains are.applying one
          ↔ AppliesBy lists (cascade_rules holds sheets) one) lists-same
          (subst (λ (rules : List SheetRuleText). Contains are.applying one
          ↔ AppliesBy (nested_lists says sheets) rules one) rules-same (are.apply one));
      distinct = are.distinct;
      best = are.best;
      one = are.one;
    }

-- what wins where the caller has asked is what wins on the device
pub asked-winners : (numbers : DeviceNumbers) (device : Device) (properties bounds : List ℕ) (names : List (List ℕ))
    → device_of numbers ≡ Some device → HasTexts properties bounds names → (says : List ℕ → List ℕ → Bool)
    (sheets : List SheetText) → OfConditions (IsAsked numbers properties bounds says) says sheets
    → (kind : DocumentKind) (page : Page) (index : ℕ) (own : OwnText) (found : List WinnerText)
    → AreTheWinners says sheets kind page index own found
    → AreTheWinners (holds_on device names) sheets kind page index own found
asked-winners numbers device properties bounds names known texts says sheets asked kind page index own found are =
    winners-same says (holds_on device names) sheets
    (asked-parts numbers device properties bounds names known texts says sheets asked) kind page index own found are
