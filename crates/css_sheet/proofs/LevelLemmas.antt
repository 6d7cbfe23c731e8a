-- The levels of open rules, and what holds at each by the style rule that is innermost there.
-- Serves `ReadRules::push_sheet` and `sheet_order::gather`.
use Rattle.std.proofs.Common.{◌≡◌, ℕ, suc, ◌-◌, ◌==◌, Bool, true, false, not, ◌&&◌, if◌then◌else◌, List, [], ◌∷◌, ◌++◌, Option, None, Some, Result, Ok, Err, length, take, refl, sym, ap, ◌∙◌, subst, arith, eqb-true}
use Rattle.css_syntax.specs.declared.quality.Fault.{Fault}
use Rattle.css_syntax.specs.Parts.{Stated}
use Rattle.css_selector_text.specs.Components.{Placed}
use Rattle.css_selector_text.specs.Names.{Names}
use Rattle.css_cascade.specs.Layers.{LayerText}
use Rattle.css_cascade.specs.LayerNames.{block_name}
use Rattle.css_cascade.proofs.NameLemmas.{Keeps}
use Rattle.css_sheet.specs.RuleSelectors.{ListContext, all_read, is_listed, listed_under}
use Rattle.css_sheet.specs.SheetItems.{is_layer}
use Rattle.css_sheet.specs.SheetParts.{OpenText, RuleKind, style_rule, group_rule, outside, within, nested, nesting_in, nesting_of}
use Rattle.css_sheet.specs.SheetParts.{Nesting as NestingText}
use Rattle.css_sheet.specs.SheetLayers.{kind_name, or_none}
use Rattle.css_sheet.specs.OpenParents.{Parent, OwnList, ParentsText, no_rule, dropped, style, unread, valid, numbered, before_rule, begun, checked, checked_for, if_listed, is_dropped, left_innermost, none_open, or_same, parent_in, with_list, with_list_of, with_selectors}
use Rattle.css_sheet.specs.internal.OpenViews.{Tracks, is_known_dropped}
use Rattle.css_sheet.proofs.OpenLemmas.{tracks-keeps, none-open}
use Rattle.css_sheet.proofs.ParentLemmas.{left-some, take-append}

-- ---- style rules that are dropped alike

-- a list that is known to be valid is
abbrev pub IsHonest : Parent → Type 0
IsHonest no_rule = Unit {0}
IsHonest dropped = Unit {0}
IsHonest (style prelude under unread) = Unit {0}
IsHonest (style prelude under valid) = is_listed (listed_under under prelude) ≡ true
IsHonest (style prelude under (numbered own)) = Unit {0}

-- the one is dropped if the other is, and no rule if the other is none
abbrev pub Alike : Parent → Parent → Type 0
Alike a b = (is_dropped a ≡ is_dropped b) × (a ≡ no_rule → b ≡ no_rule) × (IsHonest a → IsHonest b)

alike-itself : (a : Parent) → Alike a a
alike-itself a = (refl, λ none. none, λ honest. honest)

alike-checked : (prelude : Stated) (under : ListContext) (listed : Bool)
    → is_listed (listed_under under prelude) ≡ listed
    → Alike (style prelude under unread) (if listed then style prelude under valid else dropped)
alike-checked prelude under true e = (ap not e, λ none. absurd (cc), λ honest. e)
alike-checked prelude under false e = (ap not e, λ none. absurd (cc), λ honest. tt)

checked-alike : (parent : Parent) → Alike parent (checked parent)
checked-alike no_rule = alike-itself no_rule
checked-alike dropped = alike-itself dropped
checked-alike (style prelude under unread) =
    alike-checked prelude under (is_listed (listed_under under prelude)) refl
checked-alike (style prelude under valid) = alike-itself (style prelude under valid)
checked-alike (style prelude under (numbered own)) = alike-itself (style prelude under (numbered own))

checked_for-alike : (is_needed : Bool) (parent : Parent) → Alike parent (checked_for is_needed parent)
checked_for-alike true parent = checked-alike parent
checked_for-alike false parent = alike-itself parent

-- the rule with its list
listed-alike : (parents : ParentsText) (prelude : Stated) (under : ListContext) (own : OwnList)
    (read : Result (List Placed) Fault) → is_dropped (style prelude under own) ≡ not (is_listed read)
    → Alike (style prelude under own) (with_selectors parents prelude under (all_read read)).innermost
listed-alike parents prelude under own (Ok all) e = (e, λ none. absurd (cc), λ honest. tt)
listed-alike parents prelude under own (Err fault) e = (e, λ none. absurd (cc), λ honest. tt)

same-alike : (parents : ParentsText) (parent : Parent) → parents.innermost ≡ parent
    → Alike parent parents.innermost
same-alike parents parent e = subst (Alike parent) (sym e) (alike-itself parent)

list_of-alike : (parents : ParentsText) (parent : Parent) → parents.innermost ≡ parent → IsHonest parent
    → Alike parent (with_list_of parents parent).innermost
list_of-alike parents no_rule e honest = same-alike parents no_rule e
list_of-alike parents dropped e honest = same-alike parents dropped e
list_of-alike parents (style prelude under unread) e honest =
    listed-alike parents prelude under unread (listed_under under prelude) refl
list_of-alike parents (style prelude under valid) e honest =
    listed-alike parents prelude under valid (listed_under under prelude) (sym (ap not honest))
list_of-alike parents (style prelude under (numbered own)) e honest =
    same-alike parents (style prelude under (numbered own)) e

listed-outer : (parents : ParentsText) (prelude : Stated) (under : ListContext)
    (read : Result (List Placed) Fault)
    → (with_selectors parents prelude under (all_read read)).outer ≡ parents.outer
listed-outer parents prelude under (Ok all) = refl
listed-outer parents prelude under (Err fault) = refl

list_of-outer : (parents : ParentsText) (parent : Parent)
    → (with_list_of parents parent).outer ≡ parents.outer
list_of-outer parents no_rule = refl
list_of-outer parents dropped = refl
list_of-outer parents (style prelude under unread) =
    listed-outer parents prelude under (listed_under under prelude)
list_of-outer parents (style prelude under valid) =
    listed-outer parents prelude under (listed_under under prelude)
list_of-outer parents (style prelude under (numbered own)) = refl

-- ---- the levels

-- A rule that is open: the number of the layer that is innermost there, and the style rule that it is in, if
-- it is a style rule.
pub record Opened : Type 0 where
  pub number : ℕ
  pub rule : OpenText
  pub outer : Option Parent

-- of rules that are open, from the innermost: these from the outermost
abbrev pub numbers_up : List Opened → List ℕ
numbers_up [] = []
numbers_up (one ∷ below) = numbers_up below ++ one.number ∷ []

abbrev pub rules_up : List Opened → List OpenText
rules_up [] = []
rules_up (one ∷ below) = rules_up below ++ one.rule ∷ []

abbrev pub outer_up : List Opened → List (Option Parent)
outer_up [] = []
outer_up (one ∷ below) = outer_up below ++ one.outer ∷ []

-- Where this style rule is innermost, the numbers of layers are right for the rules unless it is dropped; it is
-- none outside of style rules; and what is known of it is so.
abbrev pub Right : List LayerText → (outermost : ℕ) → Parent → List ℕ → List OpenText → Type 0
Right known outermost parent numbers around =
    (is_dropped parent ≡ false → Tracks known outermost numbers around)
    × (nesting_of around ≡ outside → parent ≡ no_rule) × IsHonest parent

-- so it is at each level
abbrev pub AllRight : List LayerText → (outermost : ℕ) → List Opened → Parent → Type 0
AllRight known outermost [] parent = Right known outermost parent [] []
AllRight known outermost (one ∷ below) parent =
    Right known outermost parent (numbers_up (one ∷ below)) (rules_up (one ∷ below))
    × AllRight known outermost below (or_same parent one.outer)

right-alike : (known : List LayerText) (outermost : ℕ) (a b : Parent) → Alike a b
    → (numbers : List ℕ) (around : List OpenText) → Right known outermost a numbers around
    → Right known outermost b numbers around
right-alike known outermost a b alike numbers around right =
    (λ kept. right.0 (alike.0 ∙ kept), λ out. alike.1 (right.1 out), alike.2 right.2)

right-keeps : (known after : List LayerText) → Keeps known after → (outermost : ℕ) (parent : Parent)
    (numbers : List ℕ) (around : List OpenText) → Right known outermost parent numbers around
    → Right after outermost parent numbers around
right-keeps known after keeps outermost parent numbers around right =
    (λ kept. tracks-keeps known after keeps outermost numbers around (right.0 kept), right.1, right.2)

or_same-alike : (P : Parent → Type 0) (outer : Option Parent) (a b : Parent) → (P a → P b)
    → P (or_same a outer) → P (or_same b outer)
or_same-alike P None a b f p = f p
or_same-alike P (Some parent) a b f p = p

pub all-alike : (known : List LayerText) (outermost : ℕ) (levels : List Opened) (a b : Parent) → Alike a b
    → AllRight known outermost levels a → AllRight known outermost levels b
all-alike known outermost [] a b alike all = right-alike known outermost a b alike [] [] all
all-alike known outermost (one ∷ below) a b alike all = (
  right-alike known outermost a b alike (numbers_up (one ∷ below)) (rules_up (one ∷ below)) all.0,
  or_same-alike (AllRight known outermost below) one.outer a b
      (all-alike known outermost below a b alike) all.1,
)

pub all-keeps : (known after : List LayerText) → Keeps known after → (outermost : ℕ)
    (levels : List Opened) (parent : Parent) → AllRight known outermost levels parent
    → AllRight after outermost levels parent
all-keeps known after keeps outermost [] parent all =
    right-keeps known after keeps outermost parent [] [] all
all-keeps known after keeps outermost (one ∷ below) parent all = (
  right-keeps known after keeps outermost parent (numbers_up (one ∷ below)) (rules_up (one ∷ below)) all.0,
  all-keeps known after keeps outermost below (or_same parent one.outer) all.1,
)

pub top-right : (known : List LayerText) (outermost : ℕ) (levels : List Opened) (parent : Parent)
    → AllRight known outermost levels parent
    → Right known outermost parent (numbers_up levels) (rules_up levels)
top-right known outermost [] parent all = all
top-right known outermost (one ∷ below) parent all = all.0

-- ---- the style rules that are open where these rules are

-- what is open of another sheet is left as soon as a rule begins
abbrev pub fresh : List OpenText → ParentsText → ParentsText
fresh [] parents = none_open parents.lists
fresh (rule ∷ around) parents = parents

pub fresh-more : (around : List OpenText) (rule : OpenText) (parents : ParentsText)
    → fresh (around ++ rule ∷ []) parents ≡ parents
fresh-more [] rule parents = refl
fresh-more (first ∷ around) rule parents = refl

not-one : (n : ℕ) (t : Bool) → (suc (suc n) == 1) ≡ t → (suc (suc n) == 1) ≡ false
not-one n true e = absurd (omega (arith, eqb-true (suc (suc n)) 1 e))
not-one n false e = e

pub fresh-before : (around : List OpenText) (rule : OpenText) (parents : ParentsText)
    → before_rule (around ++ rule ∷ []) parents ≡ fresh around parents
fresh-before [] rule parents = refl
fresh-before (first ∷ []) rule parents = refl
fresh-before (first ∷ second ∷ around) rule parents =
    let n = length (around ++ rule ∷ []) in
    ap (λ (t : Bool). if t then none_open parents.lists else parents) (not-one n (suc (suc n) == 1) refl)

-- The numbers and the style rules that are open are right for these rules.
pub record Stacked (known : List LayerText) (outermost : ℕ) (numbers : List ℕ) (around : List OpenText)
    (parents : ParentsText) : Type 0 where
  pub levels : List Opened
  pub numbers_are : numbers ≡ numbers_up levels
  pub around_is : around ≡ rules_up levels
  pub outer_is : parents.outer ≡ outer_up levels
  pub all : AllRight known outermost levels parents.innermost

pub stacked-none : (known : List LayerText) (outermost : ℕ) (numbers : List ℕ) (around : List OpenText)
    (parents : ParentsText) → numbers ≡ [] → around ≡ []
    → Stacked known outermost numbers around (fresh around parents)
stacked-none known outermost numbers around parents e f =
    subst (λ (ns : List ℕ). Stacked known outermost ns around (fresh around parents)) (sym e)
    (subst (λ (rs : List OpenText). Stacked known outermost [] rs (fresh rs parents)) (sym f)
    (record {
      levels = [];
      numbers_are = refl;
      around_is = refl;
      outer_is = refl;
      all = (λ kept. none-open known outermost [] [] refl refl, λ out. refl, tt);
    }))

pub stacked-right : (known : List LayerText) (outermost : ℕ) (numbers : List ℕ) (around : List OpenText)
    (parents : ParentsText) → Stacked known outermost numbers around parents
    → Right known outermost parents.innermost numbers around
stacked-right known outermost numbers around parents s =
    subst (λ (ns : List ℕ). Right known outermost parents.innermost ns around) (sym s.numbers_are)
    (subst (Right known outermost parents.innermost (numbers_up s.levels)) (sym s.around_is)
    (top-right known outermost s.levels parents.innermost s.all))

pub stacked-keeps : (known after : List LayerText) → Keeps known after → (outermost : ℕ)
    (numbers : List ℕ) (around : List OpenText) (parents : ParentsText)
    → Stacked known outermost numbers around parents → Stacked after outermost numbers around parents
stacked-keeps known after keeps outermost numbers around parents s = record {
  levels = s.levels;
  numbers_are = s.numbers_are;
  around_is = s.around_is;
  outer_is = s.outer_is;
  all = all-keeps known after keeps outermost s.levels parents.innermost s.all;
}

-- the numbers are right in a style rule that is not dropped
pub stacked-tracks : (known : List LayerText) (outermost : ℕ) (numbers : List ℕ) (around : List OpenText)
    (parents : ParentsText) → Stacked known outermost numbers around (fresh around parents)
    → is_dropped parents.innermost ≡ false → Tracks known outermost numbers around
stacked-tracks known outermost numbers [] parents s kept =
    (stacked-right known outermost numbers [] (none_open parents.lists) s).0 refl
stacked-tracks known outermost numbers (rule ∷ around) parents s kept =
    (stacked-right known outermost numbers (rule ∷ around) parents s).0 kept

-- so it is outside of style rules
pub stacked-outside : (known : List LayerText) (outermost : ℕ) (numbers : List ℕ) (around : List OpenText)
    (parents : ParentsText) → Stacked known outermost numbers around parents
    → nesting_of around ≡ outside → Tracks known outermost numbers around
stacked-outside known outermost numbers around parents s out =
    let right = stacked-right known outermost numbers around parents s in
    right.0 (ap is_dropped (right.1 out))

-- ---- the innermost rule ends

left-levels : (known : List LayerText) (outermost : ℕ) (levels : List Opened) (parents : ParentsText)
    → fresh (rules_up levels) parents ≡ parents → parents.outer ≡ outer_up levels
    → AllRight known outermost levels parents.innermost
    → Stacked known outermost (take (length (numbers_up levels) - 1) (numbers_up levels))
    (take (length (rules_up levels) - 1) (rules_up levels))
    (fresh (take (length (rules_up levels) - 1) (rules_up levels)) (left_innermost parents))
left-levels known outermost [] parents plain e all =
    stacked-none known outermost [] [] (left_innermost parents) refl refl
left-levels known outermost (one ∷ []) parents plain e all =
    stacked-none known outermost [] [] (left_innermost parents) refl refl
left-levels known outermost (one ∷ next ∷ below) parents plain e all =
    let levels = next ∷ below in
    let left = left-some parents (outer_up levels) one.outer e in
    let rules : take (length (rules_up (one ∷ levels)) - 1) (rules_up (one ∷ levels)) ≡ rules_up levels =
    take-append (rules_up levels) one.rule in
    let plainly : fresh (rules_up levels) (left_innermost parents) ≡ left_innermost parents =
    fresh-more (rules_up below) next.rule (left_innermost parents) in
    subst (λ (ns : List ℕ). Stacked known outermost ns
    (take (length (rules_up (one ∷ levels)) - 1) (rules_up (one ∷ levels)))
    (fresh (take (length (rules_up (one ∷ levels)) - 1) (rules_up (one ∷ levels))) (left_innermost parents)))
    (sym (take-append (numbers_up levels) one.number))
    (subst (λ (rs : List OpenText). Stacked known outermost (numbers_up levels) rs
    (fresh rs (left_innermost parents))) (sym rules)
    (subst (Stacked known outermost (numbers_up levels) (rules_up levels)) (sym plainly)
    (subst (Stacked known outermost (numbers_up levels) (rules_up levels)) (sym left)
    (record {
      levels = levels;
      numbers_are = refl;
      around_is = refl;
      outer_is = refl;
      all = all.1;
    }))))

nil-last : {X : Type 0} (xs : List X) (x : X) → [] ≡ xs ++ x ∷ [] → ⊥
nil-last [] x e = absurd (cc)
nil-last (y ∷ xs) x e = absurd (cc)

none-up : (levels : List Opened) → [] ≡ rules_up levels → numbers_up levels ≡ []
none-up [] e = refl
none-up (one ∷ below) e = absurd (nil-last (rules_up below) one.rule e)

pub stacked-left : (known : List LayerText) (outermost : ℕ) (numbers : List ℕ) (before : List OpenText)
    (parents : ParentsText) → Stacked known outermost numbers before (fresh before parents)
    → Stacked known outermost (take (length numbers - 1) numbers) (take (length before - 1) before)
    (fresh (take (length before - 1) before) (left_innermost parents))
stacked-left known outermost numbers [] parents s =
    let none : numbers ≡ [] = s.numbers_are ∙ none-up s.levels s.around_is in
    stacked-none known outermost (take (length numbers - 1) numbers) [] (left_innermost parents)
    (ap (λ (ns : List ℕ). take (length ns - 1) ns) none) refl
stacked-left known outermost numbers (rule ∷ around) parents s =
    let before = rule ∷ around in
    let plain : fresh (rules_up s.levels) parents ≡ parents =
    ap (λ (rs : List OpenText). fresh rs parents) (sym s.around_is) in
    subst (λ (ns : List ℕ). Stacked known outermost (take (length ns - 1) ns)
    (take (length before - 1) before) (fresh (take (length before - 1) before) (left_innermost parents)))
    (sym s.numbers_are)
    (subst (λ (rs : List OpenText). Stacked known outermost
    (take (length (numbers_up s.levels) - 1) (numbers_up s.levels)) (take (length rs - 1) rs)
    (fresh (take (length rs - 1) rs) (left_innermost parents))) (sym s.around_is)
    (left-levels known outermost s.levels parents plain s.outer_is s.all))

-- ---- a rule begins

-- What a rule that begins makes of the style rules that are open: the style rule that it is in is then as it
-- was, or its list is known; in one that is dropped all is; and outside of them none is innermost. If the
-- innermost is dropped and that is not known, the rule is no layer that applies.
pub record Begins (before after : ParentsText) (kind : RuleKind) (applies : Bool) : Type 0 where
  pub outer : Option Parent
  pub outer_is : after.outer ≡ before.outer ++ outer ∷ []
  pub alike : Alike before.innermost (or_same after.innermost outer)
  pub honest : IsHonest after.innermost
  pub kept : is_dropped after.innermost ≡ false → is_dropped before.innermost ≡ false
  pub out : (nesting : NestingText) → nesting_in kind nesting ≡ outside
      → (nesting ≡ outside) × (before.innermost ≡ no_rule → after.innermost ≡ no_rule)
  pub unnamed : is_dropped after.innermost ≡ true → is_known_dropped after.innermost ≡ false
      → (place : List ℕ) → (if applies then kind_name kind place else []) ≡ []

no-outside : (prelude : Stated) (nesting : NestingText)
    → nesting_in (style_rule prelude) nesting ≡ outside → ⊥
no-outside prelude outside e = absurd (cc)
no-outside prelude (within other) e = absurd (cc)
no-outside prelude nested e = absurd (cc)

kept-in : (names : Names) (prelude : Stated) (parent : Parent)
    → is_dropped (parent_in names prelude parent) ≡ false
    → is_dropped parent ≡ false
kept-in names prelude no_rule e = refl
kept-in names prelude dropped e = absurd (cc)
kept-in names prelude (style other under unread) e = absurd (cc)
kept-in names prelude (style other under valid) e = refl
kept-in names prelude (style other under (numbered own)) e = refl

parent_in-honest : (names : Names) (prelude : Stated) (parent : Parent)
    → IsHonest (parent_in names prelude parent)
parent_in-honest names prelude no_rule = tt
parent_in-honest names prelude dropped = tt
parent_in-honest names prelude (style other under unread) = tt
parent_in-honest names prelude (style other under valid) = tt
parent_in-honest names prelude (style other under (numbered own)) = tt

no-name : (prelude : Stated) (place : List ℕ) (applies : Bool)
    → (if applies then kind_name (style_rule prelude) place else []) ≡ []
no-name prelude place true = refl
no-name prelude place false = refl

style-begins : (names : Names) (prelude : Stated) (applies : Bool) (parents : ParentsText) → IsHonest parents.innermost
    → Begins parents (begun names applies (style_rule prelude) parents) (style_rule prelude) applies
style-begins names prelude true parents honest =
    let list = with_list parents in
    let alike = list_of-alike parents parents.innermost refl honest in
    record {
      outer = Some list.innermost;
      outer_is = ap (λ os. os ++ Some list.innermost ∷ []) (list_of-outer parents parents.innermost);
      alike = alike;
      honest = parent_in-honest names prelude list.innermost;
      kept = λ e. alike.0 ∙ kept-in names prelude list.innermost e;
      out = λ nesting e. absurd (no-outside prelude nesting e);
      unnamed = λ e f place. no-name prelude place true;
    }
style-begins names prelude false parents honest = record {
  outer = Some parents.innermost;
  outer_is = refl;
  alike = alike-itself parents.innermost;
  honest = tt;
  kept = λ e. absurd (cc);
  out = λ nesting e. absurd (no-outside prelude nesting e);
  unnamed = λ e f place. no-name prelude place false;
}

if-known : (prelude : Stated) (under : ListContext) (listed : Bool)
    → is_dropped (if_listed listed prelude under) ≡ true
    → is_known_dropped (if_listed listed prelude under) ≡ false → ⊥
if-known prelude under true e f = absurd (cc)
if-known prelude under false e f = absurd (cc)

-- a layer that applies is in a rule of which it is known whether it is dropped
checked-known : (parent : Parent) → is_dropped (checked parent) ≡ true
    → is_known_dropped (checked parent) ≡ false → ⊥
checked-known no_rule e f = absurd (cc)
checked-known dropped e f = absurd (cc)
checked-known (style prelude under unread) e f =
    if-known prelude under (is_listed (listed_under under prelude)) e f
checked-known (style prelude under valid) e f = absurd (cc)
checked-known (style prelude under (numbered own)) e f = absurd (cc)

unnamed-group : (keyword prelude : List ℕ) (place : List ℕ) (parent : Parent) (applies layer : Bool)
    → is_layer keyword ≡ layer
    → is_dropped (checked_for (applies && layer) parent) ≡ true
    → is_known_dropped (checked_for (applies && layer) parent) ≡ false
    → (if applies then kind_name (group_rule keyword prelude) place else []) ≡ []
unnamed-group keyword prelude place parent true true l e f = absurd (checked-known parent e f)
unnamed-group keyword prelude place parent true false l e f =
    ap (λ (b : Bool). if b then or_none (block_name prelude place) else []) l
unnamed-group keyword prelude place parent false layer l e f = refl

group-begins : (names : Names) (keyword prelude : List ℕ) (applies : Bool) (parents : ParentsText)
    → IsHonest parents.innermost
    → Begins parents (begun names applies (group_rule keyword prelude) parents) (group_rule keyword prelude)
    applies
group-begins names keyword prelude applies parents honest =
    let alike = checked_for-alike (applies && is_layer keyword) parents.innermost in
    record {
      outer = None;
      outer_is = refl;
      alike = alike;
      honest = alike.2 honest;
      kept = λ e. alike.0 ∙ e;
      out = λ nesting e. (e, alike.1);
      unnamed = λ e f place.
          unnamed-group keyword prelude place parents.innermost applies (is_layer keyword) refl e f;
    }

pub rule-begins : (names : Names) (kind : RuleKind) (applies : Bool) (parents : ParentsText)
    → IsHonest parents.innermost → Begins parents (begun names applies kind parents) kind applies
rule-begins names (style_rule prelude) applies parents honest =
    style-begins names prelude applies parents honest
rule-begins names (group_rule keyword prelude) applies parents honest =
    group-begins names keyword prelude applies parents honest

-- one more rule is open
pub stacked-more : (known : List LayerText) (outermost : ℕ) (numbers : List ℕ) (around : List OpenText)
    (before after : ParentsText) (applies : Bool) (rule : OpenText) (number : ℕ)
    → Stacked known outermost numbers around before → Begins before after rule.kind applies
    → (nesting_of (around ++ rule ∷ []) ≡ nesting_in rule.kind (nesting_of around))
    → (is_dropped after.innermost ≡ false
    → Tracks known outermost (numbers ++ number ∷ []) (around ++ rule ∷ []))
    → Stacked known outermost (numbers ++ number ∷ []) (around ++ rule ∷ []) after
stacked-more known outermost numbers around before after applies rule number s b inside tracks =
    let numbers_are : numbers ++ number ∷ [] ≡ numbers_up s.levels ++ number ∷ [] =
    ap (λ (ns : List ℕ). ns ++ number ∷ []) s.numbers_are in
    let around_is : around ++ rule ∷ [] ≡ rules_up s.levels ++ rule ∷ [] =
    ap (λ (rs : List OpenText). rs ++ rule ∷ []) s.around_is in
    let top = stacked-right known outermost numbers around before s in
    let right : Right known outermost after.innermost (numbers ++ number ∷ []) (around ++ rule ∷ []) = (
      tracks,
      λ out. (b.out (nesting_of around) (sym inside ∙ out)).1
          (top.1 (b.out (nesting_of around) (sym inside ∙ out)).0),
      b.honest,
    ) in
    record {
      levels = record { number = number; rule = rule; outer = b.outer } ∷ s.levels;
      numbers_are = numbers_are;
      around_is = around_is;
      outer_is = b.outer_is ∙ ap (λ (os : List (Option Parent)). os ++ b.outer ∷ []) s.outer_is;
      all = (
        subst (λ (ns : List ℕ). Right known outermost after.innermost ns (rules_up s.levels ++ rule ∷ []))
            numbers_are
            (subst (Right known outermost after.innermost (numbers ++ number ∷ [])) around_is right),
        all-alike known outermost s.levels before.innermost (or_same after.innermost b.outer) b.alike s.all,
      );
    }
