-- What is within the elements that a scope matches.
use Rattle.std.specs.Prelude.{◌≡◌, ◌⊎◌, ℕ, Bool, true, false, List, [], ◌∷◌, codes, All, Option, None, Some, Result, Ok, Err}
use Rattle.css_matching.specs.Placements.{IsBeyond}
use Rattle.css_syntax.specs.declared.quality.Fault.{Fault}
use Rattle.css_syntax.specs.Tokens.{spells}
use Rattle.css_syntax.specs.Parts.{Stated}
use Rattle.css_syntax.specs.Statements.{BlockText, StatementText, rule_set, at_rule_statement, skipped_statement, SheetText, statements}
use Rattle.css_selector_text.specs.Components.{Selector}
use Rattle.css_selector_text.specs.Names.{no_names}
use Rattle.css_selectors.specs.Documents.{Document}
use Rattle.css_selectors.specs.Meanings.{Matches}
use Rattle.css_selectors.specs.Numberings.{NumberingText, numbered_selector}
use Rattle.css_sheet.specs.RuleSelectors.{SelectorRead, context, selector_of, selectors_under}
use Rattle.css_clean.specs.Selectors.{SheetPolicyText}

-- ---- the rules of a sheet

abbrev pub IsRule : StatementText → Stated → Type 0
IsRule (rule_set own block) prelude = own ≡ prelude
IsRule (at_rule_statement rule) prelude = ⊥
IsRule (skipped_statement fault) prelude = ⊥

-- one of the statements is a rule with this prelude
abbrev pub HasRule : List SheetText → Stated → Type 0
HasRule [] prelude = ⊥
HasRule (part ∷ more) prelude = IsRule part.statement prelude ⊎ HasRule more prelude

abbrev pub BlockHasRule : Option BlockText → Stated → Type 0
BlockHasRule None prelude = ⊥
BlockHasRule (Some block) prelude = HasRule (statements false block.text) prelude

-- the statement is such a rule, or an at-rule with one in its block, where what `@keyframes` has are frames and no rules
abbrev pub IsOrHasRule : StatementText → Stated → Type 0
IsOrHasRule (rule_set own block) prelude = own ≡ prelude
IsOrHasRule (at_rule_statement rule) prelude =
    (spells (codes "keyframes") rule.name ≡ false) × BlockHasRule rule.block prelude
IsOrHasRule (skipped_statement fault) prelude = ⊥

abbrev pub AnyHasRule : List SheetText → Stated → Type 0
AnyHasRule [] prelude = ⊥
AnyHasRule (part ∷ more) prelude = IsOrHasRule part.statement prelude ⊎ AnyHasRule more prelude

-- A rule of the sheet, or of the block of an at-rule of it but `@keyframes`, has this prelude. (A clean sheet has no at-rule in the
-- block of another.)
abbrev pub IsRuleOf : (text : List ℕ) → Stated → Type 0
IsRuleOf text prelude = AnyHasRule (statements false text) prelude

-- ---- elements

-- the first node is an ancestor of the second, or, where that may be, the same
abbrev pub IsAbove : {Node : Type 0} → Document Node → (itself : Bool) → (m n : Node) → Type 0
IsAbove document itself m n = IsBeyond document.parent m n ⊎ ((itself ≡ true) × (m ≡ n))

-- the scope matches such a node
abbrev pub IsWithin : {Node : Type 0} → Document Node → (itself : Bool) → (scope : Selector) → Node → Type 0
IsWithin {Node} document itself scope n =
    (m : Node) × IsAbove document itself m n × Matches document scope m

-- Each node that the selector matches is within the scope, as it is and where its pseudo-classes with lists have the
-- numbers of these.
abbrev pub MatchesWithin : {Node : Type 0} → Document Node → (itself : Bool) → (scope s : Selector) → Type 0
MatchesWithin {Node} document itself scope s =
    ((n : Node) → Matches document s n → IsWithin document itself scope n)
    × ((numbering : NumberingText) (n : Node) → Matches document (numbered_selector numbering s).0 n
    → IsWithin document itself scope n)

-- a selector of a rule does, where it is supported
abbrev pub ReadsWithin : {Node : Type 0} → Document Node → (itself : Bool) → (scope : Selector) → SelectorRead → Type 0
ReadsWithin document itself scope read =
    (s : Selector) → read.selector ≡ Some s → MatchesWithin document itself scope s

-- all selectors of a list do, and it is valid
abbrev pub AreWithin : {Node : Type 0} → Document Node → (itself : Bool) → (scope : Selector)
    → Result (List SelectorRead) Fault → Type 0
AreWithin document itself scope (Ok all) = All (ReadsWithin document itself scope) all
AreWithin document itself scope (Err fault) = ⊥

-- The scope of the policy is a selector, and all selectors of a rule with this prelude are within it. (Each selector is
-- without its pseudo-element.)
abbrev pub AreUnder : {Node : Type 0} → Document Node → SheetPolicyText → Stated → Type 0
AreUnder document policy prelude =
    (scope : Selector) × (selector_of policy.scope ≡ Some scope)
    × AreWithin document policy.itself scope (selectors_under (context None no_names) prelude)
