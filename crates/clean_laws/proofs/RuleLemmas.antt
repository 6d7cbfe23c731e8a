-- The rules of a clean sheet are within the scope. Serves `scope_law`.
use Rattle.std.proofs.Common.{◌≡◌, ◌∙◌, ◌&&◌, ℕ, Bool, true, false, if◌then◌else◌, codes, List, [], ◌∷◌, All, map, inl, inr, Option, None, Some, Err, refl, sym, ap, subst}
use Rattle.std.specs.Prelude.{is_none}
use Rattle.std.proofs.lemmas.List.Elements.{All-nil, All-cons}
use Rattle.css_matching.specs.Trees.{SiblingsShareParent}
use Rattle.css_syntax.specs.declared.quality.Quality.{Quality}
use Rattle.css_syntax.specs.declared.quality.Quality.TheVariants as qualities
use Rattle.css_syntax.specs.Qualities.{is_whole, is_good, fault_of}
use Rattle.css_syntax.specs.Parts.{Stated}
use Rattle.css_syntax.specs.Tokens.{spells}
use Rattle.css_syntax.specs.Statements.{AtRuleText, BlockText, StatementText, rule_set, at_rule_statement, skipped_statement, SheetText, statements}
use Rattle.css_syntax.specs.DeclarationLists.{items}
use Rattle.css_selector_text.specs.Components.{Part, PseudoElement, Selector, Placed}
use Rattle.css_selector_text.specs.Names.{no_names}
use Rattle.css_selector_text.specs.Originating.{originating}
use Rattle.css_selector_text.specs.reading.Grammar.{placed_list}
use Rattle.css_selector_text.specs.reading.Readings.{Reading, got, refused}
use Rattle.css_selector_text.specs.reading.Supported.{is_last_condition, is_supported_selector, supported_selector}
use Rattle.css_selectors.specs.Documents.{Document, shape}
use Rattle.css_selectors.specs.Meanings.{Matches}
use Rattle.css_selectors.specs.Numberings.{numbered_selector}
use Rattle.css_sheet.specs.RuleSelectors.{if_supported, element_read, read_with, selector_read, listed_or, all_read, selector_of, if_read as if_any_read}
use Rattle.css_clean.specs.Scopes.{begins_with, is_under_scope, are_under_scope, is_read_under, is_compound, if_read, compound_read}
use Rattle.css_clean.specs.Selectors.{SheetPolicyText, is_scope_text, scope_of, is_list_under, is_list_scoped}
use Rattle.clean_values.specs.Checks.{is_one_of}
use Rattle.css_clean.specs.declared.groups.Group.{Group}
use Rattle.css_clean.specs.declared.groups.Group.TheVariants as groups
use Rattle.css_clean.specs.Groups.{has_frames, is_called, group_of}
use Rattle.css_clean.specs.Sheets.{are_items_clean, is_rule_clean, is_inner_clean, are_inner_clean, is_block_clean, is_found_clean, is_statement_clean, are_statements_clean, is_clean}
use Rattle.css_clean.proofs.CleanLemmas.{both-left, both-right}
use Rattle.clean_laws.specs.Within.{IsRule, HasRule, BlockHasRule, IsOrHasRule, AnyHasRule, IsRuleOf, IsWithin, MatchesWithin, ReadsWithin, AreWithin, AreUnder}
use Rattle.clean_laws.proofs.WithinLemmas.{Begins, begins, begins-any, begins-numbered, begins-any-numbered, matched_within, sole_matches}

-- ---- the rules of a clean sheet

-- what is tested of the prelude of a rule
abbrev IsScoped : SheetPolicyText → Stated → Type 0
IsScoped policy prelude =
    (is_whole prelude.quality ≡ true) × (is_list_scoped policy prelude.text ≡ true)

rule-scoped : (policy : SheetPolicyText) (own : Stated) (block : BlockText)
    → is_rule_clean policy false own block ≡ true → IsScoped policy own
rule-scoped policy own block e = (
  both-left _ block.closed (both-left _ (are_items_clean policy.declarations (items false block.text))
      (both-left _ (is_list_scoped policy own.text) e)),
  both-right _ (is_list_scoped policy own.text) e,
)

inner-scoped : (policy : SheetPolicyText) (s : StatementText) → is_inner_clean policy false s ≡ true
    → (prelude : Stated) → IsRule s prelude → IsScoped policy prelude
inner-scoped policy (rule_set own block) e prelude h = subst (IsScoped policy) h (rule-scoped policy own block e)
inner-scoped policy (at_rule_statement rule) e prelude h = absurd h
inner-scoped policy (skipped_statement fault) e prelude h = absurd h

inner-all : (policy : SheetPolicyText) (parts : List SheetText) → are_inner_clean policy false parts ≡ true
    → (prelude : Stated) → HasRule parts prelude → IsScoped policy prelude
inner-all policy [] e prelude h = absurd h
inner-all policy (part ∷ more) e prelude (inl h) =
    inner-scoped policy part.statement (both-left _ (are_inner_clean policy false more) e) prelude h
inner-all policy (part ∷ more) e prelude (inr h) =
    inner-all policy more (both-right (is_inner_clean policy false part.statement) _ e) prelude h

block-scoped : (policy : SheetPolicyText) (block : Option BlockText) → is_block_clean policy false block ≡ true
    → (prelude : Stated) → BlockHasRule block prelude → IsScoped policy prelude
block-scoped policy None e prelude h = absurd h
block-scoped policy (Some block) e prelude h =
    inner-all policy (statements false block.text) (both-right block.closed _ e) prelude h

-- no other at-rule has frames
call-plain : (name : List ℕ) → spells (codes "keyframes") name ≡ false → (b : Bool)
    → (group : Group) → (if spells (codes "keyframes") name && b then Some groups.Keyframes else None) ≡ Some group
    → has_frames group ≡ false
call-plain name e b group h =
    absurd (let wrong : None ≡ Some group = ap (λ (k : Bool). if k && b then Some groups.Keyframes else None) (sym e) ∙ h in cc)

if-other : (b : Bool) (one group : Group) (o : Option Group) → has_frames one ≡ false
    → (o ≡ Some group → has_frames group ≡ false) → (if b then Some one else o) ≡ Some group
    → has_frames group ≡ false
if-other true one group o p h e = subst (λ g. has_frames g ≡ false) (some-is one group e) p
  where
    some-is : (x y : Group) → Some x ≡ Some y → x ≡ y
    some-is x y i = cc
if-other false one group o p h e = h e

plain-group : (listed : List (List ℕ)) (name : List ℕ) (group : Group) → spells (codes "keyframes") name ≡ false
    → group_of listed name ≡ Some group → has_frames group ≡ false
plain-group listed name group e =
    if-other (spells (codes "media") name) groups.Media group _ refl
    (if-other (is_called listed (codes "supports") (codes "@supports") name) groups.Supports group _ refl
    (if-other (is_called listed (codes "container") (codes "@container") name) groups.Container group _ refl
    (if-other (is_called listed (codes "layer") (codes "@layer") name) groups.Layer group _ refl
    (call-plain name e (is_one_of listed (codes "@keyframes")) group))))

group-scoped : (policy : SheetPolicyText) (found : Option Group) (rule : AtRuleText)
    → ((group : Group) → found ≡ Some group → has_frames group ≡ false) → is_found_clean policy found rule ≡ true
    → (prelude : Stated) → BlockHasRule rule.block prelude → IsScoped policy prelude
group-scoped policy None rule plain e prelude h = absurd (cc)
group-scoped policy (Some group) rule plain e prelude h =
    block-scoped policy rule.block
    (subst (λ f. is_block_clean policy f rule.block ≡ true) (plain group refl)
    (both-right _ (is_block_clean policy (has_frames group) rule.block) e)) prelude h

statement-scoped : (policy : SheetPolicyText) (s : StatementText) → is_statement_clean policy s ≡ true
    → (prelude : Stated) → IsOrHasRule s prelude → IsScoped policy prelude
statement-scoped policy (rule_set own block) e prelude h =
    subst (IsScoped policy) h (rule-scoped policy own block e)
statement-scoped policy (at_rule_statement rule) e prelude h =
    group-scoped policy (group_of policy.media rule.name) rule
    (λ group. plain-group policy.media rule.name group h.0) e prelude h.1
statement-scoped policy (skipped_statement fault) e prelude h = absurd h

all-scoped : (policy : SheetPolicyText) (parts : List SheetText) → are_statements_clean policy parts ≡ true
    → (prelude : Stated) → AnyHasRule parts prelude → IsScoped policy prelude
all-scoped policy [] e prelude h = absurd h
all-scoped policy (part ∷ more) e prelude (inl h) =
    statement-scoped policy part.statement (both-left _ (are_statements_clean policy more) e) prelude h
all-scoped policy (part ∷ more) e prelude (inr h) =
    all-scoped policy more (both-right (is_statement_clean policy part.statement) _ e) prelude h

sheet-scoped : (policy : SheetPolicyText) (text : List ℕ) → is_clean policy text ≡ true → (prelude : Stated)
    → IsRuleOf text prelude → IsScoped policy prelude
sheet-scoped policy text e prelude h =
    all-scoped policy (statements false text)
    (both-right _ (are_statements_clean policy (statements false text)) e) prelude h

-- ---- the scope

abbrev Scoped : SheetPolicyText → List ℕ → Selector → Type 0
Scoped policy text scope =
    (scope_of policy.scope ≡ Some scope)
    × (is_read_under policy.itself scope.parts (placed_list no_names text) ≡ true)

list-scoped : (policy : SheetPolicyText) (text : List ℕ) (found : Option Selector) → scope_of policy.scope ≡ found
    → is_list_under policy text found ≡ true → (scope : Selector) × Scoped policy text scope
list-scoped policy text None e h = absurd (cc)
list-scoped policy text (Some scope) e h =
    (scope, (e, both-right _ (is_read_under policy.itself scope.parts (placed_list no_names text)) h))

if-some : (b : Bool) (s found : Selector) → (if b then Some s else None) ≡ Some found → (b ≡ true) × (s ≡ found)
if-some true s found h = (refl, cc)
if-some false s found h = absurd (cc)

if-none : (b : Bool) (o : Option Selector) (found : Selector) → (if b then o else None) ≡ Some found → o ≡ Some found
if-none true o found h = h
if-none false o found h = absurd (cc)

compound-is : (r : Reading Selector) (scope : Selector) → if_read r ≡ Some scope
    → (if_any_read r ≡ Some scope) × (is_compound scope ≡ true)
compound-is (got s rest) scope h =
    let is = if-some (is_compound s) s scope h in
    (ap Some is.1, subst (λ x. is_compound x ≡ true) is.1 is.0)
compound-is (refused why rest) scope h = absurd (cc)

scope-is : (text : List ℕ) (scope : Selector) → scope_of text ≡ Some scope
    → (selector_of text ≡ Some scope) × (is_compound scope ≡ true)
scope-is text scope h =
    compound-is (supported_selector no_names text) scope (if-none (is_scope_text text) (compound_read text) scope h)

none-is : {A : Type 0} (o : Option A) → is_none o ≡ true → o ≡ None
none-is None e = refl
none-is (Some x) e = absurd (cc)

-- ---- the selectors of a list

module _ {Node : Type 0} (d : Document Node) (shared : SiblingsShareParent (shape d)) (itself : Bool) (scope : Selector)
    (plain : scope.pseudo_element ≡ None) where
  within-by : (part : Part) → scope.parts ≡ part ∷ [] → (s : Selector) (n : Node)
      → Begins d itself part.conditions s.parts → Matches d s n → IsWithin d itself scope n
  within-by part e s n b h =
      let found = matched_within d shared itself part.conditions s n b h in
      (found.0, found.1, sole_matches d scope part found.0 plain e found.2)

  matches-by : (part : Part) → scope.parts ≡ part ∷ [] → (s : Selector) → begins_with itself part s.parts ≡ true
      → MatchesWithin d itself scope s
  matches-by part e s b = (
    λ n h. within-by part e s n (begins d itself part s.parts b) h,
    λ numbering n h. within-by part e (numbered_selector numbering s).0 n
        (begins-numbered d itself part numbering.numbers numbering.lists s.parts b) h,
  )

  originating-by : (part : Part) → scope.parts ≡ part ∷ [] → (s : Selector)
      → begins_with itself part s.parts ≡ true → MatchesWithin d itself scope (originating s)
  originating-by part e s b = (
    λ n h. within-by part e (originating s) n (begins-any d itself part s.parts b) h,
    λ numbering n h. within-by part e (numbered_selector numbering (originating s)).0 n
        (begins-any-numbered d itself part numbering.numbers numbering.lists s.parts b) h,
  )

  if-within : (s found : Selector) → if_supported s ≡ Some found → MatchesWithin d itself scope s
      → MatchesWithin d itself scope found
  if-within s found e h = subst (MatchesWithin d itself scope) (if-some (is_supported_selector s) s found e).1 h

  read-by : (part : Part) → scope.parts ≡ part ∷ [] → (p : Placed)
      → begins_with itself part p.selector.parts ≡ true → (element : Option PseudoElement)
      → ReadsWithin d itself scope (read_with p element)
  read-by part e p b None s is = if-within p.selector s is (matches-by part e p.selector b)
  read-by part e p b (Some element) found is = last (is_last_condition element.after) found is
    where
      last : (is_last : Bool) → ReadsWithin d itself scope
          (if is_last then element_read p else record {
            text = (read_with p None).text;
            selector = None;
            pseudo_element = None;
          })
      last true s is = if-within (originating p.selector) s is (originating-by part e p.selector b)
      last false s is = absurd (cc)

  read-within : (parts : List Part) → scope.parts ≡ parts → (p : Placed)
      → is_under_scope itself parts p.selector.parts ≡ true → ReadsWithin d itself scope (selector_read p)
  read-within [] e p b = absurd (cc)
  read-within (part ∷ []) e p b = read-by part e p b p.selector.pseudo_element
  read-within (part ∷ more ∷ parts) e p b = absurd (cc)

  all-within : (all : List Placed) → are_under_scope itself scope.parts all ≡ true
      → All (ReadsWithin d itself scope) (map selector_read all)
  all-within [] e = All-nil (ReadsWithin d itself scope)
  all-within (p ∷ all) e =
      All-cons (ReadsWithin d itself scope) (selector_read p) (map selector_read all)
      (read-within scope.parts refl p (both-left _ (are_under_scope itself scope.parts all) e))
      (all-within all (both-right (is_under_scope itself scope.parts p.selector.parts) _ e))

  reading-within : (r : Reading (List Placed)) → is_read_under itself scope.parts r ≡ true
      → AreWithin d itself scope (all_read (listed_or r))
  reading-within (got all rest) e = all-within all e
  reading-within (refused why rest) e = absurd (cc)

whole-good : (q : Quality) → is_whole q ≡ true → is_good q ≡ true
whole-good qualities.Whole e = refl
whole-good qualities.Open e = refl
whole-good qualities.BadString e = e
whole-good qualities.BadUrl e = e
whole-good qualities.StrayBracket e = e
whole-good qualities.TooDeep e = e

pub under-scope : {Node : Type 0} (d : Document Node) (shared : SiblingsShareParent (shape d))
    (policy : SheetPolicyText) (text : List ℕ) → is_clean policy text ≡ true → (prelude : Stated)
    → IsRuleOf text prelude → AreUnder d policy prelude
under-scope d shared policy text clean prelude has =
    let is = sheet-scoped policy text clean prelude has in
    let found = list-scoped policy prelude.text (scope_of policy.scope) refl is.1 in
    let scope = scope-is policy.scope found.0 found.1.0 in
    let plain = none-is found.0.pseudo_element (both-left _ (is_under_scope true found.0.parts found.0.parts) scope.1) in (
      found.0,
      scope.0,
      subst (λ b. AreWithin d policy.itself found.0 (all_read (if b then listed_or (placed_list no_names prelude.text) else Err (fault_of prelude.quality))))
          (sym (whole-good prelude.quality is.0))
          (reading-within d shared policy.itself found.0 plain (placed_list no_names prelude.text) found.1.1),
    )
