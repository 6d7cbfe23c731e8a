-- What is kept of a sheet: a filter of what was read of it, and the text of that.
use Rattle.std.specs.Prelude.{ℕ, Bool, true, false, if◌then◌else◌, List, [], ◌∷◌, ◌++◌, map, codes, Option, Some, None}
use Rattle.std.specs.List.{flat_map}
use Rattle.css_syntax.specs.Qualities.{is_whole}
use Rattle.css_syntax.specs.Parts.{Stated}
use Rattle.css_syntax.specs.Statements.{AtRuleText, BlockText, StatementText, rule_set, at_rule_statement, skipped_statement, SheetText, statements}
use Rattle.css_syntax.specs.DeclarationLists.{DeclarationText, items}
use Rattle.css_syntax.specs.Printing.{list_text}
use Rattle.css_clean.specs.Cleaning.{kept, read_of}
use Rattle.css_clean.specs.declared.groups.Group.{Group}
use Rattle.css_clean.specs.Groups.{group_name, group_of, has_frames}
use Rattle.css_clean.specs.Selectors.{SheetPolicyText}
use Rattle.css_clean.specs.Preludes.{group_prelude, rule_prelude}
use Rattle.css_clean.specs.Sheets.{is_clean}

-- ---- rules

-- A rule that is kept: its list of selectors, under the scope, or its frames, and those of its declarations that are
-- allowed.
pub record KeptRule : Type 0 where
  pub selectors : List ℕ
  pub declarations : List DeclarationText

-- a rule of these, if its selectors are allowed and a declaration is
abbrev pub rule_of : Option (List ℕ) → List DeclarationText → List KeptRule
rule_of None declarations = []
rule_of (Some selectors) [] = []
rule_of (Some selectors) (d ∷ more) =
    record { selectors = selectors; declarations = d ∷ more } ∷ []

-- what is kept of a rule, or of one of frames
abbrev pub kept_rule : SheetPolicyText → (frames : Bool) → Stated → BlockText → List KeptRule
kept_rule policy frames prelude block =
    rule_of (rule_prelude policy frames prelude.text) (kept policy.declarations (items true block.text))

-- what is kept of a statement of the block of a group rule: a rule
abbrev pub kept_inner_statement : SheetPolicyText → (frames : Bool) → StatementText → List KeptRule
kept_inner_statement policy frames (rule_set prelude block) = kept_rule policy frames prelude block
kept_inner_statement policy frames (at_rule_statement a) = []
kept_inner_statement policy frames (skipped_statement fault) = []

-- the rules that are kept of the block of a group rule, in their order
abbrev pub kept_inner : SheetPolicyText → (frames : Bool) → List SheetText → List KeptRule
kept_inner policy frames [] = []
kept_inner policy frames (part ∷ more) =
    kept_inner_statement policy frames part.statement ++ kept_inner policy frames more

-- ---- group rules

-- A group rule that is allowed: which it is, its prelude, written anew, and its block.
pub record GroupText : Type 0 where
  pub group : Group
  pub prelude : List ℕ
  pub block : BlockText

abbrev pub group_from : Group → Option (List ℕ) → Option BlockText → Option GroupText
group_from group None block = None
group_from group (Some prelude) None = None
group_from group (Some prelude) (Some block) =
    Some (record { group = group; prelude = prelude; block = block })

abbrev pub group_with : SheetPolicyText → Option Group → AtRuleText → Option GroupText
group_with policy None a = None
group_with policy (Some group) a = group_from group (group_prelude policy group a.prelude.text) a.block

-- the at-rule as a group rule, if it is one that is allowed, and its prelude is
abbrev pub group_rule : SheetPolicyText → AtRuleText → Option GroupText
group_rule policy a =
    if is_whole a.prelude.quality then group_with policy (group_of policy.media a.name) a else None

-- ---- statements

-- What is kept of a sheet: a rule, or a group rule with its prelude and rules.
pub data KeptStatement : Type 0 where
  one_rule : KeptRule → KeptStatement
  rules_in : Group → (prelude : List ℕ) → List KeptRule → KeptStatement

-- a group rule with these rules, if there is one
abbrev pub group_with_rules : Group → (prelude : List ℕ) → List KeptRule → List KeptStatement
group_with_rules group prelude [] = []
group_with_rules group prelude (rule ∷ rules) = rules_in group prelude (rule ∷ rules) ∷ []

-- what is kept of a group rule, if a rule of it is
abbrev pub kept_group : SheetPolicyText → Option GroupText → List KeptStatement
kept_group policy None = []
kept_group policy (Some g) =
    group_with_rules g.group g.prelude
    (kept_inner policy (has_frames g.group) (statements true g.block.text))

-- what is kept of a statement of a sheet
abbrev pub kept_statement : SheetPolicyText → StatementText → List KeptStatement
kept_statement policy (rule_set prelude block) = map one_rule (kept_rule policy false prelude block)
kept_statement policy (at_rule_statement a) = kept_group policy (group_rule policy a)
kept_statement policy (skipped_statement fault) = []

-- what is kept of the statements of a sheet, in their order
abbrev pub kept_statements : SheetPolicyText → List SheetText → List KeptStatement
kept_statements policy [] = []
kept_statements policy (part ∷ more) =
    kept_statement policy part.statement ++ kept_statements policy more

-- ---- texts

abbrev pub rule_text : KeptRule → List ℕ
rule_text rule =
    rule.selectors ++ (codes " {" ++ (list_text rule.declarations ++ codes "}\n"))

abbrev pub rules_text : List KeptRule → List ℕ
rules_text rules = flat_map rule_text rules

abbrev pub statement_text : KeptStatement → List ℕ
statement_text (one_rule rule) = rule_text rule
statement_text (rules_in group prelude rules) =
    codes "@" ++ (group_name group ++ (codes " " ++ (prelude ++ (codes " {\n"
    ++ (rules_text rules ++ codes "}\n")))))

abbrev pub sheet_text : List KeptStatement → List ℕ
sheet_text all = flat_map statement_text all

-- ---- sheets

-- the text of what is kept of a sheet
abbrev pub kept_text : SheetPolicyText → List ℕ → List ℕ
kept_text policy text =
    sheet_text (kept_statements policy (statements false (read_of policy.declarations text)))

-- a sheet that is clean, or nothing
abbrev pub if_clean : SheetPolicyText → List ℕ → List ℕ
if_clean policy text = if is_clean policy text then text else []

-- A sheet, cleaned: the text of what is kept of it, if that is clean when it is read again.
abbrev pub cleaned_sheet : SheetPolicyText → List ℕ → List ℕ
cleaned_sheet policy text = if_clean policy (kept_text policy text)
