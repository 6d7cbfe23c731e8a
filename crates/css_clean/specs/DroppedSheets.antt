-- What is dropped of a sheet.
use Rattle.std.specs.Prelude.{ℕ, Bool, ◌-◌, true, false, if◌then◌else◌, List, [], ◌∷◌, ◌++◌, length, Option, Some, None}
use Rattle.css_syntax.specs.Contents.{statement_contents}
use Rattle.css_syntax.specs.Parts.{Stated}
use Rattle.css_syntax.specs.Statements.{BlockText, StatementText, rule_set, at_rule_statement, skipped_statement}
use Rattle.css_syntax.specs.DeclarationLists.{DeclarationText, items}
use Rattle.css_syntax.specs.Placed.{PlacedStatement, placed_items, placed_statements}
use Rattle.css_clean.specs.declared.dropped.Reason.{Reason}
use Rattle.css_clean.specs.declared.dropped.Reason.TheVariants as reasons
use Rattle.css_clean.specs.Cleaning.{DroppedText, dropped_piece, dropped, kept, is_short}
use Rattle.css_clean.specs.Selectors.{SheetPolicyText}
use Rattle.css_clean.specs.Groups.{has_frames}
use Rattle.css_clean.specs.Preludes.{rule_prelude}
use Rattle.css_clean.specs.Sheets.{is_clean}
use Rattle.css_clean.specs.KeptSheets.{GroupText, group_rule, kept_text}

-- A statement in its text: where that text ends in the whole sheet; what is left of it from the statement on, and
-- from the contents of its block on; and the text of the statement.
pub record StatementPlace : Type 0 where
  pub stop : ℕ
  pub from : List ℕ
  pub inside : List ℕ
  pub text : List ℕ

-- the whole statement
abbrev pub whole_dropped : StatementPlace → Reason → DroppedText
whole_dropped place reason = dropped_piece place.stop place.from place.text reason

-- the offset after the contents of a block, of which this is the text
abbrev pub stop_of_block : StatementPlace → (text : List ℕ) → ℕ
stop_of_block place text = place.stop - (length place.inside - length text)

-- the whole rule, if none of its declarations is kept
abbrev pub empty_dropped : StatementPlace → List DeclarationText → List DroppedText
empty_dropped place [] = whole_dropped place reasons.Empty ∷ []
empty_dropped place (d ∷ more) = []

-- a rule whose selectors are not allowed; or those of its items that are not kept, and then the rule, if none is
abbrev pub dropped_under : SheetPolicyText → StatementPlace → BlockText → Option (List ℕ) → List DroppedText
dropped_under policy place block None = whole_dropped place reasons.Selector ∷ []
dropped_under policy place block (Some selectors) =
    dropped policy.declarations (stop_of_block place block.text) (placed_items true block.text)
    ++ empty_dropped place (kept policy.declarations (items true block.text))

abbrev pub dropped_rule :
    SheetPolicyText → (frames : Bool) → StatementPlace → Stated → BlockText → List DroppedText
dropped_rule policy frames place prelude block =
    dropped_under policy place block (rule_prelude policy frames prelude.text)

-- a statement of the block of a group rule
abbrev pub dropped_inner_statement :
    SheetPolicyText → (frames : Bool) → StatementPlace → StatementText → List DroppedText
dropped_inner_statement policy frames place (rule_set prelude block) =
    dropped_rule policy frames place prelude block
dropped_inner_statement policy frames place (at_rule_statement a) = whole_dropped place reasons.AtRule ∷ []
dropped_inner_statement policy frames place (skipped_statement fault) = whole_dropped place reasons.Broken ∷ []

-- a statement that was read of a text that ends at `stop`
abbrev pub place_in : (in_block : Bool) → (stop : ℕ) → PlacedStatement → StatementPlace
place_in in_block stop one = record {
  stop = stop;
  from = one.from;
  inside = statement_contents in_block one.from;
  text = one.part.text;
}

-- what is dropped of the block of a group rule, which ends at `stop`, in its order
abbrev pub dropped_inner :
    SheetPolicyText → (frames : Bool) → (stop : ℕ) → List PlacedStatement → List DroppedText
dropped_inner policy frames stop [] = []
dropped_inner policy frames stop (one ∷ more) =
    dropped_inner_statement policy frames (place_in true stop one) one.part.statement
    ++ dropped_inner policy frames stop more

-- an at-rule that is no group rule that is allowed; or what is dropped of its block
abbrev pub dropped_group : SheetPolicyText → StatementPlace → Option GroupText → List DroppedText
dropped_group policy place None = whole_dropped place reasons.AtRule ∷ []
dropped_group policy place (Some g) =
    dropped_inner policy (has_frames g.group) (stop_of_block place g.block.text)
    (placed_statements true g.block.text)

-- a statement of a sheet
abbrev pub dropped_statement : SheetPolicyText → StatementPlace → StatementText → List DroppedText
dropped_statement policy place (rule_set prelude block) = dropped_rule policy false place prelude block
dropped_statement policy place (at_rule_statement a) = dropped_group policy place (group_rule policy a)
dropped_statement policy place (skipped_statement fault) = whole_dropped place reasons.Broken ∷ []

-- what is dropped of a sheet that ends at `stop`, in its order
abbrev pub dropped_statements : SheetPolicyText → (stop : ℕ) → List PlacedStatement → List DroppedText
dropped_statements policy stop [] = []
dropped_statements policy stop (one ∷ more) =
    dropped_statement policy (place_in false stop one) one.part.statement
    ++ dropped_statements policy stop more

-- all of a text, for this reason
abbrev pub all_dropped : List ℕ → Reason → List DroppedText
all_dropped text reason = record { start = 0; after = length text; reason = reason } ∷ []

-- What is dropped of a sheet: all of a text that is too long, and of one of which what is kept is not clean.
abbrev pub dropped_of_sheet : SheetPolicyText → List ℕ → List DroppedText
dropped_of_sheet policy text =
    if is_short policy.declarations text
    then (if is_clean policy (kept_text policy text)
    then dropped_statements policy (length text) (placed_statements false text)
    else all_dropped text reasons.Unclean)
    else all_dropped text reasons.Limit
