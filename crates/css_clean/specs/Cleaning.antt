-- What is kept of a list of declarations, and what is dropped.
use Rattle.std.specs.Prelude.{◌≡◌, ℕ, ◌-◌, Bool, true, false, not, ◌||◌, ◌&&◌, if◌then◌else◌, bytes_eq, nat_le, List, [], ◌∷◌, ◌++◌, length, Option, Some, None}
use Rattle.css_syntax.specs.DeclarationLists.{DeclarationText, ItemText, declared, at_rule_item, skipped_item, ListText, items}
use Rattle.css_syntax.specs.Placed.{PlacedItem, placed_items}
use Rattle.css_syntax.specs.Printing.{list_text, declaration_text}
use Rattle.clean_values.specs.Values.{ChangesText, has_backslash, written_name, written_value}
use Rattle.clean_values.specs.Checks.{changes_nothing}
use Rattle.clean_values.specs.Plain.{plain_name, plain_value}
use Rattle.css_clean.specs.Policies.{PolicyText, is_allowed, reason_of}
use Rattle.css_clean.specs.declared.dropped.Reason.{Reason}
use Rattle.css_clean.specs.declared.dropped.Reason.TheVariants.{AtRule, Broken, Limit}

-- ---- declarations, written anew

-- its name or its value has a backslash, and so perhaps an escape
abbrev pub has_escape : DeclarationText → Bool
has_escape d = has_backslash d.name || has_backslash d.value

-- a declaration with its escapes decoded, but for those that it needs
abbrev pub without_escapes : DeclarationText → DeclarationText
without_escapes d =
    if has_escape d
    then record {
      name = plain_name d.name;
      value = plain_value d.value;
      important = d.important;
      closed = d.closed;
    } else d

-- a declaration is not written as it is
abbrev pub is_new : ChangesText → DeclarationText → Bool
is_new changes d = has_escape d || not (changes_nothing changes)

-- with the prefix, if it is of a custom property
abbrev pub renamed : ChangesText → DeclarationText → DeclarationText
renamed changes d = record {
  name = written_name changes d.name;
  value = d.value;
  important = d.important;
  closed = d.closed;
}

-- with this value
abbrev pub revalued : DeclarationText → Option (List ℕ) → Option DeclarationText
revalued d None = None
revalued d (Some value) = Some
    (record { name = d.name; value = value; important = d.important; closed = d.closed })

-- a declaration with its urls by their answers, and with the prefix of names, if each url has an answer
abbrev pub rewritten : ChangesText → DeclarationText → Option DeclarationText
rewritten changes d = revalued (renamed changes d) (written_value changes d.name d.value)

-- the same, or the declaration, if nothing is changed
abbrev pub written : ChangesText → DeclarationText → Option DeclarationText
written changes d = if changes_nothing changes then Some d else rewritten changes d

abbrev pub is_same : (a b : Bool) → Bool
is_same a b = if a then b else not b

-- the item is this declaration
abbrev pub is_item : DeclarationText → ItemText → Bool
is_item d (declared e) =
    bytes_eq e.name d.name && bytes_eq e.value d.value && is_same e.important d.important
    && is_same e.closed d.closed
is_item d (at_rule_item a) = false
is_item d (skipped_item fault) = false

abbrev pub is_first : DeclarationText → List ListText → Bool
is_first d [] = false
is_first d (part ∷ more) = is_item d part.item

-- the text of the declaration is read as it
abbrev pub reads_back : DeclarationText → Bool
reads_back d = is_first d (items false (declaration_text d))

-- ---- what is kept

-- a declaration that is allowed, and, if it is new, reads back
abbrev pub is_kept : PolicyText → (new : Bool) → DeclarationText → Bool
is_kept policy new d = is_allowed policy d && (not new || reads_back d)

abbrev pub kept_written : PolicyText → (new : Bool) → Option DeclarationText → List DeclarationText
kept_written policy new None = []
kept_written policy new (Some d) = if is_kept policy new d then d ∷ [] else []

-- an item: a declaration that, written anew without escapes, is kept
abbrev pub kept_item : PolicyText → ItemText → List DeclarationText
kept_item policy (declared d) =
    kept_written policy (is_new policy.changes d) (written policy.changes (without_escapes d))
kept_item policy (at_rule_item a) = []
kept_item policy (skipped_item fault) = []

-- the declarations that are allowed, in their order
abbrev pub kept : PolicyText → List ListText → List DeclarationText
kept policy [] = []
kept policy (part ∷ more) = kept_item policy part.item ++ kept policy more

-- the text of a style attribute, cleaned: the declarations of it that are allowed, printed
abbrev pub cleaned : PolicyText → List ℕ → List ℕ
cleaned policy text = list_text (kept policy (items false text))

-- cleaned again, a text is unchanged, if the policy changes nothing of values
abbrev pub IsCleanedOnce : PolicyText → List ℕ → Type 0
IsCleanedOnce policy text =
    changes_nothing policy.changes ≡ true → cleaned policy (cleaned policy text) ≡ cleaned policy text

-- What follows a cleaned text, in a block or in a style attribute, is read as it is alone.
abbrev pub LeavesAlone : PolicyText → List ℕ → (in_block : Bool) → (more : List ℕ) → Type 0
LeavesAlone policy text in_block more =
    items in_block (cleaned policy text ++ more)
    ≡ items in_block (cleaned policy text) ++ items in_block more

-- the text is not longer than the policy says
abbrev pub is_short : PolicyText → List ℕ → Bool
is_short policy text = nat_le (length text) policy.longest

-- what is read of a text: nothing, if it is longer than that
abbrev pub read_of : PolicyText → List ℕ → List ℕ
read_of policy text = if is_short policy text then text else []

-- ---- what is dropped

-- A piece that is dropped: the offsets of its first byte and after its last, and why.
pub record DroppedText : Type 0 where
  pub start : ℕ
  pub after : ℕ
  pub reason : Reason

-- a piece of a text, of which `from` is left from the piece on and which ends at the offset `stop`
abbrev pub dropped_piece : (stop : ℕ) → (from text : List ℕ) → Reason → DroppedText
dropped_piece stop from text reason = record {
  start = stop - length from;
  after = stop - (length from - length text);
  reason = reason;
}

-- why a declaration is not kept, by what is written of it
abbrev pub refusal_of : PolicyText → (new : Bool) → DeclarationText → Option DeclarationText → Option Reason
refusal_of policy new d None = Some (reason_of policy (renamed policy.changes d))
refusal_of policy new d (Some e) = if is_kept policy new e then None else Some (reason_of policy e)

-- why a declaration is not kept
abbrev pub refusal : PolicyText → DeclarationText → Option Reason
refusal policy d =
    let plain = without_escapes d in
    refusal_of policy (is_new policy.changes d) plain (written policy.changes plain)

-- a piece, if there is a reason
abbrev pub piece_dropped : (stop : ℕ) → (from text : List ℕ) → Option Reason → List DroppedText
piece_dropped stop from text None = []
piece_dropped stop from text (Some reason) = dropped_piece stop from text reason ∷ []

-- an item with this text that is not kept
abbrev pub item_dropped :
    PolicyText → (stop : ℕ) → (from text : List ℕ) → ItemText → List DroppedText
item_dropped policy stop from text (declared d) =
    piece_dropped stop from text (refusal policy d)
item_dropped policy stop from text (at_rule_item a) = dropped_piece stop from text AtRule ∷ []
item_dropped policy stop from text (skipped_item fault) = dropped_piece stop from text Broken ∷ []

-- the same of an item in its place
abbrev pub dropped_item : PolicyText → (stop : ℕ) → PlacedItem → List DroppedText
dropped_item policy stop one = item_dropped policy stop one.from one.part.text one.part.item

-- the items that are not kept, in their order
abbrev pub dropped : PolicyText → (stop : ℕ) → List PlacedItem → List DroppedText
dropped policy stop [] = []
dropped policy stop (one ∷ more) = dropped_item policy stop one ++ dropped policy stop more

-- what is dropped of a style attribute: all of a text that is too long
abbrev pub dropped_of : PolicyText → List ℕ → List DroppedText
dropped_of policy text =
    if is_short policy text then dropped policy (length text) (placed_items false text)
    else record { start = 0; after = length text; reason = Limit } ∷ []
