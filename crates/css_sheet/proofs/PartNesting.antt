-- Items stand outside of style rules.
-- Serves `ReadRules::push_sheet`.
use Rattle.std.proofs.Common.{◌≡◌, ℕ, Bool, List, Option, None, Some, refl}
use Rattle.css_syntax.specs.Blocks.{BlockPart, listed, opens_rule, opens_at_rule, closes, next_block_part}
use Rattle.css_syntax.specs.DeclarationLists.{past_separators}
use Rattle.css_syntax.specs.Parts.{Stated}
use Rattle.css_sheet.specs.SheetItems.{group_keyword}
use Rattle.css_sheet.specs.SheetParts.{OpenText, Nesting, outside, within, nested, SheetPart, states, begins, ends, stands, at_rule_in, is_more_open, nesting_of, next_by, next_in, option_inside}

abbrev pub StandsIn : SheetPart → Nesting → Type 0
StandsIn (states text) nesting = Unit {0}
StandsIn (begins kind) nesting = Unit {0}
StandsIn ends nesting = Unit {0}
StandsIn (stands item) nesting = nesting ≡ outside

-- an item stands outside of style rules
abbrev pub StandsOutside : SheetPart → List OpenText → Type 0
StandsOutside part around = StandsIn part (nesting_of around)

abbrev pub FoundOutside : Option (SheetPart × List ℕ) → Nesting → Type 0
FoundOutside None nesting = Unit {0}
FoundOutside (Some found) nesting = StandsIn found.0 nesting

anywhere : (part : SheetPart) → StandsIn part outside
anywhere (states text) = tt
anywhere (begins kind) = tt
anywhere ends = tt
anywhere (stands item) = refl

found-anywhere : (found : Option (SheetPart × List ℕ)) → FoundOutside found outside
found-anywhere None = tt
found-anywhere (Some found) = anywhere found.0

at_rule-inside : (start : List ℕ) (prelude : Stated) (rest : List ℕ) (keyword : Option (List ℕ))
    (nesting : Nesting) → StandsIn (at_rule_in start prelude rest keyword).0 nesting
at_rule-inside start prelude rest None nesting = tt
at_rule-inside start prelude rest (Some keyword) nesting = tt

inside-none : (start : List ℕ) (found : Option (BlockPart × List ℕ)) (nesting : Nesting)
    → FoundOutside (option_inside start found) nesting
inside-none start None nesting = tt
inside-none start (Some (listed item, rest)) nesting = tt
inside-none start (Some (opens_rule prelude, rest)) nesting = tt
inside-none start (Some (opens_at_rule name prelude, rest)) nesting =
    at_rule-inside start prelude rest (group_keyword name) nesting
inside-none start (Some (closes, rest)) nesting = tt

by-outside : (nesting : Nesting) (in_block : Bool) (text : List ℕ)
    → FoundOutside (next_by nesting in_block text) nesting
by-outside outside in_block text = found-anywhere (next_by outside in_block text)
by-outside (within prelude) in_block text =
    inside-none (past_separators text) (next_block_part text) (within prelude)
by-outside nested in_block text = inside-none (past_separators text) (next_block_part text) nested

pub found-outside : (depth : ℕ) (around : List OpenText) (text : List ℕ)
    → FoundOutside (next_in depth around text) (nesting_of around)
unfolding next_in
found-outside depth around text = by-outside (nesting_of around) (is_more_open depth around) text
