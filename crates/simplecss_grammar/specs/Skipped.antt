-- What reading a style sheet skips, in order: where it begins, the rest after it, and why.
use Rattle.std.specs.Prelude.{ℕ, Bool, false, if◌then◌else◌, List, [], ◌∷◌, ◌++◌, length, not, ◌==◌, ◌||◌, Option, Some, None, Ok, Err}
use Rattle.std.specs.List.{flat_map}
use Rattle.std.specs.Option.{option_map}
use Rattle.css_text.specs.declared.error.Error.{Error}
use Rattle.css_text.specs.AsciiBytes.{at_sign, comma, open_brace, close_brace}
use Rattle.css_text.specs.Reading.{Reading, got, fails, each}
use Rattle.css_text.specs.Errors.{error_of}
use Rattle.css_text.specs.Bytes.{past, past_one, past_byte, starts, from_brace}
use Rattle.css_text.specs.Characters.{Edition, is_space}
use Rattle.css_text.specs.Comments.{opens_comment, past_blank}
use Rattle.css_text.specs.Names.{name}
use Rattle.simplecss_grammar.specs.Components.{Component}
use Rattle.simplecss_grammar.specs.Tokens.{Token}
use Rattle.simplecss_grammar.specs.Tokens.Token.{universal_selector, type_selector, id_selector, class_selector, attribute_selector, named_pseudo_class, lang_pseudo_class, descendant_combinator, child_combinator, adjacent_combinator}
use Rattle.simplecss_grammar.specs.TokenSequences.{TokenSequence, sequence_of}
use Rattle.simplecss_grammar.specs.TokenSequences.TokenSequence.{item, sequence_end}
use Rattle.simplecss_grammar.specs.Selectors.{Role, role_of, reads}
use Rattle.simplecss_grammar.specs.Terms.{term}
use Rattle.simplecss_grammar.specs.Declarations.{StyleDeclaration, terms, stated_name, declaration}
use Rattle.simplecss_grammar.specs.Blocks.{ends_list, from_block_end, declaration_in_block}
use Rattle.simplecss_grammar.specs.Statements.{StyleRule, part, part_and_comma, parts, at_rule_rest, next_statement}

-- Why a selector is refused: for an error, whose position counts from the start of the text
-- `within`, or for a pseudo-class whose name is not known.
pub data Refusal : Type 0 where
  faulty : (within : List ℕ) → Error → Refusal
  unknown_class : (name : List ℕ) → Refusal

-- Why something is skipped.
pub data Why : Type 0 where
  -- a comma before the first selector of a rule set
  leading_comma : Why
  -- a selector is refused
  refused_selector : Refusal → Why
  -- text between the last selector, which was accepted, and the block
  after_selector : Why
  -- no block follows the last selector, which was accepted
  missing_block : Why
  -- a declaration is broken; what follows it in its block is skipped with it
  broken_declaration : Why
  -- a string or a function of a value is not closed; all that follows is skipped with it
  open_value : Why
  -- a closing brace after a block that is already closed
  extra_brace : Why
  -- a comment is not closed; all that follows is skipped with it
  open_comment : Why
  -- at-rules are not supported; its name, if it has one
  at_rule : (name : Option (List ℕ)) → Why

-- Something that is skipped: the rest where it begins, the rest after it, and why.
pub record Skip : Type 0 where
  pub from : List ℕ
  pub after : List ℕ
  pub why : Why

-- ---- selectors

-- the name of a pseudo-class; no other token has one
abbrev pub class_name : Token → List ℕ
class_name (named_pseudo_class n) = n
class_name universal_selector = []
class_name (type_selector n) = []
class_name (id_selector n) = []
class_name (class_selector n) = []
class_name (attribute_selector n operator) = []
class_name (lang_pseudo_class value) = []
class_name descendant_combinator = []
class_name child_combinator = []
class_name adjacent_combinator = []

-- a token without a role is a pseudo-class whose name is not known, which is refused
abbrev pub unless_unknown : Option Role → Token → Option Refusal → Option Refusal
unless_unknown (Some role) token later = later
unless_unknown None token later = Some (unknown_class (class_name token))

-- why the sequence of a text is refused, if it is: its first fault or unknown pseudo-class
abbrev pub refusal_in : (text : List ℕ) → TokenSequence → Option Refusal
refusal_in text (sequence_end left) = None
refusal_in text (item (Err fault) after rest) = Some (faulty text (error_of text fault))
refusal_in text (item (Ok token) after rest) =
    unless_unknown (role_of token) token (refusal_in text rest)

-- why the selector at the start of a text is refused, if it is
unfoldable pub refusal : Edition → List ℕ → Option Refusal
refusal edition text = refusal_in text (sequence_of edition text)

-- The rest after a refused selector and what is skipped with it: the text up to the comma, or
-- without one up to the block.
abbrev pub past_refused : List ℕ → List ℕ
past_refused rest = if starts comma rest then rest else from_brace rest

-- the selector after a blank, which is refused
abbrev pub refused : (text rest : List ℕ) → Refusal → Skip
refused text rest r =
    record { from = past_blank text; after = past_refused rest; why = refused_selector r }

-- the same, if it is refused
abbrev pub refused_part : (text rest : List ℕ) → Option Refusal → List Skip
refused_part text rest None = []
refused_part text rest (Some r) = refused text rest r ∷ []

-- what the selector at the start of a text skips: itself, if it is refused
unfoldable pub selector_skips : Edition → List ℕ → List Skip
selector_skips edition text =
    refused_part text (past is_space (reads edition text).1) (refusal edition text)

-- Why the text after the last selector is skipped: a block follows it, or none does.
abbrev pub why_after : List ℕ → Why
why_after block = if length block == 0 then missing_block else after_selector

-- What is skipped after a selector that was accepted: nothing before a comma or a block, else
-- everything up to the block.
abbrev pub skips_after : (rest : List ℕ) → List Skip
skips_after rest =
    if starts comma rest || starts open_brace rest then []
    else record { from = rest; after = from_brace rest; why = why_after (from_brace rest) } ∷ []

-- the same, if a selector was accepted
abbrev pub skips_after_read : Option (List Component) → List ℕ → List Skip
skips_after_read None rest = []
skips_after_read (Some selector) rest = skips_after rest

-- what a part of a rule set skips: its selector, if that is refused, else what the selector leaves
-- before the block
unfoldable pub part_skips : Edition → List ℕ → List Skip
part_skips edition text =
    selector_skips edition text
    ++ skips_after_read (part edition text).0 (part edition text).1

-- ---- one thing after another

-- the skips of a text, if `read` finds something at its start
abbrev pub skips_with : {A B : Type 0} → (List ℕ → B) → (List ℕ → Option (A × List ℕ)) → List ℕ
    → Option (B × List ℕ)
skips_with skips read text = option_map (λ x. (skips text, x.1)) (read text)

-- What is skipped wherever `read` finds something, one after another, and then in the rest.
unfoldable pub skips_of_each : {A : Type 0} → (skips last : List ℕ → List Skip)
    → (List ℕ → Option (A × List ℕ)) → List ℕ → List Skip
skips_of_each skips last read text =
    let found = each (skips_with skips read) text in
    flat_map (λ skips. skips) found.0 ++ last found.1

-- what the parts of a rule set skip
unfoldable pub parts_skips : Edition → List ℕ → List Skip
parts_skips edition text =
    skips_of_each (part_skips edition) (part_skips edition) (part_and_comma edition) text

-- ---- values

-- A term that fails and leaves nothing: a string or a function that is not closed.
abbrev pub is_open_term : Reading (Unit {0}) → Bool
is_open_term (got u rest) = false
is_open_term (fails fault rest) = length rest == 0

-- What is skipped in place of a term: nothing, if nothing is left or no term begins there; or a
-- string or a function that is not closed, with all that follows it.
abbrev pub open_skips : (text : List ℕ) → Reading (Unit {0}) → List Skip
open_skips text read =
    if length text == 0 || not (is_open_term read) then []
    else record { from = text; after = []; why = open_value } ∷ []

-- what a value skips: what is in place of a term after its last one
abbrev pub value_skips : Edition → List ℕ → List Skip
value_skips edition text =
    open_skips (terms edition text).1 (term edition (terms edition text).1)

-- what the value skips, if a name and a colon precede it
abbrev pub skips_after_name : Edition → Reading (List ℕ) → List Skip
skips_after_name edition (got property rest) = value_skips edition rest
skips_after_name edition (fails fault rest) = []

-- what a declaration that is read skips
unfoldable pub declaration_skips : Edition → List ℕ → List Skip
declaration_skips edition text = skips_after_name edition (stated_name edition text)

-- ---- blocks

-- a closing brace that follows a block
abbrev pub brace_skips : List ℕ → List Skip
brace_skips text =
    if starts close_brace text
    then record { from = text; after = past_one text; why = extra_brace } ∷ []
    else []

-- What follows a blank in place of a declaration, with the rest of its block up to the closing
-- brace: nothing, if the block or the text ends there; an open comment; or a broken declaration.
abbrev pub list_end_skips : (text after : List ℕ) → List Skip
list_end_skips text after =
    if ends_list (past_blank text) then []
    else record {
      from = past_blank text;
      after = after;
      why = if opens_comment (past_blank text) then open_comment else broken_declaration;
    } ∷ []

-- the same, and then the closing brace that may follow the block's own
abbrev pub broken_part : (text after : List ℕ) → List Skip
broken_part text after = list_end_skips text after ++ brace_skips (past_byte close_brace after)

-- the same, if no declaration is read there
abbrev pub if_broken : (text : List ℕ) → Reading StyleDeclaration → List Skip
if_broken text (got declared rest) = []
if_broken text (fails fault rest) = broken_part text (from_block_end rest)

-- what is skipped after the declarations of a block
abbrev pub list_skips : Edition → List ℕ → List Skip
list_skips edition text = if ends_list text then [] else if_broken text (declaration edition text)

-- What a block skips, after its opening brace: a string or a function of a value that is not
-- closed; or at most one declaration with what follows it, and a closing brace after the block's
-- own.
unfoldable pub block_skips : Edition → List ℕ → List Skip
block_skips edition text =
    skips_of_each (declaration_skips edition) (list_skips edition)
    (declaration_in_block edition) text

-- the same of the block that the next opening brace begins
unfoldable pub next_block_skips : Edition → List ℕ → List Skip
next_block_skips edition text =
    let opened = from_brace text in
    if starts open_brace opened then block_skips edition (past_one opened) else []

-- ---- statements

-- a comma before the first selector
abbrev pub comma_skips : List ℕ → List Skip
comma_skips text =
    if starts comma text
    then record { from = text; after = past_one text; why = leading_comma } ∷ []
    else []

-- what a rule set skips: a comma, selectors, and then of its block
unfoldable pub rule_set_skips : Edition → List ℕ → List Skip
rule_set_skips edition text =
    comma_skips text
    ++ (parts_skips edition (past_byte comma text)
    ++ next_block_skips edition (parts edition (past_byte comma text)).1)

-- the name that was read, if one was
abbrev pub name_of : Reading (List ℕ) → Option (List ℕ)
name_of (got n rest) = Some n
name_of (fails fault rest) = None

-- an at-rule, which is skipped whole
abbrev pub at_rule_skip : Edition → List ℕ → Skip
at_rule_skip edition text =
    record {
      from = text;
      after = at_rule_rest edition (past_one text);
      why = at_rule (name_of (name edition (past_one text)));
    }

-- what a statement skips
unfoldable pub statement_skips : Edition → List ℕ → List Skip
statement_skips edition text =
    if starts at_sign text then at_rule_skip edition text ∷ [] else rule_set_skips edition text

-- after the last statement: a comment that is not closed, with all that follows it
abbrev pub end_skips : List ℕ → List Skip
end_skips text =
    if opens_comment (past_blank text)
    then record { from = past_blank text; after = []; why = open_comment } ∷ []
    else []

-- What reading a style sheet skips, in order.
unfoldable pub skipped : Edition → List ℕ → List Skip
skipped edition text =
    skips_of_each (λ t. statement_skips edition (past_blank t)) end_skips
    (next_statement edition) text

-- ---- one statement

-- the skips of a statement that was read, or of what is in its place
abbrev pub skips_of_next : Edition → List ℕ → Option (List StyleRule × List ℕ) → List Skip
skips_of_next edition text None = end_skips text
skips_of_next edition text (Some read) = statement_skips edition (past_blank text)

-- What reading the next statement skips: the skips of that statement, or if there is none, a
-- comment that is open there.
abbrev pub next_skips : Edition → List ℕ → List Skip
next_skips edition text = skips_of_next edition text (next_statement edition text)

-- ---- reporting

-- the state of a reporter after these reports, one after another
abbrev pub add_each : {S : Type 0} → (S → Skip → S) → S → List Skip → S
add_each add s [] = s
add_each add s (x ∷ xs) = add_each add (add s x) xs
