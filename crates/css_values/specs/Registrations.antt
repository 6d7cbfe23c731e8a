-- Registrations of custom properties by `@property` (CSS Properties and Values API 1, section 2).
use Rattle.std.specs.Prelude.{ℕ, Bool, true, false, not, ◌&&◌, ◌||◌, ◌==◌, if◌then◌else◌, List, [], ◌∷◌, length, codes, reverse, Option, Some, None}
use Rattle.std.specs.List.{filter_map}
use Rattle.css_text.specs.Bytes.{past_byte, starts}
use Rattle.css_text.specs.Reading.{before}
use Rattle.css_syntax.specs.Tokens.{past_gap, past_word, past_string_parts, spells}
use Rattle.css_syntax.specs.Escapes.{decoded, decoded_string}
use Rattle.css_syntax.specs.DeclarationLists.{DeclarationText, ListText, ItemText, declared, at_rule_item, skipped_item, items}
use Rattle.css_values.specs.Pieces.{Piece, plain, reference, broken, pieces}
use Rattle.css_values.specs.Substitution.{is_custom_name}
use Rattle.css_values.specs.Validity.{all_valid}

-- A name and a text: of a property, or what is before the block of a rule and what is in it.
pub record Stated : Type 0 where
  pub name : List ℕ
  pub text : List ℕ

-- A registration: the name as written, whether its values are any tokens, whether parents hand the property
-- down, and its initial value.
pub record Registration : Type 0 where
  pub name : List ℕ
  pub universal : Bool
  pub inherits : Bool
  pub initial : Option (List ℕ)

-- What a rule says: whether the syntax is `*`, whether the property is inherited, and the initial value.
pub record Descriptors : Type 0 where
  pub universal : Option Bool
  pub inherits : Option Bool
  pub initial : Option (List ℕ)

-- the text is this keyword alone
abbrev pub is_keyword : List ℕ → List ℕ → Bool
is_keyword keyword text =
    let from = past_gap text in
    let rest = past_word from in
    spells keyword (before from rest) && length (past_gap rest) == 0

-- a star, with blanks or none around it
abbrev pub is_star : List ℕ → Bool
is_star text =
    let from = past_gap text in
    starts 42 from && length (past_gap (past_byte 42 from)) == 0

-- the text begins with a quote
abbrev pub is_quoted : List ℕ → Bool
is_quoted text = starts 34 text || starts 39 text

-- whether a syntax is `*`: its text is what a string denotes that begins here, from after this quote
abbrev pub syntax_from : (quote : ℕ) → List ℕ → Option Bool
syntax_from quote text =
    let rest = past_string_parts quote text in
    let content = decoded_string (before text rest) in
    if length (past_gap (past_byte quote rest)) == 0 && not (length content == 0)
    then Some (is_star content) else None

-- whether the value of `syntax` is the string `*`, if it is a string that is not empty
abbrev pub syntax_of : List ℕ → Option Bool
syntax_of text =
    if starts 34 text then syntax_from 34 (past_byte 34 text)
    else (if starts 39 text then syntax_from 39 (past_byte 39 text) else None)

-- the value of `inherits`, if it is `true` or `false`
abbrev pub inherits_of : List ℕ → Option Bool
inherits_of text =
    if is_keyword (codes "true") text then Some true
    else (if is_keyword (codes "false") text then Some false else None)

-- the first, if there is one, else the second
abbrev pub or_else : {A : Type 0} → Option A → Option A → Option A
or_else None other = other
or_else (Some one) other = Some one

-- what a declaration of the rule says, after those before it; another name says nothing
abbrev pub described : Descriptors → DeclarationText → Descriptors
described so_far one =
    if spells (codes "syntax") one.name
    then record {
      universal = or_else (syntax_of one.value) so_far.universal;
      inherits = so_far.inherits;
      initial = so_far.initial;
    }
    else (if spells (codes "inherits") one.name
    then record {
      universal = so_far.universal;
      inherits = or_else (inherits_of one.value) so_far.inherits;
      initial = so_far.initial;
    }
    else (if spells (codes "initial-value") one.name
    then record {
      universal = so_far.universal;
      inherits = so_far.inherits;
      initial = Some one.value;
    }
    else so_far))

-- the same of any item: one that is important says nothing
abbrev pub described_by : Descriptors → ItemText → Descriptors
described_by so_far (declared one) = if one.important then so_far else described so_far one
described_by so_far (at_rule_item rule) = so_far
described_by so_far (skipped_item fault) = so_far

abbrev pub nothing_said : Descriptors
nothing_said = record { universal = None; inherits = None; initial = None }

-- the same of items, one after another
abbrev pub described_by_all : Descriptors → List ListText → Descriptors
described_by_all so_far [] = so_far
described_by_all so_far (part ∷ more) = described_by_all (described_by so_far part.item) more

-- what the block of a rule says
abbrev pub descriptors_of : List ℕ → Descriptors
descriptors_of block = described_by_all nothing_said (items true block)

abbrev pub is_plain : Piece → Bool
is_plain (plain text) = true
is_plain (reference name fallback) = false
is_plain broken = false

-- An initial value has no references; there is one unless the syntax is `*`.
abbrev pub is_initial_value : (universal : Bool) → Option (List ℕ) → Bool
is_initial_value universal None = universal
is_initial_value universal (Some text) = all_valid is_plain (pieces text)

-- the registration of this name by what a rule says, if it says the syntax and whether it is inherited
abbrev pub registration_by : (name : List ℕ) → Option Bool → Option Bool → Option (List ℕ) → Option Registration
registration_by name None inherits initial = None
registration_by name (Some universal) None initial = None
registration_by name (Some universal) (Some inherits) initial =
    if is_initial_value universal initial
    then Some (record {
      name = name;
      universal = universal;
      inherits = inherits;
      initial = initial;
    })
    else None

abbrev pub registration_with : (name : List ℕ) → Descriptors → Option Registration
registration_with name said = registration_by name said.universal said.inherits said.initial

-- the registration of a rule by what is before its block, which is the name of a custom property, and by its
-- block
abbrev pub registration_of : Stated → Option Registration
registration_of rule =
    let from = past_gap rule.name in
    let rest = past_word from in
    let name = before from rest in
    if is_custom_name (decoded name) && length (past_gap rest) == 0
    then registration_with name (descriptors_of rule.text) else None

-- the registrations of rules, from the last: the first of a name is the one that counts
abbrev pub registrations_of : List Stated → List Registration
registrations_of rules = reverse (filter_map registration_of rules)
