-- Filling a draft role by role makes the selector of the roles.
-- Serves `Selector::{parse, parse_front}` (the selector of the tokens of a text).
use Rattle.std.proofs.Common.{◌≡◌, ◌<◌, ℕ, Bool, true, false, Option, Some, None, Ok, Err, is_some, List, [], ◌∷◌, ◌++◌, length, refl, sym, ap, ◌∙◌, append_assoc, append-nil, map, arith}
use Rattle.simplecss_grammar.specs.Components.{Component}
use Rattle.css_text.specs.declared.error.Error.{Error}
use Rattle.simplecss_grammar.specs.TokenSequences.{TokenSequence, sequence_of, items}
use Rattle.css_text.specs.Bytes.{past}
use Rattle.css_text.specs.Characters.{is_space}
use Rattle.css_text.specs.Errors.{error_of}
use Rattle.simplecss_grammar.specs.Tokens.{Token}
use Rattle.simplecss_grammar.specs.Skipped.{Refusal, faulty, unknown_class, unless_unknown, class_name, refusal_in, refusal, refused as refused_skip, refused_part, selector_skips}
use Rattle.css_text.specs.ThisEdition.{this_edition}
use Rattle.simplecss_grammar.specs.Selectors.{Part, Role, Outcome, role_of, outcome, with_role, after_role, cut, type_among, subselectors_among, component_of, components_of, selector_of, reads}
use Rattle.simplecss_grammar.specs.Selectors.Part.{any_type, of_type, with}
use Rattle.simplecss_grammar.specs.Selectors.Role.{part, joined_by}
use Rattle.simplecss_grammar.specs.Selectors.Outcome.{refused, accepted}
use Rattle.simplecss_selector.specs.declared.token.SelectorToken.{SelectorToken}
use Rattle.simplecss_selector.specs.TokenViews.{token_of}
use Rattle.simplecss_selector.specs.internal.SelectorDrafts.{Drafted, empty_draft, drafted_after, drafted_if, continued, finished, selector_after, selector_read}
use Rattle.simplecss_selector.specs.SelectorTokenizers.{GivesFirst}

-- the component with the further conditions of the parts
abbrev pub extended : Component → List Part → Component
extended c parts = record {
  combinator = c.combinator;
  compound = record {
    name = type_among c.compound.name parts;
    subselectors = c.compound.subselectors ++ subselectors_among parts;
  };
}

extended-none : (c : Component) → extended c [] ≡ c
extended-none c = ap (λ l. record {
  combinator = c.combinator;
  compound = record { name = c.compound.name; subselectors = l };
}) (append-nil c.compound.subselectors)

pub continued-cut : (roles : List Role) (d : Drafted)
    → continued d roles ≡ d.done ++ extended d.last (cut roles).0 ∷ map component_of (cut roles).1
continued-cut [] d = ap (λ c. d.done ++ c ∷ []) (sym (extended-none d.last))
continued-cut (part any_type ∷ roles) d = continued-cut roles d
continued-cut (part (of_type name) ∷ roles) d =
    continued-cut roles (drafted_after (part (of_type name)) d)
continued-cut (part (with s) ∷ roles) d =
    continued-cut roles (drafted_after (part (with s)) d)
    ∙ ap (λ l. d.done ++ (record {
      combinator = d.last.combinator;
      compound = record { name = type_among d.last.compound.name (cut roles).0; subselectors = l };
    }) ∷ map component_of (cut roles).1)
    (append_assoc d.last.compound.subselectors (s ∷ []) (subselectors_among (cut roles).0))
continued-cut (joined_by combinator ∷ roles) d =
    continued-cut roles (drafted_after (joined_by combinator) d)
    ∙ append_assoc d.done (d.last ∷ []) _
    ∙ ap (λ c. d.done ++ c ∷ component_of (combinator, (cut roles).0)
    ∷ map component_of (cut roles).1) (sym (extended-none d.last))

pub continued-by_byte : (roles : List Role) → continued empty_draft roles ≡ components_of roles
continued-by_byte roles = continued-cut roles empty_draft

selector_after_empty_draft : (outcome : Outcome)
    → selector_after empty_draft outcome ≡ selector_of outcome
selector_after_empty_draft (refused left) = refl
selector_after_empty_draft (accepted roles left) =
    ap (λ cs. (Some cs, left)) (continued-by_byte roles)

-- what was put into an empty draft is what the text reads as
pub read-whole : (is_read b : Bool) (d empty : Drafted) (left text : List ℕ) (all : TokenSequence)
    → empty ≡ empty_draft → all ≡ sequence_of this_edition text → is_read ≡ b
    → selector_read is_read d left ≡ selector_after empty (outcome all)
    → selector_read b d left ≡ reads this_edition text
unfolding reads
read-whole is_read b d empty left text all e s t h =
    ap (λ x. selector_read x d left) (sym t) ∙ h ∙ ap (λ x. selector_after x (outcome all)) e
    ∙ ap (λ x. selector_after empty_draft (outcome x)) s
    ∙ selector_after_empty_draft (outcome (sequence_of this_edition text))

selector_after-with_role : (role : Role) (d : Drafted) (rest : Outcome)
    → selector_after d (with_role role rest) ≡ selector_after (drafted_after role d) rest
selector_after-with_role role d (refused left) = refl
selector_after-with_role role d (accepted roles left) = refl

-- a token that has a role is added to the draft
selector_after_role : (role : Option Role) (d : Drafted) (after : List ℕ) (rest : Outcome)
    → is_some role ≡ true
    → selector_after (drafted_if role d) rest ≡ selector_after d (after_role role after rest)
selector_after_role (Some role) d after rest h = sym (selector_after-with_role role d rest)
selector_after_role None d after rest h = absurd (cc)

-- a token that has none ends the reading
selector_after_none : (role : Option Role) (d : Drafted) (after : List ℕ) (rest : Outcome)
    → is_some role ≡ false → (None, after) ≡ selector_after d (after_role role after rest)
selector_after_none (Some role) d after rest h = absurd (cc)
selector_after_none None d after rest h = refl

pub token-filled : (text : List ℕ) (d : Drafted) (token : SelectorToken)
    (before after : TokenSequence) (left : List ℕ)
    → GivesFirst text before (Some (Ok token)) left after
    → is_some (role_of (token_of token)) ≡ true
    → selector_after (drafted_if (role_of (token_of token)) d) (outcome after)
    ≡ selector_after d (outcome before)
token-filled text d token before after left (Ok reported, e, b) h =
    let same : token_of token ≡ reported = cc in
    rw (b, ← same) (selector_after_role (role_of (token_of token)) d left (outcome after) h)
token-filled text d token before after left (Err fault, e, b) h = absurd (cc)

pub token-unknown : (text : List ℕ) (d : Drafted) (token : SelectorToken)
    (before after : TokenSequence) (left : List ℕ)
    → GivesFirst text before (Some (Ok token)) left after
    → is_some (role_of (token_of token)) ≡ false → (None, left) ≡ selector_after d (outcome before)
token-unknown text d token before after left (Ok reported, e, b) h =
    let same : token_of token ≡ reported = cc in
    rw (b, ← same) (selector_after_none (role_of (token_of token)) d left (outcome after) h)
token-unknown text d token before after left (Err fault, e, b) h = absurd (cc)

pub error-refused : (text : List ℕ) (d : Drafted) (error : Error) (before after : TokenSequence)
    (left : List ℕ) → GivesFirst text before (Some (Err error)) left after
    → (None, left) ≡ selector_after d (outcome before)
error-refused text d error before after left (Ok reported, e, b) = absurd (cc)
error-refused text d error before after left (Err fault, e, b) = rw b refl

pub end-finished : (text : List ℕ) (d : Drafted) (before after : TokenSequence) (left : List ℕ)
    → GivesFirst text before None left after
    → (Some (finished d), left) ≡ selector_after d (outcome before)
end-finished text d before after left (b, e) = rw b refl

pub token-fewer : (text : List ℕ) (token : SelectorToken) (before after : TokenSequence)
    (left : List ℕ) → GivesFirst text before (Some (Ok token)) left after
    → length (items after) < length (items before)
token-fewer text token before after left (reported, e, b) = rw b (omega arith)

-- ---- why a selector is refused

-- a token that has a role refuses nothing
refusal_role : (role : Option Role) (token : Token) (later : Option Refusal) → is_some role ≡ true
    → later ≡ unless_unknown role token later
refusal_role (Some role) token later h = refl
refusal_role None token later h = absurd (cc)

-- a token that has none is why
refusal_no_role : (role : Option Role) (token : Token) (later : Option Refusal)
    → is_some role ≡ false
    → Some (unknown_class (class_name token)) ≡ unless_unknown role token later
refusal_no_role (Some role) token later h = absurd (cc)
refusal_no_role None token later h = refl

pub refusal-filled : (text : List ℕ) (token : SelectorToken) (before after : TokenSequence)
    (left : List ℕ) → GivesFirst text before (Some (Ok token)) left after
    → is_some (role_of (token_of token)) ≡ true → refusal_in text after ≡ refusal_in text before
refusal-filled text token before after left (Ok reported, e, b) h =
    let same : token_of token ≡ reported = cc in
    rw (b, ← same)
    (refusal_role (role_of (token_of token)) (token_of token) (refusal_in text after) h)
refusal-filled text token before after left (Err fault, e, b) h = absurd (cc)

pub refusal-unknown : (text : List ℕ) (token : SelectorToken) (before after : TokenSequence)
    (left : List ℕ) → GivesFirst text before (Some (Ok token)) left after
    → is_some (role_of (token_of token)) ≡ false
    → Some (unknown_class (class_name (token_of token))) ≡ refusal_in text before
refusal-unknown text token before after left (Ok reported, e, b) h =
    let same : token_of token ≡ reported = cc in
    rw (b, ← same)
    (refusal_no_role (role_of (token_of token)) (token_of token) (refusal_in text after) h)
refusal-unknown text token before after left (Err fault, e, b) h = absurd (cc)

pub refusal-error : (text : List ℕ) (error : Error) (before after : TokenSequence) (left : List ℕ)
    → GivesFirst text before (Some (Err error)) left after
    → Some (faulty text error) ≡ refusal_in text before
refusal-error text error before after left (Ok reported, e, b) = absurd (cc)
refusal-error text error before after left (Err fault, e, b) =
    let same : error ≡ error_of text fault = cc in
    rw (b, same) refl

pub refusal-end : (text : List ℕ) (before after : TokenSequence) (left : List ℕ)
    → GivesFirst text before None left after → None ≡ refusal_in text before
refusal-end text before after left (b, e) = rw b refl

-- what the selector at the start of a text skips, from where reading it ends
pub selector_skips-is : (text left : List ℕ) (all : TokenSequence)
    → all ≡ sequence_of this_edition text → (reads this_edition text).1 ≡ left
    → selector_skips this_edition text
    ≡ refused_part text (past is_space left) (refusal_in text all)
unfolding selector_skips refusal
selector_skips-is text left all s e = rw (e, s) refl

-- the report of a refusal
pub refused-reported : (text left rest : List ℕ) (r : Refusal) (why : Option Refusal) → Some r ≡ why
    → left ≡ rest
    → refused_skip text (past is_space left) r ∷ [] ≡ refused_part text (past is_space rest) why
refused-reported text left rest r why w l = rw (sym w, l) refl
