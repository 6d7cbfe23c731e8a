-- A policy, as a caller passes it.
use Rattle.std.specs.Prelude.{◌≡◌, ◌≤◌, ◌⊎◌, ℕ, ◌+◌, Bool, true, false, not, ◌==◌, List, ◌∷◌, ◌++◌, length}
use Rattle.css_clean.specs.Selectors.{SheetPolicyText, is_scope}
use Rattle.call_answers.specs.Calls.{HasTexts, HasBadEnds}
use Rattle.clean_calls.specs.declared.asked.Form.{Form}
use Rattle.clean_calls.specs.declared.asked.Form.TheVariants.{Sheet, Style}
use Rattle.clean_calls.specs.declared.policies.PassedPolicy.{PassedPolicy}

-- The scope, the prefix and names one after another, where each ends, how many names are of properties, of
-- functions, of properties with strings and of pseudo-classes, how many urls there are, each with an answer, how
-- many properties have words that are names, how many words are none, and how many properties have limits, each with a text,
-- whether declarations may be important,
-- and whether rules may be for the elements that the scope matches, as numbers, and the most bytes of a text. The
-- names that are left are words of media queries.
pub record Passed : Type 0 where
  pub texts : List ℕ
  pub ends : List ℕ
  pub properties : ℕ
  pub functions : ℕ
  pub strings : ℕ
  pub pseudos : ℕ
  pub urls : ℕ
  pub named : ℕ
  pub words : ℕ
  pub limits : ℕ
  pub important : ℕ
  pub itself : ℕ
  pub longest : ℕ

-- what contracts see of it
abbrev pub passed_of : PassedPolicy → Passed
passed_of p = record {
  texts = p.texts.now;
  ends = p.ends.now;
  properties = p.properties;
  functions = p.functions;
  strings = p.strings;
  pseudos = p.pseudos;
  urls = p.urls;
  named = p.named;
  words = p.words;
  limits = p.limits;
  important = p.important;
  itself = p.itself;
  longest = p.longest;
}

-- the texts of a policy, in the order in which they are passed
abbrev pub texts_of : SheetPolicyText → List (List ℕ)
texts_of policy =
    let of_values = policy.declarations in
    let changes = of_values.changes in
    let limits = of_values.limits in
    policy.scope ∷ changes.prefix ∷ (of_values.properties ++ (of_values.functions ++ (of_values.strings
    ++ (policy.pseudos ++ (changes.urls ++ (changes.answers ++ (changes.named
    ++ (changes.words ++ (limits.properties ++ (limits.limits ++ policy.media))))))))))

-- The policy has these texts, as many of each kind as are passed, and what else is passed.
pub record IsPolicyOf (passed : Passed) (texts : List (List ℕ)) (policy : SheetPolicyText) : Type 0 where
  pub all : texts ≡ texts_of policy
  pub properties : length policy.declarations.properties ≡ passed.properties
  pub functions : length policy.declarations.functions ≡ passed.functions
  pub strings : length policy.declarations.strings ≡ passed.strings
  pub pseudos : length policy.pseudos ≡ passed.pseudos
  pub urls : length policy.declarations.changes.urls ≡ passed.urls
  pub answers : length policy.declarations.changes.answers ≡ passed.urls
  pub named : length policy.declarations.changes.named ≡ passed.named
  pub words : length policy.declarations.changes.words ≡ passed.words
  pub limited : length policy.declarations.limits.properties ≡ passed.limits
  pub limits : length policy.declarations.limits.limits ≡ passed.limits
  pub important : policy.declarations.important ≡ not (passed.important == 0)
  pub itself : policy.itself ≡ not (passed.itself == 0)
  pub longest : policy.declarations.longest ≡ passed.longest

-- there are fewer texts than a scope, a prefix and those that are counted
abbrev pub IsShort : Passed → List (List ℕ) → Type 0
IsShort passed texts =
    length texts ≤ 1 + (passed.properties + (passed.functions + (passed.strings + (passed.pseudos
    + (passed.urls + (passed.urls + (passed.named + (passed.words + (passed.limits + passed.limits)))))))))

-- a sheet needs a scope that is one compound of names, ids and classes
abbrev pub has_scope : Form → SheetPolicyText → Bool
has_scope Sheet policy = is_scope policy.scope
has_scope Style policy = true

-- the texts are no policy for a text of this form: they are too few, or have no scope
abbrev pub IsNoPolicyOf : Form → Passed → List (List ℕ) → Type 0
IsNoPolicyOf form passed texts =
    IsShort passed texts
    ⊎ ((policy : SheetPolicyText) × IsPolicyOf passed texts policy × (has_scope form policy ≡ false))

-- the texts that are passed are those of a policy
abbrev pub HasPolicy : Passed → SheetPolicyText → Type 0
HasPolicy passed policy =
    (texts : List (List ℕ)) × HasTexts passed.texts passed.ends texts × IsPolicyOf passed texts policy

-- What is passed is no policy for a text of this form: its ends are not those of texts, or these are none.
abbrev pub IsNoPolicy : Form → Passed → Type 0
IsNoPolicy form passed =
    HasBadEnds passed.texts passed.ends
    ⊎ ((texts : List (List ℕ)) × HasTexts passed.texts passed.ends texts
    × IsNoPolicyOf form passed texts)
