-- The names of namespaces that a sheet declares (CSS Namespaces 3, section 3): by the `@namespace` rules that
-- are in force. Before these are no other valid rules but `@import` and lists of layers, and a list of layers
-- is in none of these, nor after an `@import`.
use Rattle.std.specs.Prelude.{ℕ, suc, Bool, true, false, not, nat_lt, if◌then◌else◌, List, [], ◌∷◌, ◌++◌, length, Option, Some, None}
use Rattle.std.specs.Str.{bytes_eq}
use Rattle.css_syntax.specs.Escapes.{decoded}
use Rattle.css_syntax.specs.Placed.{PlacedStatement, placed_statements}
use Rattle.css_cascade.specs.LayerNames.{is_empty}
use Rattle.css_selector_text.specs.Names.{Names, no_names, unknown_namespace}
use Rattle.css_sheet.specs.NamespaceRules.{NamespaceText, decoded_url}
use Rattle.css_sheet.specs.Imports.{FrontRule, import_rule, namespace_rule, layer_list, other_rule, not_a_rule, rule_in_front}
use Rattle.css_sheet.specs.Sheets.{SheetText}

-- ---- numbers

-- the number of a url among these, of which the first has this number; of one that is not among them, that
-- after the last
abbrev pub number_from : ℕ → List (List ℕ) → (url : List ℕ) → ℕ
number_from number [] url = number
number_from number (one ∷ more) url =
    if bytes_eq one url then number else number_from (suc number) more url

-- The number of the namespace of a url, where the namespaces of these are known: of the empty one 0, since it
-- denotes no namespace. Where none is known, that of a namespace that is not known.
abbrev pub url_number : (known : List (List ℕ)) → (url : List ℕ) → ℕ
url_number [] url = unknown_namespace
url_number (one ∷ more) url = if is_empty url then 0 else number_from 1 (one ∷ more) url

-- the same as the default namespace, which is not declared where none is known
abbrev pub default_number : (known : List (List ℕ)) → (url : List ℕ) → Option ℕ
default_number [] url = None
default_number (one ∷ more) url = Some (url_number (one ∷ more) url)

-- ---- names

-- how many prefixes a sheet may declare; further ones are not declared
abbrev pub most_prefixes : ℕ
most_prefixes = 256

abbrev pub with_prefix : Names → (prefix : List ℕ) → (number : ℕ) → Names
with_prefix names prefix number =
    if nat_lt (length names.prefixes) most_prefixes
    then record names { prefixes = names.prefixes ++ (prefix, number) ∷ [] }
    else names

abbrev pub with_declared : (known : List (List ℕ)) → Names → Option (List ℕ) → (url : List ℕ) → Names
with_declared known names None url = record names { default_namespace = default_number known url }
with_declared known names (Some prefix) url =
    with_prefix names (decoded prefix) (url_number known url)

-- with what this rule declares: of two rules with the same prefix, and of two without one, the last counts
abbrev pub with_namespace : (known : List (List ℕ)) → Names → NamespaceText → Names
with_namespace known names one = with_declared known names one.prefix (decoded_url one.url)

-- ---- which rules are in force

-- A rule may be before namespace rules, where an import or a namespace rule was or was not.
abbrev pub may_follow : (begun : Bool) → FrontRule → Bool
may_follow begun (import_rule one) = true
may_follow begun (namespace_rule one) = true
may_follow begun layer_list = not begun
may_follow begun other_rule = false
may_follow begun not_a_rule = true

-- whether there was an import or a namespace rule, after a rule
abbrev pub begun_after : (begun : Bool) → FrontRule → Bool
begun_after begun (import_rule one) = true
begun_after begun (namespace_rule one) = true
begun_after begun layer_list = begun
begun_after begun other_rule = begun
begun_after begun not_a_rule = begun

abbrev pub names_after : (known : List (List ℕ)) → Names → FrontRule → Names
names_after known names (import_rule one) = names
names_after known names (namespace_rule one) = with_namespace known names one
names_after known names layer_list = names
names_after known names other_rule = names
names_after known names not_a_rule = names

-- the rule that a statement is, where these names are declared
abbrev pub rule_here : Names → PlacedStatement → FrontRule
rule_here names placed = rule_in_front names 0 0 placed.part.statement

-- The names that are declared with these statements, where these are declared before them. The selectors of
-- a rule are valid by those that are declared before it.
abbrev pub names_from : (known : List (List ℕ)) → (begun : Bool) → Names → List PlacedStatement → Names
names_from known begun names [] = names
names_from known begun names (placed ∷ more) =
    if may_follow begun (rule_here names placed)
    then names_from known (begun_after begun (rule_here names placed))
    (names_after known names (rule_here names placed)) more
    else names

-- the names that a text declares, where the namespaces of these urls are known
abbrev pub names_among : (known : List (List ℕ)) → List ℕ → Names
names_among known text = names_from known false no_names (placed_statements false text)

-- how many namespaces may be known: if there are more, none is
abbrev pub most_known : ℕ
most_known = 1024

abbrev pub if_few : List (List ℕ) → List (List ℕ)
if_few known = if nat_lt most_known (length known) then [] else known

-- the same, where these are known, unless they are too many
abbrev pub text_names : (known : List (List ℕ)) → List ℕ → Names
text_names known text = names_among (if_few known) text

-- the names that a sheet declares
abbrev pub sheet_names : SheetText → Names
sheet_names sheet = text_names sheet.namespaces sheet.text
