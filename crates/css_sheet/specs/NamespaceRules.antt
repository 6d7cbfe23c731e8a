-- What an `@namespace` rule has (CSS Namespaces 3, section 3): a url, and before it a prefix or nothing.
use Rattle.std.specs.Prelude.{ℕ, if◌then◌else◌, List, Option, Some, None}
use Rattle.std.specs.Option.{option_map}
use Rattle.css_text.specs.Reading.{before}
use Rattle.css_syntax.specs.Escapes.{decoded, decoded_string}
use Rattle.css_syntax.specs.Statements.{begins_ident}
use Rattle.css_syntax.specs.Tokens.{past_gap, past_word}
use Rattle.css_cascade.specs.LayerNames.{is_empty}
use Rattle.css_sheet.specs.ImportRules.{UrlText, quoted, bare, url_here}

-- A namespace rule: the prefix that it declares, or none if it declares the default namespace, and the url,
-- both with their escapes as written.
pub record NamespaceText : Type 0 where
  pub prefix : Option (List ℕ)
  pub url : UrlText

-- the url, if only blanks follow it
abbrev pub if_last : Option (UrlText × List ℕ) → Option UrlText
if_last None = None
if_last (Some found) = if is_empty (past_gap found.1) then Some found.0 else None

-- the rule that declares this with a url, if there is one
abbrev pub declares : (prefix : Option (List ℕ)) → Option UrlText → Option NamespaceText
declares prefix url = option_map (λ url. record { prefix = prefix; url = url }) url

-- a prefix and a url
abbrev pub prefixed_here : List ℕ → Option NamespaceText
prefixed_here text =
    if begins_ident text
    then declares (Some (before text (past_word text))) (if_last (url_here (past_gap (past_word text))))
    else None

abbrev pub or_prefixed : List ℕ → Option NamespaceText → Option NamespaceText
or_prefixed text None = prefixed_here text
or_prefixed text (Some found) = Some found

-- the namespace rule that has this prelude, if it is valid
unfoldable pub namespace_here : List ℕ → Option NamespaceText
namespace_here text = or_prefixed text (declares None (if_last (url_here text)))

-- what a url denotes
abbrev pub decoded_url : UrlText → List ℕ
decoded_url (quoted text) = decoded_string text
decoded_url (bare text) = decoded text
