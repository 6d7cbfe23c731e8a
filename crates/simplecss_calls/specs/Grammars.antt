-- By which grammar a call reads selectors.
use Rattle.std.specs.Prelude.{ℕ, ◌==◌, if◌then◌else◌, Option, None, Some}
use Rattle.css_tree.specs.declared.html.HtmlMode.TheVariants.{NoQuirks, Quirks}
use Rattle.kept_lists.specs.declared.read_list.ListGrammar.{ListGrammar}
use Rattle.kept_lists.specs.declared.read_list.ListGrammar.TheVariants as list
use Rattle.simplecss_calls.specs.declared.grammar.Grammar.{Grammar}
use Rattle.simplecss_calls.specs.declared.grammar.Grammar.TheVariants.{Modern, Port}
use Rattle.page_calls.specs.declared.modern.document_kind.DocumentKind.{DocumentKind}
use Rattle.page_calls.specs.declared.modern.document_kind.DocumentKind.TheVariants.{AsWritten, Html}

-- The grammar of a number: 0 is that of modern CSS, 1 as HTML reads it, 2 as HTML in quirks mode does,
-- and 3 is that of the port.
abbrev pub grammar_of : ℕ → Option Grammar
grammar_of number =
    if number == 0 then Some (Modern AsWritten)
    else (if number == 1 then Some (Modern (Html NoQuirks))
    else (if number == 2 then Some (Modern (Html Quirks))
    else (if number == 3 then Some Port
    else None)))

-- the grammar of a list: how a document reads names changes no list
abbrev pub list_grammar_of : Grammar → ListGrammar
list_grammar_of (Modern reading) = list.Modern
list_grammar_of Port = list.Port

-- how a document reads the names of selectors by a grammar, if that is a modern one
abbrev pub document_kind_of : Option Grammar → Option DocumentKind
document_kind_of None = None
document_kind_of (Some (Modern kind)) = Some kind
document_kind_of (Some Port) = None
