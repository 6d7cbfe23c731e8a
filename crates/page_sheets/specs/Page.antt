-- What the elements of a page say of sheets.
use Rattle.std.specs.Prelude.{ℕ, suc, Bool, false, if◌then◌else◌, nat_lt, List, [], ◌∷◌, ◌++◌, codes, Option, Some, None, slice_get}
use Rattle.std.specs.Option.{is_some}
use Rattle.css_html.specs.Attributes.{PlacedAttribute, attributes}
use Rattle.css_html.specs.Tokens.{PlacedToken}
use Rattle.css_html.specs.Views.{token_of}
use Rattle.css_html.specs.declared.tokenizer.Token.{Token}
use Rattle.css_html_tree.specs.declared.names.Space.{Space}
use Rattle.css_html_tree.specs.declared.names.Space.TheVariants.{Html, Svg, Math}
use Rattle.css_html_tree.specs.declared.page.Row.{Row}
use Rattle.html_edits.specs.Attributes.{same_name, value_in, first_named, tag_name}
use Rattle.html_edits.specs.declared.edits.Language.TheVariants as languages
use Rattle.page_sheets.specs.Nodes.{NodeText}
use Rattle.page_sheets.specs.declared.nodes.Role.{Role}
use Rattle.page_sheets.specs.declared.nodes.Role.TheVariants.{Style, Link, Base}

-- what an element of HTML with this name is
abbrev pub role_in_html : List ℕ → Option Role
role_in_html name =
    if same_name languages.Html (codes "style") name then Some Style
    else (if same_name languages.Html (codes "link") name then Some Link
    else (if same_name languages.Html (codes "base") name then Some Base else None))

-- what an element with this name is: in SVG, a `style` alone says something
abbrev pub role_of : Space → (name : List ℕ) → Option Role
role_of Html name = role_in_html name
role_of Svg name = if same_name languages.Html (codes "style") name then Some Style else None
role_of Math name = None

-- what is there, or nothing
abbrev pub or_nothing : Option (List ℕ) → List ℕ
or_nothing None = []
or_nothing (Some text) = text

-- what an attribute stands for, or nothing if it is missing
abbrev pub said_of : (name : List ℕ) → List PlacedAttribute → List ℕ
said_of name found = or_nothing (value_in languages.Html name found)

-- there is an attribute with this name
abbrev pub has : (name : List ℕ) → List PlacedAttribute → Bool
has name found = is_some (first_named languages.Html name found)

-- what an element says by its attributes
abbrev pub node_with : Role → (number place : ℕ) → List PlacedAttribute → NodeText
node_with role number place found = record {
  role = role;
  number = number;
  place = place;
  rel = said_of (codes "rel") found;
  type_name = said_of (codes "type") found;
  title = said_of (codes "title") found;
  href = said_of (codes "href") found;
  has_href = has (codes "href") found;
  is_disabled = has (codes "disabled") found;
}

-- what an element with this tag says
abbrev pub node_of : Role → (number place : ℕ) → PlacedToken → NodeText
node_of role number place tag = node_with role number place (attributes tag.inside_end)

-- What is in a `template` of HTML is no part of the page (4.12.3).
abbrev pub is_template : Space → (name : List ℕ) → Bool
is_template Html name = same_name languages.Html (codes "template") name
is_template Svg name = false
is_template Math name = false

-- the name of a tag that may be there
abbrev pub name_in : Option Token → List ℕ
name_in None = []
name_in (Some t) = tag_name (token_of t)

-- the name of the start tag with this index, or nothing
abbrev pub name_at : List Token → Option ℕ → List ℕ
name_at tags None = []
name_at tags (Some k) = name_in (slice_get tags k)

-- below which depth nodes are hidden from a node of this depth on, where those below another one were
abbrev pub hidden_after : Option ℕ → (depth : ℕ) → (hides : Bool) → Option ℕ
hidden_after None depth hides = if hides then Some depth else None
hidden_after (Some above) depth hides =
    if nat_lt above depth then Some above else (if hides then Some depth else None)

-- what an element says of sheets, if it says something
abbrev pub node_if : Option Role → (number place : ℕ) → PlacedToken → List NodeText
node_if None number place tag = []
node_if (Some role) number place tag = node_of role number place tag ∷ []

-- the same of an element by its start tag, if it has one
abbrev pub node_by : Space → (number place : ℕ) → Option Token → List NodeText
node_by space number place None = []
node_by space number place (Some t) = node_if (role_of space (tag_name (token_of t))) number place (token_of t)

-- the same of an element by the index of its tag, if it has one
abbrev pub node_at : List Token → Space → (place : ℕ) → Option ℕ → List NodeText
node_at tags space place None = []
node_at tags space place (Some k) = node_by space (suc k) place (slice_get tags k)

-- the same of a node that is not hidden
abbrev pub node_of_row : (hidden : Option ℕ) → List Token → Row → List NodeText
node_of_row None tags row = node_at tags row.space row.start row.tag
node_of_row (Some above) tags row = []

-- What the nodes of a page say of sheets, in order, but for those in a `template`. Those below a depth are hidden
-- before the first.
abbrev pub nodes_from : List Token → (hidden : Option ℕ) → List Row → List NodeText
nodes_from tags hidden [] = []
nodes_from tags hidden (row ∷ rows) =
    let now = hidden_after hidden row.depth (is_template row.space (name_at tags row.tag)) in
    node_of_row now tags row ++ nodes_from tags now rows
