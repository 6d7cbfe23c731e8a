-- What contracts see of tokens and attributes.
use Rattle.css_html.specs.declared.tokenizer.Token.{Token}
use Rattle.css_html.specs.declared.attributes.Attribute.{Attribute}
use Rattle.css_html.specs.Tokens.{PlacedToken}
use Rattle.css_html.specs.Attributes.{PlacedAttribute}

-- a token by its places
abbrev pub token_of : Token → PlacedToken
token_of t = record {
  kind = t.kind;
  from = t.from.now;
  inside = t.inside.now;
  inside_end = t.inside_end.now;
  rest = t.rest.now;
}

-- an attribute by its places
abbrev pub attribute_of : Attribute → PlacedAttribute
attribute_of a = record {
  from = a.from.now;
  name_end = a.name_end.now;
  value = a.value.now;
  value_end = a.value_end.now;
  rest = a.rest.now;
}
