-- How winners are found, a declaration at a time.
use Rattle.std.specs.Prelude.{ℕ, List, Option, None}
use Rattle.std.specs.Option.{option_map}
use Rattle.css_syntax.specs.DeclarationLists.{DeclarationText}
use Rattle.css_syntax.specs.Views.{declaration_of}
use Rattle.css_cascade.specs.Cascade.{Weighed, winner_from}
use Rattle.css_cascade.specs.WeightViews.{weighed}
use Rattle.css_styles.specs.declared.contenders.Contender.{Contender as ContenderCode}
use Rattle.css_styles.specs.declared.contenders.OwnPart.{OwnPart}
use Rattle.css_styles.specs.declared.contenders.OwnPart.TheVariants as parts
use Rattle.css_styles.specs.Contenders.{Contender, in_presentation, in_style, of_names}
use Rattle.css_styles.specs.Winners.{WinnerText, as_winner, counting}

-- what contracts see of a declaration with its weight
abbrev pub contender_of : ContenderCode → Contender
contender_of c = record {
  weight = weighed c.weight;
  declaration = declaration_of c.winner.declaration;
  source = c.winner.source;
  place = c.winner.place;
}

-- one of the element's own declarations
abbrev pub in_own : OwnPart → (place : ℕ) → DeclarationText → Contender
in_own parts.Style = in_style
in_own parts.Presentation = in_presentation

-- what the cascade sees of a declaration
abbrev pub seen : Contender → Weighed
seen c = c.weight

-- what wins of these, which contend for one property
abbrev pub decided : List Contender → Option Contender
decided found = winner_from seen None (counting found)

-- what wins of the declarations that have one of these names
abbrev pub best_named : List Contender → (names : List (List ℕ)) → Option WinnerText
best_named all names = option_map as_winner (decided (of_names names all))
