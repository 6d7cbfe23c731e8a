-- What private contracts see of what is to be written of elements.
use Rattle.std.specs.Prelude.{◌≡◌, ℕ, List, map, Option}
use Rattle.std.specs.Option.{option_map}
use Rattle.css_selector_text.specs.Components.{Selector}
use Rattle.css_sheet.specs.SheetOrder.{SheetRuleText}
use Rattle.css_styles.specs.StyleViews.{names_of}
use Rattle.simplecss_calls.specs.Asked.{ContentText, explained, matched, won}
use Rattle.simplecss_calls.specs.WinnerNumbers.{groups_in, selectors_read}
use Rattle.simplecss_calls.specs.declared.contents.AskedProperties.{AskedProperties}
use Rattle.simplecss_calls.specs.declared.contents.Content.{Content}
use Rattle.simplecss_calls.specs.declared.contents.Content.TheVariants as contents
use Rattle.simplecss_calls.specs.declared.explained.ExplainAsked.{ExplainAsked}
use Rattle.simplecss_calls.specs.declared.winners.Wanted.{Wanted}

-- the names of each property
abbrev pub asked_in : AskedProperties → List (List (List ℕ))
asked_in a = groups_in a.counts.now (map (λ name. name.now) a.names.items)

abbrev pub content_of : Content → ContentText
content_of (contents.Won asked) = won (option_map asked_in asked)
content_of contents.Matched = matched
content_of (contents.Explained names) = explained (map (λ name. name.now) names.items)

-- the properties that are asked for, if only some are
abbrev pub asked_by : Wanted → Option (List (List (List ℕ)))
asked_by w = option_map (λ asked. names_of asked.now) w.asked

-- two texts for each element
abbrev pub own_by : Wanted → List (List ℕ)
own_by w = map (λ text. text.now) w.own.now

-- the selectors are those of the rules, each as a document reads it
abbrev pub AreReadBy : (Selector → Selector) → List SheetRuleText → List Selector → Type 0
AreReadBy read rules selectors = selectors ≡ selectors_read read rules

-- the names of the property that is explained, and two texts for each element
abbrev pub names_of_asked : ExplainAsked → List (List ℕ)
names_of_asked a = map (λ name. name.now) a.names.now

abbrev pub own_of_asked : ExplainAsked → List (List ℕ)
own_of_asked a = map (λ text. text.now) a.own.now
