-- What contracts see of where declarations are, and of declarations with their weights.
use Rattle.std.specs.Prelude.{ℕ}
use Rattle.css_syntax.specs.DeclarationLists.{DeclarationText}
use Rattle.css_syntax.specs.Views.{declaration_of}
use Rattle.css_cascade.specs.WeightViews.{weighed}
use Rattle.css_sheet.specs.SheetRuleViews.{sheet_rule_of}
use Rattle.css_styles.specs.Contenders.{Contender, in_presentation, in_rule, in_style}
use Rattle.css_explain.specs.declared.contenders.Contender.{Contender as ContenderCode}
use Rattle.css_explain.specs.declared.contenders.OwnPart.{OwnPart}
use Rattle.css_explain.specs.declared.contenders.OwnPart.TheVariants as owns
use Rattle.css_explain.specs.declared.contenders.Part.{Part}
use Rattle.css_explain.specs.declared.contenders.Part.TheVariants as parts

-- a declaration with its weight
abbrev pub contender_of : ContenderCode → Contender
contender_of c = record {
  weight = weighed c.weight;
  declaration = declaration_of c.winner.declaration;
  source = c.winner.source;
  place = c.winner.place;
}

-- one of the element's own declarations
abbrev pub in_own : OwnPart → (place : ℕ) → DeclarationText → Contender
in_own owns.Style = in_style
in_own owns.Presentation = in_presentation

-- a declaration of this part
abbrev pub contends : Part → (place : ℕ) → DeclarationText → Contender
contends (parts.Rule rule index) = in_rule index (sheet_rule_of rule.now)
contends (parts.Own own) = in_own own
