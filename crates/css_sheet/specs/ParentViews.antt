-- What contracts see of the style rules that are open.
use Rattle.std.specs.Prelude.{map}
use Rattle.std.specs.Option.{option_map}
use Rattle.css_syntax.specs.Views.{prelude_of}
use Rattle.css_sheet.specs.declared.parents.OwnList.{OwnList}
use Rattle.css_sheet.specs.declared.parents.OwnList.TheVariants as lists
use Rattle.css_sheet.specs.declared.parents.Parent.{Parent}
use Rattle.css_sheet.specs.declared.parents.Parent.TheVariants as parents
use Rattle.css_sheet.specs.declared.parents.OpenParents.{OpenParents}
use Rattle.css_selector_text.specs.NameViews.{names_of}
use Rattle.css_sheet.specs.RuleSelectors.{context}
use Rattle.css_sheet.specs.OpenParents.{ParentsText, no_rule, dropped, style, unread, valid, numbered}
use Rattle.css_sheet.specs.OpenParents.{Parent as ParentText, OwnList as OwnText}

abbrev pub own_of : OwnList → OwnText
own_of lists.Unread = unread
own_of lists.Valid = valid
own_of (lists.Numbered own) = numbered own

abbrev pub parent_of : Parent → ParentText
parent_of parents.NoRule = no_rule
parent_of parents.Dropped = dropped
parent_of (parents.Style rule) =
    style (prelude_of rule.prelude) (context rule.under (names_of rule.names.now)) (own_of rule.own)

abbrev pub parents_of : OpenParents → ParentsText
parents_of o = record {
  innermost = parent_of o.innermost;
  outer = map (option_map parent_of) o.outer.items;
  lists = map (λ list. list.items) o.lists.items;
}
