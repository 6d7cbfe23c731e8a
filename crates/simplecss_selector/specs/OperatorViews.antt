-- What contracts see of operators and pseudo-classes: their kinds and the bytes of their texts,
-- wherever these are stored.
use Rattle.simplecss_grammar.specs.Components.{Operator, KnownPseudoClass}
use Rattle.simplecss_grammar.specs.Components.Operator.{exists, equals, has_word, begins_with}
use Rattle.simplecss_grammar.specs.Components.KnownPseudoClass.{first_child, link, visited, hover, active, focus, lang}
use Rattle.simplecss_selector.specs.declared.operator.AttributeOperator.{AttributeOperator}
use Rattle.simplecss_selector.specs.declared.operator.AttributeOperator.TheVariants.{Exists, Matches, Contains, StartsWith}
use Rattle.simplecss_selector.specs.declared.pseudo_class.PseudoClass.{PseudoClass}
use Rattle.simplecss_selector.specs.declared.pseudo_class.PseudoClass.TheVariants.{FirstChild, Link, Visited, Hover, Active, Focus, Lang}

-- the operator, with the bytes of its text
abbrev pub operator_of : AttributeOperator → Operator
operator_of Exists = exists
operator_of (Matches value) = equals value.now
operator_of (Contains word) = has_word word.now
operator_of (StartsWith start) = begins_with start.now

-- the pseudo-class, with the bytes of its language
abbrev pub pseudo_class_of : PseudoClass → KnownPseudoClass
pseudo_class_of FirstChild = first_child
pseudo_class_of Link = link
pseudo_class_of Visited = visited
pseudo_class_of Hover = hover
pseudo_class_of Active = active
pseudo_class_of Focus = focus
pseudo_class_of (Lang language) = lang language.now
