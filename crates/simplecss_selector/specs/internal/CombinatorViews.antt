-- What contracts see of a combinator.
use Rattle.simplecss_grammar.specs.Components.{Combinator as SeenCombinator}
use Rattle.simplecss_grammar.specs.Components.Combinator.{none, descendant, child, adjacent}
use Rattle.simplecss_selector.specs.declared.selector.Combinator.{Combinator}
use Rattle.simplecss_selector.specs.declared.selector.Combinator.TheVariants.{None as NoCombinator, Descendant, Child, Adjacent}

abbrev pub combinator_of : Combinator → SeenCombinator
combinator_of NoCombinator = none
combinator_of Descendant = descendant
combinator_of Child = child
combinator_of Adjacent = adjacent
