use Rattle.css_selectors.proofs.ListLaws.{is_some, where_is, not_is}
use Rattle.css_selectors.proofs.matching_laws.list_law.Goals as goal

pub returns-clause-is_some : goal.returns-clause-is_some
returns-clause-is_some g c all n = is_some g.E.Element.document n all

pub returns-clause-where_is : goal.returns-clause-where_is
returns-clause-where_is g c all n = where_is g.E.Element.document n all

pub returns-clause-not_is : goal.returns-clause-not_is
returns-clause-not_is g c all n = not_is g.E.Element.document n all
