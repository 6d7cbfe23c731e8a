use Rattle.css_laws.proofs.ChainedLists.{lists-earlier, lists-plain, rules-ask}
use Rattle.css_laws.proofs.nested_lists.nested_lists_law.Goals as goal

pub returns-clause-lists : goal.returns-clause-lists
returns-clause-lists c = lists-earlier

pub returns-clause-elements : goal.returns-clause-elements
returns-clause-elements c = lists-plain

pub returns-clause-rules : goal.returns-clause-rules
returns-clause-rules c holds sheets k d less = (rules-ask holds sheets k d less).0
