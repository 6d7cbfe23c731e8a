use Rattle.css_syntax.proofs.PrintedAgain.{items-read_back, items-read_back-with}
use Rattle.css_syntax.proofs.PrintedLists.{list-read_back}
use Rattle.css_syntax.proofs.laws.printed_declarations_read_back.Goals as goal

pub returns-clause-each_item : goal.returns-clause-each_item
returns-clause-each_item c = items-read_back

pub returns-clause-lists : goal.returns-clause-lists
returns-clause-lists c = list-read_back

pub returns-clause-other_values : goal.returns-clause-other_values
returns-clause-other_values c = items-read_back-with
