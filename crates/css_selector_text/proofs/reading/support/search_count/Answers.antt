use Rattle.css_selector_text.proofs.SearchLemmas.{count_lone, count_joined}
use Rattle.css_selector_text.proofs.reading.support.search_count.Goals as goal

pub returns-in-empty : goal.returns-in-empty
returns-in-empty c = count_lone c.args.parts.now c.in-empty.len_below

pub returns-in_default : goal.returns-in_default
returns-in_default c = count_joined c.args.parts.now c.in_default.len_at_least
