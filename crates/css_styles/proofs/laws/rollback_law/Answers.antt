use Rattle.css_styles.proofs.LawLemmas.{all-count, all-count-each, none-rolled, none-rolled-each}
use Rattle.css_styles.proofs.laws.rollback_law.Goals as goal

pub returns-clause-all_count : goal.returns-clause-all_count
returns-clause-all_count c = all-count

pub returns-clause-each_counts : goal.returns-clause-each_counts
returns-clause-each_counts c = all-count-each

pub returns-clause-never_wins : goal.returns-clause-never_wins
returns-clause-never_wins c = λ found one distinct. none-rolled found distinct one

pub returns-clause-none_wins : goal.returns-clause-none_wins
returns-clause-none_wins c = none-rolled-each
