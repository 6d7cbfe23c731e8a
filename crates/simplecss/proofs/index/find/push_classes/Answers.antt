use Rattle.simplecss.proofs.index.find.push_classes.Goals as goal

pub returns-then-are_few : goal.returns-then-are_few
returns-then-are_few c = rw c.in-Some.is c.push_classes_within.ensures

pub returns : goal.returns
returns c = rw c.in-Some.is c.push_words.ensures
