use Rattle.cssq_tree.proofs.LineCuts.{some_split, none_split, line_cut, lines_shorter, lines_whole}
use Rattle.cssq_tree.proofs.tree.cut_line.Goals as goal

pub returns-in-Some-clause-lines : goal.returns-in-Some-clause-lines
returns-in-Some-clause-lines c =
    line_cut c.args.text.now c.in-Some.parts.0.now c.in-Some.parts.1.now
    (some_split c.args.text.now c.split_once.result c.split_once.ensures.cases c.in-Some.parts
    c.in-Some.is)

pub returns-in-Some-clause-shorter : goal.returns-in-Some-clause-shorter
returns-in-Some-clause-shorter c =
    lines_shorter c.args.text.now c.in-Some.parts.0.now c.in-Some.parts.1.now
    (some_split c.args.text.now c.split_once.result c.split_once.ensures.cases c.in-Some.parts
    c.in-Some.is)

pub returns-in-None-clause-lines : goal.returns-in-None-clause-lines
returns-in-None-clause-lines c = lines_whole c.args.text.now c.requires
    (none_split c.args.text.now c.split_once.result c.split_once.ensures.cases c.in-None.is)
