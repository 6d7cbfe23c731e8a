use Rattle.std.proofs.Common.{sym, ◌∙◌}
use Rattle.cssq_tree.specs.TreeText.{fields_of}
use Rattle.cssq_tree.proofs.Fields.{each_reported, fields_reported, no_first}
use Rattle.cssq_tree.proofs.tree.read_many.Goals as goal

pub returns-in-Ok-Some-clause-fault : goal.returns-in-Ok-Some-clause-fault
returns-in-Ok-Some-clause-fault c = fields_reported c.args.number (fields_of c.args.all.now)
    c.in-Ok-Some.fault (sym c.in-Ok-Some.field-0-is ∙ c.in-Ok-Some.ensures)

pub read_all-requires : goal.read_all-requires
read_all-requires c _ = no_first _ (sym c.in-Ok-None.field-0-is ∙ c.in-Ok-None.ensures)

pub returns-in-Ok-None-clause-fault : goal.returns-in-Ok-None-clause-fault
returns-in-Ok-None-clause-fault c = each_reported c.args.number
    (fields_of c.args.all.now) c.read_all.result c.read_all.ensures.fault

pub returns-in-Err-read_all-clause-fault : goal.returns-in-Err-read_all-clause-fault
returns-in-Err-read_all-clause-fault c = fields_reported c.args.number
    (fields_of c.args.all.now) c.in-Err-read_all.fault c.in-Err-read_all.ensures.fault
