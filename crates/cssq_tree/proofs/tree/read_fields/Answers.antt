use Rattle.std.proofs.Common.{subst, sym}
use Rattle.cssq_tree.specs.TreeText.{field_faults, fields_in, fields_of}
use Rattle.cssq_tree.specs.internal.EntryLines.{IsReportedFor}
use Rattle.cssq_tree.proofs.Fields.{fields_reported}
use Rattle.cssq_tree.proofs.tree.read_fields.Goals as goal

pub returns-in-Err-clause-fault : goal.returns-in-Err-clause-fault
returns-in-Err-clause-fault c = subst (λ fields. IsReportedFor c.args.number
    (field_faults c.args.number (fields_in fields)) c.in-Err.fault) (sym c.in-Some.is)
    (fields_reported c.args.number (fields_of c.in-Some.all.now) c.in-Err.fault
    c.in-Err.ensures.fault)
