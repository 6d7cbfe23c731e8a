use Rattle.std.proofs.Common.{sym, ap, ◌∙◌}
use Rattle.cssq_tree.specs.TreeText.{fields_in, fields_of}
use Rattle.cssq_tree.proofs.Fields.{repeated}
use Rattle.cssq_tree.proofs.KeySets.{keys_none, had, had_not, keys_more}
use Rattle.cssq_tree.proofs.tree.first_fault_by_set.Goals as goal

pub loop-rest-init : goal.loop-rest-init
loop-rest-init c =
    keys_none c.args.number (fields_of c.args.all.now) c.new-keys.result c.new-keys.ensures.empty

pub returns-then-not-branch : goal.returns-then-not-branch
returns-then-not-branch c =
    let are = c.loop-rest.invariant in
    let is = ap fields_in c.in-Some.is ∙ c.cut_field.ensures.fields in
    let key = c.in-Some-cut_attribute.ensures.key in
    repeated are.passed c.cut_field.result.0.now (fields_in c.cut_field.result.1) is
    (sym c.in-Some-cut_attribute.ensures.found)
    (had are c.cut_field.result.0.now
    (fields_in c.cut_field.result.1) is c.in-Some-cut_attribute.key key c.in_ok-insert.field-0
    c.in_ok-insert.ensures.added c.if-not-branch.true)

pub loop-rest-preserved : goal.loop-rest-preserved
loop-rest-preserved c =
    let are = c.loop-rest.invariant in
    let is = ap fields_in c.in-Some.is ∙ c.cut_field.ensures.fields in
    let key = c.in-Some-cut_attribute.ensures.key in
    keys_more are c.cut_field.result.0.now (fields_in c.cut_field.result.1) is
    c.in-Some-cut_attribute.key key c.insert.new.self c.in_ok-insert.ensures.updates
    (sym c.in-Some-cut_attribute.ensures.found)
    (had_not are c.cut_field.result.0.now
    (fields_in c.cut_field.result.1) is c.in-Some-cut_attribute.key key c.in_ok-insert.field-0
    c.in_ok-insert.ensures.added c.if-not-branch.false)
