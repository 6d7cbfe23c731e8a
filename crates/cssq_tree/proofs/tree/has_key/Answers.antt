use Rattle.std.proofs.Common.{◌-◌, ◌+◌, sym, ap, ◌∙◌, arith}
use Rattle.std.specs.Prelude.{bytes_eq}
use Rattle.cssq_tree.specs.TreeText.{fields_in}
use Rattle.cssq_tree.proofs.Fields.{has_key_more}
use Rattle.cssq_tree.proofs.tree.has_key.Goals as goal

-- the field that was examined has another key
pub loop-i-preserved : goal.loop-i-preserved
loop-i-preserved c =
    c.loop-i.invariant
    ∙ has_key_more c.args.key.now (c.args.count - c.loop-i.i) (c.args.count - (c.loop-i.i + 1))
    (fields_in c.loop-i.rest) c.cut_field.result.0.now (fields_in c.cut_field.result.1)
    (ap fields_in c.in-Some.is ∙ c.cut_field.ensures.fields)
    (omega arith)
    (ap (λ k. bytes_eq k c.args.key.now) (sym c.attribute_of.ensures.key) ∙ sym c.if-eq.ensures)
