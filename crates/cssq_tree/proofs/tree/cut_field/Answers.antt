use Rattle.std.proofs.Common.{arith}
use Rattle.css_text.specs.AsciiBytes.{tab}
use Rattle.cssq_tree.proofs.LineCuts.{cut_at, field_cut, fields_whole}
use Rattle.cssq_tree.proofs.tree.cut_field.Goals as goal

pub returns-then-len-text-clause-fields : goal.returns-then-len-text-clause-fields
returns-then-len-text-clause-fields c =
    field_cut c.args.text.now c.range.result.now c.range_from.result.now (cut_at c.args.text.now tab
    c.len_before-len.result c.len_before-len.ensures.len c.range.result.now c.range_from.result.now
    c.range.ensures.value c.range_from.ensures.value c.if-len-text.true)

pub returns-else-len-text-clause-fields : goal.returns-else-len-text-clause-fields
returns-else-len-text-clause-fields c = fields_whole c.args.text.now
    (omega (arith, c.len_before-len.ensures.len, c.len_before-len.ensures.within))
