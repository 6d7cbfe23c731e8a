use Rattle.std.proofs.Common.{◌∙◌, ap}
use Rattle.cssq_tree.specs.TreeText.{fields_of}
use Rattle.cssq_tree.proofs.LineCuts.{text_after, fields_after, text_none, fields_none}
use Rattle.cssq_tree.proofs.tree.entry.Entry.attributes.Goals as goal

pub returns-then-len-self-clause-text : goal.returns-then-len-self-clause-text
returns-then-len-self-clause-text c = c.range_from.ensures.value
    ∙ text_after c.args.self.now.fields.now c.name_len-len.result c.name_len-len.ensures.len

pub returns-then-len-self-clause-fields : goal.returns-then-len-self-clause-fields
returns-then-len-self-clause-fields c = ap fields_of c.range_from.ensures.value ∙ fields_after
    c.args.self.now.fields.now c.name_len-len.result c.name_len-len.ensures.len c.if-len-self.true

pub returns-else-len-self-clause-text : goal.returns-else-len-self-clause-text
returns-else-len-self-clause-text c = text_none c.args.self.now.fields.now c.name_len-len.result
    c.name_len-len.ensures.len c.if-len-self.false

pub returns-else-len-self-clause-fields : goal.returns-else-len-self-clause-fields
returns-else-len-self-clause-fields c = fields_none c.args.self.now.fields.now c.name_len-len.result
    c.name_len-len.ensures.len c.if-len-self.false
