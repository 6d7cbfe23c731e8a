use Rattle.call_answers.proofs.SpacedAttributes.{attribute-step}
use Rattle.call_answers.proofs.elements.attributes_with.Goals as goal

pub strings-preserved : goal.strings-preserved
strings-preserved c =
    attribute-step c.strings.found.items _ c.strings.left.now c.strings.more.now _ _ _ _
    c.in-len1-up.len_at_least c.in-len1-up-after.len_at_least c.in-len1-up-more.len_at_least
    c.in_ok-push.ensures.items c.strings.invariant
