use Rattle.std.proofs.Common.{◌-◌, ℕ, List, [], length, drop, get_or, map, sym, subst, arith, Bor}
use Rattle.css_elements.specs.Rows.{attribute_of}
use Rattle.css_tree.specs.Attributes.{AreNamed}
use Rattle.css_tree.proofs.AttributeLemmas.{named-more, drop-one}
use Rattle.css_tree.proofs.attributes.named_values.Goals as goal

abbrev empty : Bor (List ℕ)
empty = record { ref_ptr = (0, 0); now = [] }

pub loop-after-preserved : goal.loop-after-preserved
loop-after-preserved c =
    let items = c.args.attributes.now in
    let after = c.loop-after.after in
    let item = get_or items (length items - 1 - after) (empty, empty) in
    let test = c.loop-after-test.true in let end = c.loop-after.auto.after-end in
    subst (λ xs. AreNamed c.insert.new.self (map attribute_of xs))
    (sym (drop-one items after (empty, empty) (omega (arith, test, end))))
    (named-more item.0 item.1 (map attribute_of (drop (length items - after) items))
    c.loop-after.values c.insert.new.self c.loop-after.invariant c.in_ok-insert.ensures.updates.0)
