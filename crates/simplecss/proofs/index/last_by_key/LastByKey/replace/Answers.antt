use Rattle.std.proofs.Common.{sym, ◌∙◌}
use Rattle.simplecss.proofs.LastIndices.{takes_id, takes_class, takes_name, takes_attribute, takes_any}
use Rattle.simplecss.proofs.index.last_by_key.LastByKey.replace.Goals as goal
use Rattle.simplecss.proofs.index.last_by_key.LastByKey.replace.Goals.{in-Id, in-Class, in-Name, in-Attribute, in-Any}

pub returns-clause-taken : goal.returns-clause-taken
returns-clause-taken c =
    let old = c.args.self.now in
    let index = c.args.index in
    elim c.match-key.branch [
      | in-Id w ↦ rw (w.self-is, w.in-Id.is) (takes_id old index w.insert-known.new.self _
          (rw (sym w.known-is ∙ c.in_ok-known.was) at w.insert-known.ensures.updates))
      | in-Class w ↦
          rw (w.self-is, w.in-Class.is) (takes_class old index w.insert-known-in-Class.new.self _
          (rw (sym w.known-is ∙ c.in_ok-known.was) at w.insert-known-in-Class.ensures.updates))
      | in-Name w ↦
          rw (w.self-is, w.in-Name.is) (takes_name old index w.insert-known-in-Name.new.self _
          (rw (sym w.known-is ∙ c.in_ok-known.was) at w.insert-known-in-Name.ensures.updates))
      | in-Attribute w ↦ rw (w.self-is, w.in-Attribute.is)
          (takes_attribute old index w.insert-known-in-Attribute.new.self _
          (rw (sym w.known-is ∙ c.in_ok-known.was) at w.insert-known-in-Attribute.ensures.updates))
      | in-Any w ↦ rw (w.self-is, w.in-Any.is, w.replace.ensures.after) (takes_any old index)
    ]
