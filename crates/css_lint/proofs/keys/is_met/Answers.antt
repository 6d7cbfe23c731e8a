use Rattle.std.proofs.Common.{ap, ◌∙◌}
use Rattle.std.specs.Option.{is_some}
use Rattle.std.proofs.lemmas.Map.Text.{btree_map_updates_str}
use Rattle.css_lint.proofs.KeyLemmas.{is_some-cond}
use Rattle.css_lint.proofs.keys.is_met.Goals as goal

pub returns : goal.returns
returns c = record {
  was = c.is_some.ensures ∙ ap is_some c.in_ok-before.ensures.old;
  keys = λ q.
      ap is_some (btree_map_updates_str c.args.key.now c.args.met.now c.insert.new.self _
      c.in_ok-before.ensures.updates q)
      ∙ is_some-cond _ _;
}
