use Rattle.std.proofs.Common.{sym, ◌∙◌, rules}
use Rattle.std.proofs.lemmas.Fn.{filter_same}
use Rattle.simplecss.proofs.Following.{kept_by, none_dropped}
use Rattle.simplecss.proofs.index.find.keep_open.Goals as goal

pub returns-then-is_some : goal.returns-then-is_some
returns-then-is_some c =
    filter_same _ (kept_by c.args.rule_index.now c.args.path) _
    (λ x b f' k. search rules) c.args.indices.now.items c.retain.new.self.items
    c.retain.ensures.filtered

pub returns-else-is_some : goal.returns-else-is_some
returns-else-is_some c = none_dropped c.args.rule_index.now c.args.path c.args.indices.now.items
    (sym c.is_some.ensures ∙ c.if-is_some.false)
