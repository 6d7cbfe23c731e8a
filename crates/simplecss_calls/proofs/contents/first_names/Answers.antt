use Rattle.std.proofs.Common.{sym}
use Rattle.std.specs.List.{take-map}
use Rattle.simplecss_calls.proofs.contents.first_names.Goals as goal

pub returns-then-count-names : goal.returns-then-count-names
returns-then-count-names c = sym (take-map (λ name. name.now) c.args.count c.args.names.now)
