use Rattle.std.proofs.Common.{map, option_map}
use Rattle.css_values.specs.Views.{registration_of, stated_of, value_of}
use Rattle.css_values.proofs.RegisteredLemmas.{values-same}
use Rattle.css_values.proofs.setting.resolve.Goals as goal

pub returns-clause-only : goal.returns-clause-only
returns-clause-only c = λ values are.
    values-same c.args.limit (map registration_of c.args.registered.now)
    (map stated_of c.args.own.now) (map stated_of c.args.handed.now) values
    (map (option_map value_of) c.in_ok-values.values.items) are c.in_ok-values.ensures
