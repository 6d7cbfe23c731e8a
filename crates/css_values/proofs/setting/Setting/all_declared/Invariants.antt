use Rattle.std.proofs.Common.{◌≡◌, ◌++◌, length, map}
use Rattle.css_values.specs.Registered.{declared}
use Rattle.css_values.specs.Views.{property_of, stage_of, stated_of}
use Rattle.css_values.proofs.setting.Setting.all_declared.Given as goal

-- Those that were found, and what is left.
abbrev pub invariant-own : goal.invariant-own
invariant-own l =
    map property_of l.found.items
    ++ map (declared l.self.0 l.self.1 (stage_of l.known)) (map stated_of l.left)
    ≡ map (declared l.self.0 l.self.1 (stage_of l.known)) (map stated_of l.own)

abbrev pub decreases-own : goal.decreases-own
decreases-own l = length l.left
