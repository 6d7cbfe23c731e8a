use Rattle.std.proofs.Common.{◌≡◌, ◌++◌, length, map}
use Rattle.css_values.specs.Registered.{undeclared}
use Rattle.css_values.specs.Views.{property_of}
use Rattle.css_values.proofs.setting.Setting.push_undeclared.Given as goal

-- Those that were appended, and what is left.
abbrev pub invariant-others : goal.invariant-others
invariant-others l =
    map property_of l.found.items ++ map (undeclared l.self.0 l.self.1) (map property_of l.left)
    ≡ map property_of l.fn.found.items ++ map (undeclared l.self.0 l.self.1) (map property_of l.others)

abbrev pub decreases-others : goal.decreases-others
decreases-others l = length l.left
