use Rattle.std.proofs.Common.{◌≡◌, ◌++◌, map}
use Rattle.simplecss_selector.specs.AncestorKeys.{keys_among}
use Rattle.simplecss_selector.specs.KeyViews.{key_value}
use Rattle.simplecss_selector.specs.Shapes.{first_of}
use Rattle.simplecss_selector.proofs.selector.Selector.push_ancestor_keys.Given as goal

-- the keys of the components so far were appended
abbrev pub invariant-loop-index : goal.invariant-loop-index
invariant-loop-index l = map key_value l.keys.items
    ≡ map key_value l.initial.keys.items ++ keys_among (first_of l.self l.index)
