use Rattle.std.proofs.Common.{◌≡◌, ◌++◌, map}
use Rattle.css_selectors.specs.AncestorKeys.{keys_before}
use Rattle.css_selectors.specs.KeyViews.{key_of}
use Rattle.css_selectors.proofs.ancestor_keys.push_ancestor_keys.Given as goal

-- the keys of the parts so far
abbrev pub invariant-loop-index : goal.invariant-loop-index
invariant-loop-index l =
    map key_of l.keys.items
    ≡ map key_of l.initial.keys.items ++ keys_before l.selector.parts l.index
