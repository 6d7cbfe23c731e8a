use Rattle.std.proofs.Common.{◌≡◌, map, take}
use Rattle.std.specs.List.{fold}
use Rattle.simplecss_selector.specs.KeyViews.{key_value}
use Rattle.simplecss.specs.OpenPaths.{add_key}
use Rattle.simplecss.specs.internal.NeededKeys.{keys_of, HasNumbers, AreNumbersOf}
use Rattle.simplecss.proofs.index.needed_keys.NeededKeys.numbers_of.Given as goal

-- the first keys have numbers
abbrev pub invariant-loop-key : goal.invariant-loop-key
invariant-loop-key l = record {
  numbered : HasNumbers l.self;
  keys : keys_of l.self
      ≡ fold add_key (keys_of l.initial.self) (map key_value (take l.key-index l.keys));
  numbers : AreNumbersOf (keys_of l.self) l.numbers.items
      (map key_value (take l.key-index l.keys));
}
