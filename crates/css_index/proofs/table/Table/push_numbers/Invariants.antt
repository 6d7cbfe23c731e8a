use Rattle.std.proofs.Common.{map, take}
use Rattle.css_selectors.specs.KeyViews.{key_of}
use Rattle.css_index.specs.Walks.{AreNumbered, AreNumbersOf, IsMore}
use Rattle.css_index.proofs.table.Table.push_numbers.Given as goal

-- the first keys have numbers
abbrev pub invariant-loop-key : goal.invariant-loop-key
invariant-loop-key l = record {
  numbered : AreNumbered l.self;
  more : IsMore l.initial.self l.self;
  numbers : AreNumbersOf l.self (map key_of (take l.key-index l.keys)) l.numbers.items;
}
