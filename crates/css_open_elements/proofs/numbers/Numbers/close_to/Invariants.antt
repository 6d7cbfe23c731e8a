use Rattle.std.proofs.Common.{◌≡◌, length, take}
use Rattle.css_open_elements.specs.internal.{AreLasts, numbers_of}
use Rattle.css_open_elements.proofs.numbers.Numbers.close_to.Given as goal

-- the first numbers are there, with their last places
abbrev pub invariant-close : goal.invariant-close
invariant-close l = record {
  are : AreLasts l.self-inside.lasts.items l.self-inside.listed.items;
  front : take l.len (numbers_of l.self-inside.listed.items) ≡ take l.len l.fn.self.listed;
  size : length l.self-inside.lasts.items ≡ l.fn.self.size;
}

abbrev pub decreases-close : goal.decreases-close
decreases-close l = length l.self-inside.listed.items
