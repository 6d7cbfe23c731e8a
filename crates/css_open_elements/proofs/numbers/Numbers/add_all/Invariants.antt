use Rattle.std.proofs.Common.{◌≡◌, ◌++◌, take}
use Rattle.css_open_elements.proofs.numbers.Numbers.add_all.Given as goal

-- the first numbers are listed
abbrev pub invariant-loop-number : goal.invariant-loop-number
invariant-loop-number l = record {
  listed : l.self.listed ≡ l.initial.self.listed ++ take l.number-index l.numbers;
  size : l.self.size ≡ l.initial.self.size;
}
