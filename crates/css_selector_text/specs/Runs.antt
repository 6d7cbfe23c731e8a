-- Runs of bytes at the start of a text.
use Rattle.std.specs.Prelude.{ℕ, Bool, List, take}
use Rattle.std.specs.List.{prefix_len}

-- the longest run of bytes at the start of which the test is true
abbrev pub run : (ℕ → Bool) → List ℕ → List ℕ
run test text = take (prefix_len test text) text
