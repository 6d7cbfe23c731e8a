use Rattle.std.proofs.Common.{map, take}
use Rattle.css_index.specs.internal.Filed.{entry_of}
use Rattle.css_index.specs.internal.Sieves.{AreIn}
use Rattle.css_index.proofs.sieve.sieve_of.Given as goal

-- the places of the keys of the entries so far are taken
abbrev pub invariant-loop-entry : goal.invariant-loop-entry
invariant-loop-entry l = AreIn l.sieve.places.items (map entry_of (take l.entry-index l.entries))
