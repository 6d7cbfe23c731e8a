-- A text on the heap of the C library, and its row.
use Rattle.std.specs.declared.string.String.{String}
use Rattle.std.specs.Global.{Global}
use Rattle.std.specs.contracts.string.String as text
use Rattle.std.specs.contracts.alloc.Global as Heap
use Rattle.std.specs.contracts.impls.GlobalAllocator.TheImpl.{ghosts}
use denote.RattleType.{RattleType}

abbrev pub Text : Type 0
Text = String Global

abbrev pub text_row : RattleType
text_row = text.the_row Heap.the_row ghosts
