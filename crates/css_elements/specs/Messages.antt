-- The printed texts of a tree's errors, and the kinds of `io::Error` that they convert to.
use Rattle.std.specs.Prelude.{ℕ, List, codes}
use Rattle.std.specs.declared.io.ErrorKind.{ErrorKind}
use Rattle.std.specs.declared.io.ErrorKind.TheVariants.{NotFound, OutOfMemory}
use Rattle.css_elements.specs.declared.tree.TreeError.{TreeError}
use Rattle.css_elements.specs.declared.tree.TreeError.TheVariants.{NoElement, Memory}

-- The text of an error.
abbrev pub message_of : TreeError → List ℕ
message_of NoElement = codes "no such element"
message_of Memory = codes "want of memory"

-- The kind of `io::Error`.
abbrev pub kind_of : TreeError → ErrorKind
kind_of NoElement = NotFound
kind_of Memory = OutOfMemory
