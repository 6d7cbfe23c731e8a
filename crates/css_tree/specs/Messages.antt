-- The kinds of `io::Error` that the errors of a numbered tree convert to.
use Rattle.std.specs.declared.io.ErrorKind.{ErrorKind}
use Rattle.std.specs.declared.io.ErrorKind.TheVariants.{InvalidInput, OutOfMemory}
use Rattle.css_tree.specs.declared.numbered_tree.NumberingError.{NumberingError}
use Rattle.css_tree.specs.declared.numbered_tree.NumberingError.TheVariants.{TooManyElements, Memory}

-- The kind of `io::Error`.
abbrev pub kind_of : NumberingError → ErrorKind
kind_of TooManyElements = InvalidInput
kind_of Memory = OutOfMemory
