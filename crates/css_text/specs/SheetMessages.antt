-- The printed texts of a sheet's errors, and the kinds of `io::Error` that they convert to.
use Rattle.std.specs.Prelude.{ℕ, List, codes}
use Rattle.std.specs.declared.io.ErrorKind.{ErrorKind}
use Rattle.std.specs.declared.io.ErrorKind.TheVariants.{InvalidData, OutOfMemory}
use Rattle.css_text.specs.declared.sheet_error.SheetError.{SheetError}
use Rattle.css_text.specs.declared.sheet_error.SheetError.TheVariants.{TooManyDeclarations, Memory}

-- The text of an error.
abbrev pub message_of : SheetError → List ℕ
message_of TooManyDeclarations = codes "too many declarations"
message_of Memory = codes "out of memory"

-- The kind of `io::Error`.
abbrev pub kind_of : SheetError → ErrorKind
kind_of TooManyDeclarations = InvalidData
kind_of Memory = OutOfMemory
