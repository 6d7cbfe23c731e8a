-- The printed texts of errors of sheets, and the kinds of `io::Error` that they convert to.
use Rattle.std.specs.Prelude.{ℕ, List, codes}
use Rattle.std.specs.declared.io.ErrorKind.{ErrorKind}
use Rattle.std.specs.declared.io.ErrorKind.TheVariants.{InvalidData, OutOfMemory}
use Rattle.css_cascade.specs.declared.layers.LayersError.{LayersError}
use Rattle.css_cascade.specs.declared.layers.LayersError.TheVariants as of_layer
use Rattle.css_sheet.specs.declared.sheet_error.SheetError.{SheetError}
use Rattle.css_sheet.specs.declared.sheet_error.SheetError.TheVariants.{TooManyDeclarations, TooManyLayers, Memory}

-- The text of an error.
abbrev pub message_of : SheetError → List ℕ
message_of TooManyDeclarations = codes "too many declarations"
message_of TooManyLayers = codes "too many layers"
message_of Memory = codes "out of memory"

-- The kind of `io::Error`.
abbrev pub kind_of : SheetError → ErrorKind
kind_of TooManyDeclarations = InvalidData
kind_of TooManyLayers = InvalidData
kind_of Memory = OutOfMemory

-- The error that one of layers is.
abbrev pub of_layers : LayersError → SheetError
of_layers of_layer.TooManyLayers = TooManyLayers
of_layers of_layer.Memory = Memory
