-- The command that the words after the program's name spell.
use Rattle.std.specs.Prelude.{ℕ, List, [], ◌∷◌, Option, None, Some, codes, map, if◌then◌else◌, bytes_eq, string_bytes}
use Rattle.cssq.specs.declared.command.Command.{Command}
use Rattle.cssq.specs.declared.command.Command.TheVariants.{Input, Selector, Sheet, Match, Style}

-- a command, wherever its words are stored
pub data Request : Type 0 where
  input : Request
  selector : List ℕ → Request
  sheet : List (List ℕ) → Request
  match : List ℕ → List ℕ → Request
  style : List ℕ → List ℕ → List ℕ → Request

-- what contracts see of a command, wherever its words are stored
abbrev pub request : Command → Request
request Input = input
request (Selector text) = selector text.now
request (Sheet files) = sheet (map string_bytes files.now)
request (Match file tree) = match file.now tree.now
request (Style file tree name) = style file.now tree.now name.now

-- the operand of `selector` is its text
abbrev pub selector_of : List (List ℕ) → Option Request
selector_of [] = None
selector_of (text ∷ []) = Some (selector text)
selector_of (text ∷ word ∷ words) = None

-- the operands of `sheet` are one file or more
abbrev pub sheet_of : List (List ℕ) → Option Request
sheet_of [] = None
sheet_of (file ∷ files) = Some (sheet (file ∷ files))

-- the operands of `match` are a file and a tree
abbrev pub match_of : List (List ℕ) → Option Request
match_of [] = None
match_of (file ∷ []) = None
match_of (file ∷ tree ∷ []) = Some (match file tree)
match_of (file ∷ tree ∷ word ∷ words) = None

-- the operands of `style` are a file, a tree and a name
abbrev pub style_of : List (List ℕ) → Option Request
style_of [] = None
style_of (file ∷ []) = None
style_of (file ∷ tree ∷ []) = None
style_of (file ∷ tree ∷ name ∷ []) = Some (style file tree name)
style_of (file ∷ tree ∷ name ∷ word ∷ words) = None

-- no words are the command that reads standard input; else the first word is a command's name, and
-- the others are its operands
abbrev pub request_of : List (List ℕ) → Option Request
request_of [] = Some input
request_of (name ∷ operands) =
    if bytes_eq name (codes "selector") then selector_of operands
    else (if bytes_eq name (codes "sheet") then sheet_of operands
    else (if bytes_eq name (codes "match") then match_of operands
    else (if bytes_eq name (codes "style") then style_of operands
    else None)))
