-- What contracts see of the entries of a sheet.
use Rattle.std.specs.Prelude.{List, map}
use Rattle.css_syntax.specs.Views.{item_of}
use Rattle.css_sheet.specs.ContentViews.{kind_of}
use Rattle.css_edits.specs.Entries.{SaidText, EntryText, said_of, opens, closes, holds}
use Rattle.css_edits.specs.declared.entries.Said.{Said}
use Rattle.css_edits.specs.declared.entries.Said.TheVariants as saids
use Rattle.css_edits.specs.declared.entries.Entry.{Entry}

abbrev pub said_text : Said → SaidText
said_text (saids.Opens kind) = opens (kind_of kind)
said_text saids.Closes = closes
said_text (saids.Holds item) = holds (item_of item)

abbrev pub entry_of : Entry → EntryText
entry_of e = record { said = said_text e.said; start = e.start }

-- what entries say
abbrev pub said_texts : List Entry → List SaidText
said_texts found = map said_of (map entry_of found)
