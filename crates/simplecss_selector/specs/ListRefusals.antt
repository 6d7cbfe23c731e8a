-- What contracts see of a list of selectors that was read, or of why there is none.
use Rattle.std.specs.Prelude.{List, Result, Ok, Err}
use Rattle.simplecss_grammar.specs.Components.{Component}
use Rattle.simplecss_grammar.specs.SkipViews.{why_of}
use Rattle.simplecss_selector.specs.declared.list.ListRefusal.{ListRefusal}
use Rattle.simplecss_selector.specs.SelectorLists.{ListFault}

-- why a text is no list, and where
abbrev pub fault_of : ListRefusal → ListFault
fault_of r = record { pos = r.pos; why = why_of r.why }

-- the selectors, which `items` says of a value, or why there are none
abbrev pub read_of : {V : Type 0} → (V → List (List Component)) → Result V ListRefusal
    → Result (List (List Component)) ListFault
read_of items (Ok selectors) = Ok (items selectors)
read_of items (Err r) = Err (fault_of r)
