-- What an element reports, and which keys that covers.
use Rattle.std.specs.Prelude.{ℕ, Bool, true, List, IsTrue}
use Rattle.std.specs.List.{list_any}
use Rattle.std.specs.Str.{str_eq_ignore_ascii_case}
use Rattle.css_selectors.specs.Documents.{Document}
use Rattle.css_selectors.specs.Keys.{Key, has_key}
use Rattle.css_selectors.specs.Keys.Key.{by_id, by_class, by_name, by_attribute, by_nothing}

-- an element's name, and the names of its attributes
pub record Reported : Type 0 where
  pub name : List ℕ
  pub attributes : List (List ℕ)

-- Whether the key is one of a node that reports this. The case of ASCII letters in names of elements
-- and attributes does not count. Ids and classes are those of the attributes `id` and `class`.
abbrev pub reports_key : {Node : Type 0} → Document Node → Node → Reported → Key → Bool
reports_key document n reported (by_id text) = has_key document n (by_id text)
reports_key document n reported (by_class word) = has_key document n (by_class word)
reports_key document n reported (by_name name) = str_eq_ignore_ascii_case name reported.name
reports_key document n reported (by_attribute name) =
    list_any (str_eq_ignore_ascii_case name) reported.attributes
reports_key document n reported by_nothing = true

-- each key that the node has is reported
abbrev pub ReportsKeys : {Node : Type 0} → Document Node → Node → Reported → Type 0
ReportsKeys document n reported = (key : Key) → IsTrue (has_key document n key)
    → IsTrue (reports_key document n reported key)
