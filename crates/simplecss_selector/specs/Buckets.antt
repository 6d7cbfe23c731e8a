-- The key by which an index finds a selector: the key of its last component, on the element; or, if
-- that is no condition and a child or adjacent combinator precedes it, the key of the component
-- before, on the element's parent or previous sibling.
use Rattle.std.specs.Prelude.{◌≡◌, List, [], ◌∷◌, Option, Some, None, Bool, false, IsTrue, length}
use Rattle.std.specs.Option.{option_map_or}
use Rattle.simplecss_grammar.specs.Components.{Component, Combinator}
use Rattle.simplecss_grammar.specs.Components.Combinator.{none, descendant, child, adjacent}
use Rattle.simplecss_selector.specs.Keys.{Key, Reported, compound_key, HasKey, reports_key}
use Rattle.simplecss_selector.specs.Keys.Key.{by_id, by_class, by_name, by_attribute, by_nothing}
use Rattle.simplecss_selector.specs.Shapes.{first_of}
use Rattle.simplecss_selector.specs.Trees.{Tree}

-- a key, and the node that must have it
pub data Bucket : Type 0 where
  of_element : Key → Bucket
  of_parent : Key → Bucket
  of_previous : Key → Bucket

-- the key of the component before, on the node to which the combinator leads
abbrev pub beside : Combinator → Key → Bucket
beside none before = of_element by_nothing
beside descendant before = of_element by_nothing
beside child before = of_parent before
beside adjacent before = of_previous before

-- the key, or that of the component before if the key is no condition
abbrev pub bucket_by : Key → Combinator → Key → Bucket
bucket_by (by_id text) combinator before = of_element (by_id text)
bucket_by (by_class word) combinator before = of_element (by_class word)
bucket_by (by_name name) combinator before = of_element (by_name name)
bucket_by (by_attribute name) combinator before = of_element (by_attribute name)
bucket_by by_nothing combinator before = beside combinator before

-- the bucket of components in reverse order
abbrev pub bucket_among : List Component → Bucket
bucket_among [] = of_element by_nothing
bucket_among (c ∷ []) = of_element (compound_key c.compound)
bucket_among (c ∷ b ∷ cs) =
    bucket_by (compound_key c.compound) c.combinator (compound_key b.compound)

-- the key by which an index finds a selector
abbrev pub bucket_of : List Component → Bucket
bucket_of components = bucket_among (first_of components (length components))

-- there is a node, and it has the key
abbrev pub SomeHas : {Node : Type 0} → Tree Node → Option Node → Key → Type 0
SomeHas tree None key = ⊥
SomeHas tree (Some m) key = HasKey tree m key

-- the node, its parent or its previous sibling has the bucket's key
abbrev pub HasBucket : {Node : Type 0} → Tree Node → Node → Bucket → Type 0
HasBucket tree n (of_element key) = HasKey tree n key
HasBucket tree n (of_parent key) = SomeHas tree (tree.parent n) key
HasBucket tree n (of_previous key) = SomeHas tree (tree.previous_sibling n) key

-- what an element, its parent and its previous sibling report, if they exist
pub record Near : Type 0 where
  pub own : Reported
  pub parent : Option Reported
  pub previous : Option Reported

-- whether what is reported includes the bucket's key
abbrev pub reports_bucket : Near → Bucket → Bool
reports_bucket near (of_element key) = reports_key near.own key
reports_bucket near (of_parent key) =
    option_map_or (λ reported. reports_key reported key) near.parent false
reports_bucket near (of_previous key) =
    option_map_or (λ reported. reports_key reported key) near.previous false

-- whatever the node and its neighbours have is reported; more may be reported
abbrev pub ReportsBuckets : {Node : Type 0} → Tree Node → Node → Near → Type 0
ReportsBuckets tree n near =
    (bucket : Bucket) → HasBucket tree n bucket → IsTrue (reports_bucket near bucket)

-- what an element that denotes the node, if there is one, reports
abbrev pub IsReportedFor : {Node Self : Type 0} → (Self → Node) → (Self → Reported) → Option Node
    → Option Reported → Type 0
IsReportedFor node reported None None = Unit {0}
IsReportedFor node reported None (Some t) = ⊥
IsReportedFor node reported (Some m) None = ⊥
IsReportedFor {Self = Self} node reported (Some m) (Some t) =
    (e : Self) × (node e ≡ m) × (reported e ≡ t)

-- what is reported near an element: by the element, and by elements that denote its parent and its
-- previous sibling
pub record IsNear {Node Self : Type 0} (tree : Tree Node) (node : Self → Node)
    (reported : Self → Reported) (element : Self) (near : Near) : Type 0 where
  pub own : near.own ≡ reported element
  pub parent : IsReportedFor node reported (tree.parent (node element)) near.parent
  pub previous : IsReportedFor node reported (tree.previous_sibling (node element)) near.previous
