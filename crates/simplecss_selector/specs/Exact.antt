-- Elements that report no more than they match.
use Rattle.std.specs.Prelude.{IsTrue}
use Rattle.simplecss_selector.specs.Keys.{Key, Reported, HasKey, reports_key}
use Rattle.simplecss_selector.specs.Trees.{Tree}

-- every key that is reported is one that the node has
abbrev pub ReportsOnlyKeys : {Node : Type 0} → Tree Node → Node → Reported → Type 0
ReportsOnlyKeys tree n reported = (key : Key) → IsTrue (reports_key reported key) → HasKey tree n key
