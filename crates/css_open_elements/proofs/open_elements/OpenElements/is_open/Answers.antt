use Rattle.std.proofs.Common.{subst}
use Rattle.std.specs.Prelude.{IsTrue, reverse}
use Rattle.css_open_elements.specs.Opened.{IsOpen}
use Rattle.css_open_elements.proofs.Places.{listed_open}
use Rattle.css_open_elements.proofs.open_elements.OpenElements.is_open.Goals as goal

pub returns : goal.returns
returns c =
    let listed = listed_open (reverse c.self.inside.marks.items) c.self.inside.numbers.listed c.args.number
    c.self.invariant in
    subst (λ v. (IsTrue c.is_since.result → IsOpen v.opened c.args.number)
    × (IsOpen v.opened c.args.number → IsTrue c.is_since.result)) c.self.view_is
    (λ h. listed.0 (c.is_since.ensures.0 h), λ o. c.is_since.ensures.1 (listed.1 o))
