use Rattle.std.proofs.Common.{◌≡◌, map, subst, sym}
use Rattle.css_styles.specs.StyleViews.{winner_of}
use Rattle.css_styles.specs.Winners.{winners}
use Rattle.css_styles.specs.internal.Remembered.{no_own}
use Rattle.css_styles.proofs.RememberedLemmas.{slot-set}
use Rattle.css_styles.proofs.finder.Finder.remember.Goals as goal

pub invariant_of-self-2 : goal.invariant_of-self-2
invariant_of-self-2 c =
    slot-set c.self.inside.rules.now.rules c.self.inside.slots.items _ c.in_ok-slot.slot
    c.args.indices.now c.args.found.now c.self.invariant c.in_ok-slot.ensures.indices c.in_ok-slot.ensures.found
    (subst (λ rules. map winner_of c.args.found.now ≡ winners rules c.args.indices.now no_own)
    (sym c.self.view_is) c.requires)
