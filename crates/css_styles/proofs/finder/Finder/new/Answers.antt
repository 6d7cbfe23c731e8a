use Rattle.std.proofs.lemmas.List.Elements.{All-nil}
use Rattle.css_styles.specs.internal.Remembered.{IsSlotOf}
use Rattle.css_styles.proofs.RememberedLemmas.{empty-push}
use Rattle.css_styles.proofs.finder.Finder.new.Goals as goal

pub slots-init : goal.slots-init
slots-init c = rw c.in_ok-slots.ensures.items (All-nil (IsSlotOf c.args.rules.now.rules))

pub slots-preserved : goal.slots-preserved
slots-preserved c = rw c.in_ok-push.ensures.items
    (empty-push c.args.rules.now.rules c.slots.slots.items c.slots.invariant)
