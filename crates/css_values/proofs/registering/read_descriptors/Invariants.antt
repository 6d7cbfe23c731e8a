use Rattle.std.proofs.Common.{◌≡◌, length}
use Rattle.css_syntax.specs.ListReaders.{items_to_come}
use Rattle.css_values.specs.Registrations.{described_by_all, descriptors_of}
use Rattle.css_values.specs.Views.{descriptors_text}
use Rattle.css_values.proofs.registering.read_descriptors.Given as goal

-- What was said, and what is to come.
abbrev pub invariant-items : goal.invariant-items
invariant-items l =
    descriptors_of l.block ≡ described_by_all (descriptors_text l.said) (items_to_come l.items)

abbrev pub decreases-items : goal.decreases-items
decreases-items l = length (items_to_come l.items)
