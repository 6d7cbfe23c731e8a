use Rattle.std.proofs.Common.{◌≡◌, ◌≤◌, ◌+◌, ◌++◌, length, map}
use Rattle.std.specs.List.{All}
use Rattle.css_syntax.specs.ListReaders.{items_to_come}
use Rattle.css_styles.specs.Contenders.{declared_in, in_turn, own_declarations}
use Rattle.css_styles.specs.internal.Numbered.{IsNumbered, numbered_of}
use Rattle.css_styles.specs.internal.Stepping.{in_own}
use Rattle.css_styles.proofs.gathering.push_text.Given as goal

-- Those so far with those of the items that are to come are all; and those so far have numbers.
abbrev pub invariant-items : goal.invariant-items
invariant-items l = record {
  come : map numbered_of l.contenders.items
      ++ in_turn (in_own l.part) l.place (declared_in (items_to_come l.declarations))
      ≡ map numbered_of l.fn.contenders.items ++ in_turn (in_own l.part) 0 (own_declarations l.text);
  numbered : All (IsNumbered (l.known ++ l.others)) l.contenders.items;
  counted : l.place + length (items_to_come l.declarations) ≤ length l.text;
}

abbrev pub decreases-items : goal.decreases-items
decreases-items l = length (items_to_come l.declarations)
