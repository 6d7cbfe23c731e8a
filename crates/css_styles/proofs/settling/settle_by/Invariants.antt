use Rattle.std.proofs.Common.{◌≡◌, map, take, drop}
use Rattle.css_styles.specs.Winners.{settled_in}
use Rattle.css_styles.specs.internal.Numbered.{named_of, numbered_of}
use Rattle.css_styles.proofs.settling.settle_by.Given as goal

-- those that are settled, and the others as they were
abbrev pub invariant-contenders : goal.invariant-contenders
invariant-contenders l = record {
  done : map numbered_of (take l.one-index l.one-items)
      ≡ map (settled_in (map numbered_of l.fn.contenders.items))
      (map numbered_of (take l.one-index l.initial.one-items));
  named : map named_of (take l.one-index l.one-items)
      ≡ map (λ p. p) (map named_of (take l.one-index l.initial.one-items));
  others : drop l.one-index l.one-items ≡ drop l.one-index l.initial.one-items;
}
