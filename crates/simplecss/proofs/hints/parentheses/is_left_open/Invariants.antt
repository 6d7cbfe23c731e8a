use Rattle.std.proofs.Common.{◌≡◌, ◌≤◌, drop}
use Rattle.css_text.specs.AsciiBytes.{space}
use Rattle.simplecss.specs.declared.hints.parentheses.Within.TheVariants.{Value}
use Rattle.simplecss.specs.OpenParentheses.{open_at_end}
use Rattle.simplecss.proofs.hints.parentheses.is_left_open.Given as goal

-- As many are open at the end as what is left leaves open from here on, and at most one a byte is.
abbrev pub invariant-loop-byte : goal.invariant-loop-byte
invariant-loop-byte l =
    (open_at_end Value space 0 l.value
    ≡ open_at_end l.within l.before l.count (drop l.byte-index l.value))
    × (l.count ≤ l.byte-index)
