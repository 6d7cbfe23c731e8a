use Rattle.std.proofs.Common.{◌≡◌, ◌<◌, ◌≤◌, false, length}
use Rattle.css_syntax.specs.declared.parts.Stops.{Stops}
use Rattle.css_syntax.specs.declared.quality.Quality.TheVariants.{Whole}
use Rattle.css_syntax.specs.Tokens.{past_gap}
use Rattle.css_syntax.specs.internal.PlainTokens.{Goes}
use Rattle.css_syntax.proofs.plain.past_plain.Given as goal

-- What ends so far is whole parts, and from here on is what follows them, without space bytes.
abbrev pub invariant-tokens : goal.invariant-tokens
invariant-tokens l = record {
  goes : (stops : Stops) → stops.comma ≡ false → length l.end < length l.bytes
      → Goes stops l.bytes Whole l.end (past_gap l.end);
  start : length l.bytes ≤ length l.end → l.from ≡ l.bytes;
  gap : past_gap l.from ≡ past_gap l.end;
  after : length l.from ≤ length l.end;
  within : length l.end ≤ length l.bytes;
}

abbrev pub decreases-tokens : goal.decreases-tokens
decreases-tokens l = length l.from
