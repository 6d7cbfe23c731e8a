use Rattle.std.proofs.Common.{◌≡◌, ◌≤◌, length, map}
use Rattle.css_text.specs.Reading.{each, last_or}
use Rattle.css_syntax.specs.Qualities.{first_flaw, flaw_of_all}
use Rattle.css_syntax.specs.Parts.{part}
use Rattle.css_syntax.proofs.parts.read_byte_parts.Given as goal

-- The parts from here on, and the end of the last one so far, determine what is read.
abbrev pub invariant-parts : goal.invariant-parts
invariant-parts l = record {
  last : last_or l.end (map (λ one. one.1) (each (part l.stops) l.rest).0)
      ≡ last_or l.bytes (map (λ one. one.1) (each (part l.stops) l.bytes).0);
  flaw : first_flaw l.quality (flaw_of_all (map (λ one. one.0) (each (part l.stops) l.rest).0))
      ≡ flaw_of_all (map (λ one. one.0) (each (part l.stops) l.bytes).0);
  left : (each (part l.stops) l.rest).1 ≡ (each (part l.stops) l.bytes).1;
  within : length l.end ≤ length l.bytes;
  after : length l.rest ≤ length l.end;
}

abbrev pub decreases-parts : goal.decreases-parts
decreases-parts l = length l.rest
