use Rattle.std.proofs.Common.{◌≡◌, ◌+◌, length, map}
use Rattle.css_conditions.specs.Devices.{word_from}
use Rattle.css_conditions.proofs.device.word_number.Given as goal

abbrev pub invariant-words : goal.invariant-words
invariant-words l = record {
  same : word_from l.number (map (λ word. word.now) l.left) l.value
      ≡ word_from 0 (map (λ word. word.now) l.words) l.value;
  counted : l.number + length l.left ≡ length l.words;
}

abbrev pub decreases-words : goal.decreases-words
decreases-words l = length l.left
