use Rattle.std.proofs.Common.{◌≡◌, map, take, string_bytes}
use Rattle.simplecss.specs.Places.{IsPlace}
use Rattle.simplecss.specs.SkipViews.{skip_of}
use Rattle.call_answers.specs.PortTexts.{skipped_texts}
use Rattle.call_answers.proofs.port_texts.skipped_texts.Given as goal

-- the texts of the parts so far, of which this is the last place
abbrev pub invariant-loop-part : goal.invariant-loop-part
invariant-loop-part l = record {
  here : IsPlace l.text l.place;
  written : string_bytes l.out ≡ skipped_texts l.text (map skip_of (take l.part-index l.parts));
}
