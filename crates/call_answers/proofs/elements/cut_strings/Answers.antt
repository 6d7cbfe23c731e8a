use Rattle.std.proofs.Common.{map, ap, sym}
use Rattle.std.proofs.lemmas.Str.{IsCharBoundary-start}
use Rattle.call_answers.specs.Elements.{strings_in}
use Rattle.call_answers.proofs.StringCuts.{with_strings}
use Rattle.call_answers.proofs.elements.cut_strings.Goals as goal

pub loop-end-init : goal.loop-end-init
loop-end-init c = record {
  whole = ap (λ items. with_strings (map (λ string. string.now) items)
      (strings_in c.args.buffer.now c.args.ends.now)) (sym c.in_ok-strings.ensures.items);
  boundary = IsCharBoundary-start c.args.buffer.now c.utf8.buffer;
}
