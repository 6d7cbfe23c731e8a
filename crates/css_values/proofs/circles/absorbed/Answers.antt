use Rattle.std.proofs.Common.{◌∙◌, ◌∷◌, [], ap, true}
use Rattle.std.proofs.lemmas.List.{map-append}
use Rattle.css_values.specs.internal.Paths.{entries_of, entry_of}
use Rattle.css_values.proofs.CircleLemmas.{both-map}
use Rattle.css_values.proofs.circles.absorbed.Goals as goal

pub returns : goal.returns
returns c = record {
  both = entries_of c.in_ok-others.others.items;
  gone = c.in_ok-ended.ended.items;
  are_both = both-map entry_of c.args.upper.others.items c.args.lower.others.items
      c.in_ok-others.others.items c.in_ok-others.ensures;
  are_gone = c.in_ok-ended.ensures;
  is = ap (λ others. record {
    start = c.args.lower.start;
    closed = true;
    current = entry_of c.args.upper.current;
    others = others;
    ended = c.in_ok-ended.ended.items;
  }) (ap entries_of c.in_ok-push.ensures.items
      ∙ map-append entry_of c.in_ok-others.others.items (c.args.lower.current ∷ []));
}
