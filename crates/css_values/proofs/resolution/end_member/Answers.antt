use Rattle.std.proofs.Common.{◌≡◌, ◌∙◌, ◌∷◌, [], Some, inl, inr, ap, refl, rules, subst}
use Rattle.std.proofs.lemmas.List.{map-append}
use Rattle.css_values.specs.internal.Paths.{Cleared, entries_of, entry_of}
use Rattle.css_values.proofs.resolution.end_member.Goals as goal

pub returns-in-Some-clause-ended : goal.returns-in-Some-clause-ended
returns-in-Some-clause-ended c = inl (record {
  entry = entry_of c.in-Some.current;
  others = entries_of c.pop.new.self.items;
  parts = ap entries_of c.in-Some.ensures.items
      ∙ map-append entry_of c.pop.new.self.items (c.in-Some.current ∷ []);
  same = refl;
  is_next = ap (λ ended. Some (record {
    start = c.args.last.start;
    closed = c.args.last.closed;
    current = entry_of c.in-Some.current;
    others = entries_of c.pop.new.self.items;
    ended = ended;
  })) c.in_ok-push.ensures.items;
  is_left = refl;
})

pub returns-clause-ended : goal.returns-clause-ended
returns-clause-ended c =
    let none : c.args.last.others.items ≡ [] = search rules in
    inr (record {
      no_others = ap entries_of none;
      cleared = subst (λ numbers. Cleared c.args.slots.now numbers c.clear.new.slots)
          (c.deref.ensures.value ∙ c.in_ok-push.ensures.items) c.clear.ensures;
      parts = c.take_last.ensures.parts;
      has_last = c.take_last.ensures.ends;
    })
