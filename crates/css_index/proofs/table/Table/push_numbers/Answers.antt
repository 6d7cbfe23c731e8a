use Rattle.std.proofs.Common.{◌+◌, [], ◌∷◌, ◌++◌, map, take, get_or, sym, subst}
use Rattle.std.proofs.lemmas.List.{map_more}
use Rattle.css_selectors.specs.KeyViews.{key_of}
use Rattle.css_index.specs.Walks.{AreNumbersOf}
use Rattle.css_index.proofs.WalkLemmas.{numbers_push, numbers_none}
use Rattle.css_index.proofs.table.Table.push_numbers.Goals as goal

pub loop-key-init : goal.loop-key-init
loop-key-init c = record {
  numbered = c.requires.numbered;
  more = λ e k. k;
  numbers = subst (AreNumbersOf c.args.self.now []) (sym c.requires.none) (numbers_none c.args.self.now);
}

pub loop-key-preserved : goal.loop-key-preserved
loop-key-preserved c =
    let keys = c.args.keys.now in
    let i = c.loop-key.key-index in
    let new = c.number.new.self in
    record {
      numbered = c.in_ok-number.ensures.numbered;
      more = λ e k. c.in_ok-number.ensures.more e (c.loop-key.invariant.more e k);
      numbers = subst (AreNumbersOf new (map key_of (take (i + 1) keys))) (sym c.in_ok-push.ensures.items)
          (subst (λ ks. AreNumbersOf new ks (c.loop-key.numbers.items ++ c.in_ok-number.number ∷ []))
          (sym (map_more key_of keys i _ c.loop-key-test.true))
          (numbers_push c.loop-key.self new (map key_of (take i keys)) c.loop-key.numbers.items
          (key_of (get_or keys i _)) c.in_ok-number.number c.in_ok-number.ensures.more
          c.loop-key.invariant.numbers c.in_ok-number.ensures.number));
    }
