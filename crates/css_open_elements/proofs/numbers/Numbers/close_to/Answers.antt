use Rattle.std.proofs.Common.{◌≡◌, ◌<◌, ◌≤◌, ◌+◌, ◌∷◌, ◌++◌, [], length, take, sym, ap, ◌∙◌, subst, arith, length-set}
use Rattle.std.proofs.lemmas.List.{length_push, take-append-le}
use Rattle.css_open_elements.specs.internal.{AreLasts, numbers_of}
use Rattle.css_open_elements.proofs.Places.{lasts_pop, numbers_push, numbers_length}
use Rattle.css_open_elements.proofs.numbers.Numbers.close_to.Goals as goal

pub index_mut-requires : goal.index_mut-requires
index_mut-requires c =
    let all = subst (AreLasts c.close.self-inside.lasts.items) c.in-Some.ensures.items
    c.close.invariant.are in
    let last = lasts_pop c.close.self-inside.lasts.items c.pop.new.self.items c.in-Some.number
    c.in-Some.before all in
    omega (arith, last.0, c.close.self-inside.lasts.ok.0)

pub close-preserved-in-Some : goal.close-preserved-in-Some
close-preserved-in-Some c =
    let lasts = c.close.self-inside.lasts.items in
    let listed = c.close.self-inside.listed.items in
    let after = c.pop.new.self.items in
    let number = c.in-Some.number in
    let before = c.in-Some.before in
    let len = c.args.len in
    let popped : listed ≡ after ++ (number, before) ∷ [] = c.in-Some.ensures.items in
    let all = subst (AreLasts lasts) popped c.close.invariant.are in
    let last = lasts_pop lasts after number before all in
    let more : len < length listed =
    omega (arith, c.close-test.true, c.len.ensures, c.close.self-inside.listed.ok.0) in
    let sizes : length listed ≡ length after + 1 =
    ap length popped ∙ length_push after (number, before) in
    let least : len ≤ length (numbers_of after) = omega (arith, more, sizes, numbers_length after) in
    record {
      are = last.1;
      front = sym (take-append-le len (numbers_of after) (number ∷ []) least)
          ∙ ap (take len) (sym (numbers_push after number before))
          ∙ ap (λ xs. take len (numbers_of xs)) (sym popped) ∙ c.close.invariant.front;
      size = length-set lasts number before ∙ c.close.invariant.size;
    }
