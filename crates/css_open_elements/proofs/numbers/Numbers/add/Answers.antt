use Rattle.std.proofs.Common.{◌≡◌, ◌<◌, ◌+◌, length, get_or, ap, ◌∙◌, sym, subst, arith}
use Rattle.std.proofs.lemmas.List.{length_push, get_or_default}
use Rattle.css_open_elements.proofs.Places.{lasts_push}
use Rattle.css_open_elements.proofs.numbers.Numbers.add.Goals as goal

pub invariant_of-self-2 : goal.invariant_of-self-2
invariant_of-self-2 c =
    let lasts = c.self.inside.lasts.items in
    let listed = c.self.inside.listed.items in
    let number = c.args.number in
    let lt : number < length lasts =
    subst (λ v. number < v.size) (sym c.self.view_is) c.requires in
    let before : c.index-before.result.now ≡ get_or lasts number 0 =
    c.index-before.ensures ∙ get_or_default lasts number c.index-before.result.now 0 lt in
    let last : c.len.result ≡ length listed + 1 = omega (arith, c.len.ensures, ap length c.in_ok-push.ensures.items, length_push listed (number, c.index-before.result.now)) in
    rw (c.in_ok-push.ensures.items, before) (lasts_push lasts listed number c.len.result c.self.invariant lt last)
