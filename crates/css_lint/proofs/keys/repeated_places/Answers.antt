use Rattle.std.proofs.Common.{◌≡◌, ◌++◌, ◌∷◌, [], true, false, List, arith, drop, map, subst, sym, ◌∙◌}
use Rattle.std.proofs.lemmas.Grind.{common_steps}
use Rattle.css_lint.specs.declared.keys.Keyed.{Keyed}
use Rattle.css_lint.specs.Places.{place_of}
use Rattle.css_lint.specs.Keys.{is_among, keyed_of, repeated, repeated_after}
use Rattle.css_lint.proofs.KeyLemmas.{is_among-more, repeated-more, repeated-same}
use Rattle.css_lint.proofs.keys.repeated_places.Goals as goal

pub keys-preserved-in_ok-push : goal.keys-preserved-in_ok-push
keys-preserved-in_ok-push c =
    let before = c.keys.invariant.0 in
    let one = keyed_of c.one-item.result in
    let key : c.as_slice.result.now ≡ one.key = c.as_slice.ensures.value in
    let was : is_among before one.key ≡ true =
    sym (c.keys.invariant.1 one.key) ∙ grind (arith, key) in
    let whole : c.keys.left.now ≡ c.one-item.result ∷ drop 1 c.keys.left.now = grind (arith, common_steps) in
    let due = subst (λ (l : List Keyed). map place_of c.keys.found.items
    ++ repeated_after before (map keyed_of l) ≡ repeated (map keyed_of c.args.all.now)) whole c.keys.invariant.2 in
    let more = repeated-more (map place_of c.keys.found.items) before one
    (map keyed_of (drop 1 c.keys.left.now)) _ was due in (
      before ++ one.key ∷ [],
      λ q. is_among-more before c.as_slice.result.now one.key q _ _ key (c.in_ok-is_met.ensures.keys q) (c.keys.invariant.1 q),
      grind (arith, common_steps, more),
    )

pub keys-preserved : goal.keys-preserved
keys-preserved c =
    let before = c.keys.invariant.0 in
    let one = keyed_of c.one-item.result in
    let key : c.as_slice.result.now ≡ one.key = c.as_slice.ensures.value in
    let was : is_among before one.key ≡ false =
    sym (c.keys.invariant.1 one.key) ∙ grind (arith, key) in
    let whole : c.keys.left.now ≡ c.one-item.result ∷ drop 1 c.keys.left.now = grind (arith, common_steps) in
    let due = subst (λ (l : List Keyed). map place_of c.keys.found.items
    ++ repeated_after before (map keyed_of l) ≡ repeated (map keyed_of c.args.all.now)) whole c.keys.invariant.2 in
    let more = repeated-same (map place_of c.keys.found.items) before one
    (map keyed_of (drop 1 c.keys.left.now)) _ was due in (
      before ++ one.key ∷ [],
      λ q. is_among-more before c.as_slice.result.now one.key q _ _ key (c.in_ok-is_met.ensures.keys q) (c.keys.invariant.1 q),
      grind (arith, common_steps, more),
    )
