use Rattle.std.proofs.Common.{◌≡◌, ◌+◌, ◌∙◌, ◌++◌, [], ◌∷◌, None, Some, ap, sym, get_or, map, take}
use Rattle.std.proofs.lemmas.List.{map-append, take_more}
use Rattle.css_cascade.specs.Cascade.{better, winner_from}
use Rattle.css_cascade.proofs.WinnerLemmas.{winner-append}
use Rattle.css_styles.specs.internal.Stepping.{contender_of, seen}
use Rattle.css_styles.proofs.decide.best_of.Goals as goal

pub loop-one-preserved : goal.loop-one-preserved
loop-one-preserved c =
    let i = c.loop-one.one-index in
    let all = c.args.rivals.now in
    let one = get_or all i _ in
    let before = map contender_of (take i all) in
    let more : map contender_of (take (i + 1) all) ≡ before ++ contender_of one ∷ [] =
    ap (map contender_of) (take_more all i _ c.loop-one-test.true)
    ∙ map-append contender_of (take i all) (one ∷ []) in
    ap Some (c.better_of.ensures
    ∙ ap (λ b. better seen b (contender_of one)) c.loop-one.invariant)
    ∙ sym (ap (winner_from seen None) more
    ∙ winner-append seen None before (contender_of one ∷ []))
