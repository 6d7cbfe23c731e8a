use Rattle.std.proofs.Common.{◌<◌, ◌≡◌, arith, length, map, refl, subst, sym, true}
use Rattle.std.specs.List.{All}
use Rattle.css_styles.specs.internal.Numbered.{IsNoted, is_kept, numbered_of}
use Rattle.css_styles.proofs.RollingLemmas.{counted-all, kept-all}
use Rattle.css_styles.proofs.StyleLemmas.{numbers-within}
use Rattle.css_styles.proofs.contest.roll_back.Goals as goal

pub note_anew-requires : goal.note_anew-requires
note_anew-requires c =
    subst (All (λ n. n.property < length c.args.best.now)) (sym c.deref.ensures.value)
    (numbers-within c.requires.0 c.args.contenders.now.items _ _ refl c.requires.1 c.requires.3)

pub returns-then-are_kept : goal.returns-then-are_kept
returns-then-are_kept c =
    let all = c.args.contenders.now.items in
    let best = c.note_anew.new.best in
    let noted =
    subst (λ xs. All (IsNoted xs best) xs) c.deref.ensures.value c.note_anew.ensures.noted in
    let kept =
    subst (All (λ n. is_kept best n ≡ true)) c.deref-2.ensures.value
    (c.are_kept.ensures c.if-are_kept.true) in
    record {
      len = c.note_anew.ensures.len;
      counting = counted-all (map numbered_of all) (kept-all c.requires.0 all best c.requires.3 noted kept);
      numbered = λ properties numbered. numbered;
      noted = noted;
    }

pub note_anew-requires-2 : goal.note_anew-requires-2
note_anew-requires-2 c =
    let fits = c.requires.1 in
    let same = c.note_anew.ensures.len in
    subst (All (λ n. n.property < length c.note_anew.new.best)) (sym c.deref-3.ensures.value)
    (numbers-within c.requires.0 c.take_out.new.contenders.items _ _ refl (omega (arith, fits, same))
    (c.in_ok-take_out.ensures.numbered c.requires.0 c.requires.3))
