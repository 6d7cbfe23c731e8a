use Rattle.std.proofs.Common.{◌≡◌, drop, refl, ap, ◌∙◌, subst}
use Rattle.simplecss.specs.internal.Kept.{top_starts}
use Rattle.simplecss.proofs.OpenPathLemmas.{last_starts, no_starts, got_starts}
use Rattle.simplecss.proofs.index.open_path.OpenPath.parent_starts.Goals as goal

pub returns-in-Some : goal.returns-in-Some
returns-in-Some c =
    let starts = c.self.inside.starts.items in
    let mark = c.in-Some.field-0.now in
    let last = c.in-Some.ensures.item in
    subst (λ v. c.unwrap_or.result.now ≡ top_starts v.marks v.starts) c.self.view_is
    (ap (λ b. b.now) c.unwrap_or.ensures
    ∙ got_starts c.get.result _ c.deref-in-Some.result.now mark.1 refl c.get.ensures.lookup.0
    ∙ ap (drop mark.1) c.deref-in-Some.ensures.value
    ∙ last_starts c.deref.result.now c.self.inside.marks.items mark starts c.deref.ensures.value
    last.3.0 last.1)

pub returns-in-None : goal.returns-in-None
returns-in-None c =
    subst (λ v. c.deref-in-None.result.now ≡ top_starts v.marks v.starts) c.self.view_is
    (c.deref-in-None.ensures.value
    ∙ no_starts c.deref.result.now c.self.inside.marks.items c.self.inside.starts.items
    c.deref.ensures.value c.in-None.ensures.item.3)
