use Rattle.std.proofs.Common.{◌≡◌, ◌<◌, ◌↔◌, ℕ, List, [], Some, get_or, arith, refl, sym, subst}
use Rattle.std.specs.List.{Contains}
use Rattle.std.proofs.lemmas.List.Elements.{Contains-get_or}
use Rattle.css_selectors.specs.Keys.{Key}
use Rattle.css_index.specs.internal.Added.{AreAdded, KeepsEach}
use Rattle.css_index.specs.internal.Filed.{found_by_any}
use Rattle.css_index.specs.Walks.{Numbered, AreOpened}
use Rattle.css_index.proofs.AddedLemmas.{added_alone}
use Rattle.css_index.proofs.KeptLemmas.{contains_none}
use Rattle.css_index.proofs.KeyedLemmas.{on_ok}
use Rattle.css_index.proofs.WalkLemmas.{reported_numbers, reported_within}
use Rattle.css_index.proofs.selector_walk.SelectorWalk.enter.Goals as goal

-- the numbers are those that were found
numbers_same : (es : Numbered) (keys : List Key) (old new numbers : List ℕ) → old ≡ []
    → numbers ≡ new → AreAdded KeepsEach old (found_by_any es keys) new → (number : ℕ)
    → Contains numbers number ↔ Contains (found_by_any es keys) number
numbers_same es keys old new numbers none is added number =
    let are = added_alone KeepsEach (found_by_any es keys) new
    (subst (λ xs. AreAdded KeepsEach xs (found_by_any es keys) new) none added) number in (
      λ c. (are.0 (subst (λ xs. Contains xs number) is c)).0,
      λ c. subst (λ xs. Contains xs number) (sym is) (are.1 (c, tt)),
    )

pub returns-then-len-eq0-clause-opened : goal.returns-then-len-eq0-clause-opened
returns-then-len-eq0-clause-opened g c =
    let document = g.E.Element.document in
    let node = g.E.Element.node in
    let element = c.args.element.now in
    let reported = g.E.Keyed.reported in
    let es = c.self.inside.needed in
    on_ok c.enter.result (λ opened path.
    subst (AreOpened document node reported es (Some (node element))) (sym opened) (
      (
        element,
        refl,
        λ number. (
          λ k. absurd (contains_none number k),
          λ r. (let l = r.1.1 in absurd (omega (arith, l, c.len.ensures, c.if-len-eq0.true))),
        ),
      ),
      subst (λ v. AreOpened document node reported v.needed (document.parent (node element)) v.opened)
          (sym c.self.view_is) path,
    )) c.enter.ensures.opened

pub enter-requires-2 : goal.enter-requires-2
enter-requires-2 g c = λ k d lt.
    let es = c.self.inside.needed in
    let keys = c.in_ok-push_keyed.ensures.0 in
    let same = numbers_same es keys c.clear.new.self.items c.push_keyed.new.indices.items
    c.deref.result.now c.clear.ensures.items c.deref.ensures.value c.in_ok-push_keyed.ensures.2 in
    subst (λ n. get_or c.deref.result.now k d < n) (sym c.self.invariant.size_is)
    (reported_within es keys c.deref.result.now (get_or c.deref.result.now k d)
    c.self.invariant.numbered same (Contains-get_or c.deref.result.now k d lt))

pub returns-clause-opened : goal.returns-clause-opened
returns-clause-opened g c = λ path.
    let document = g.E.Element.document in
    let node = g.E.Element.node in
    let element = c.args.element.now in
    let reported = g.E.Keyed.reported in
    let es = c.self.inside.needed in
    let keys = c.in_ok-push_keyed.ensures.0 in
    let same = numbers_same es keys c.clear.new.self.items c.push_keyed.new.indices.items
    c.deref.result.now c.clear.ensures.items c.deref.ensures.value c.in_ok-push_keyed.ensures.2 in
    subst (AreOpened document node reported es (Some (node element))) (sym c.in_ok-enter.ensures.opened) (
      (
        element,
        refl,
        reported_numbers document (node element) (reported element) es keys c.deref.result.now
            c.in_ok-push_keyed.ensures.1 same,
      ),
      subst (λ v. AreOpened document node reported v.needed (document.parent (node element)) v.opened)
          (sym c.self.view_is) path,
    )
