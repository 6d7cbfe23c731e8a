use Rattle.std.proofs.Common.{rules, ◌≡◌, [], arith, length, sym, ap, ◌∙◌, subst}
use Rattle.std.proofs.lemmas.List.{length-map}
use Rattle.css_selectors.specs.KeyViews.{key_of}
use Rattle.css_index.specs.internal.Added.{AreAdded, KeepsEach}
use Rattle.css_index.specs.internal.Filed.{entry_of, found_by}
use Rattle.css_index.proofs.AddedLemmas.{added_alone}
use Rattle.css_index.specs.Walks.{HasNumber, AreNumbered}
use Rattle.css_index.proofs.WalkLemmas.{found_number, has_same, numbered_same}
use Rattle.css_index.proofs.table.Table.number.Goals as goal

pub returns-in-Some-clause-number : goal.returns-in-Some-clause-number
returns-in-Some-clause-number c =
    let es = c.args.self.now in
    let key = key_of c.args.key in
    found_number es key c.in-Some.number.now
    (((added_alone KeepsEach (found_by es key) c.deref.result.now
    (subst (AreAdded KeepsEach [] (found_by es key)) (sym c.deref.ensures.value)
    (subst (λ old. AreAdded KeepsEach old (found_by es key) c.push_found.new.indices.items)
    c.clear.ensures.items c.in_ok-push_found.ensures)) c.in-Some.number.now).0
    (0, search rules, search rules)).0)

pub returns-clause-numbered : goal.returns-clause-numbered
returns-clause-numbered c =
    let es = c.args.self.now in
    let at : c.len-number.result ≡ length es =
    omega (
      arith,
      c.len-number.ensures,
      length-map c.self.inside.entries.items entry_of,
      ap length c.self.view_is,
      c.self.inside.entries.ok.0,
    ) in
    subst AreNumbered (sym c.in_ok-push.ensures)
    (numbered_same es (entry_of c.new.result) (c.new.ensures.rule ∙ at) c.requires)

pub returns-clause-number : goal.returns-clause-number
returns-clause-number c =
    let es = c.args.self.now in
    subst (λ xs. HasNumber xs (key_of c.args.key) c.len-number.result) (sym c.in_ok-push.ensures)
    (has_same es (entry_of c.new.result) (key_of c.args.key) c.len-number.result c.new.ensures.key
    c.new.ensures.rule)
