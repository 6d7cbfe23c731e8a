use Rattle.std.proofs.Common.{◌++◌, ◌∷◌, [], map, take, sym, ap, ◌∙◌, subst}
use Rattle.std.proofs.lemmas.List.{take_more, take_all}
use Rattle.css_index.specs.internal.Filed.{entry_of}
use Rattle.css_index.specs.internal.Sieves.{AreIn}
use Rattle.css_index.proofs.SieveLemmas.{in_none, in_more_entries}
use Rattle.css_index.proofs.sieve.sieve_of.Goals as goal

pub loop-entry-init : goal.loop-entry-init
loop-entry-init c = in_none c.in_ok-sieve.sieve.places.items

pub loop-entry-preserved : goal.loop-entry-preserved
loop-entry-preserved c =
    let entries = c.args.entries.now in
    let i = c.loop-entry.entry-index in
    let item = c.entry-item.result in
    subst (λ es. AreIn c.add.new.self.places.items (map entry_of es))
    (sym (take_more entries i item c.loop-entry-test.true
    ∙ ap (λ d. take i entries ++ d ∷ []) (sym c.entry-item.is)))
    (in_more_entries c.loop-entry.sieve.places.items c.add.new.self.places.items (take i entries) item
    c.loop-entry.invariant c.add.ensures.kept c.add.ensures.added)

pub returns : goal.returns
returns c =
    subst (λ es. AreIn c.loop-entry.sieve.places.items (map entry_of es))
    (take_all c.loop-entry.entry-index c.args.entries.now c.loop-entry-test.false)
    c.loop-entry.invariant
