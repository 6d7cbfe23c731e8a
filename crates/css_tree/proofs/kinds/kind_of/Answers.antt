use Rattle.std.proofs.Common.{◌≡◌, ◌<◌, sym, ◌∙◌, arith}
use Rattle.css_tree.specs.Pages.{family}
use Rattle.css_tree.specs.declared.kinds.TheConstants.{COMPARED}
use Rattle.css_tree.proofs.Counting.{some_same}
use Rattle.css_tree.proofs.KindLemmas.{large-family, named-found, named-new}
use Rattle.css_tree.proofs.kinds.kind_of.Goals as goal

pub returns-in-Some-get : goal.returns-in-Some-get
returns-in-Some-get c =
    let i = c.args.index in
    let of : c.number-family.result ≡ family c.args.tree.now i =
    some_same (sym c.number-family.ensures ∙ c.requires.families.each i c.requires.within) in
    let more : COMPARED < c.count.result = omega (arith, c.if-count-le-COMPARED.false) in
    named-found c.args.tree.now c.args.namespaces.now c.args.families.now i
    (c.number-family.result, c.namespace_of.result, c.name_of.result) of c.namespace_of.ensures
    c.name_of.ensures c.args.named.now c.in-Some-get.number.now
    (large-family _ _ _ _ of c.count.ensures more) c.requires.named (sym c.in-Some-get.ensures.value)

pub returns : goal.returns
returns c =
    let of : c.number-family.result ≡ family c.args.tree.now c.args.index =
    some_same (sym c.number-family.ensures
    ∙ c.requires.families.each c.args.index c.requires.within) in
    let more : COMPARED < c.count.result = omega (arith, c.if-count-le-COMPARED.false) in
    named-new c.args.tree.now c.args.namespaces.now c.args.families.now c.args.index
    (c.number-family.result, c.namespace_of.result, c.name_of.result) of c.namespace_of.ensures
    c.name_of.ensures c.args.named.now c.insert.new.self
    (large-family _ _ _ _ of c.count.ensures more) c.requires.named
    (sym c.in_default-get.ensures.value) c.in_ok-insert.ensures.updates.0
