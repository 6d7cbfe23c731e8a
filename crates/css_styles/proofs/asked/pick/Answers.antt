use Rattle.std.proofs.Common.{◌∙◌, ◌++◌, [], ◌∷◌, ap, sym, get_or, map, take}
use Rattle.std.specs.Borrow.{Bor}
use Rattle.std.specs.Prelude.{ℕ, List}
use Rattle.std.proofs.lemmas.List.{map-append, take_more}
use Rattle.std.proofs.lemmas.List.Elements.{filter-append}
use Rattle.css_styles.specs.Contenders.{Contender, is_named, of_names}
use Rattle.css_styles.specs.internal.Numbered.{numbered_of}
use Rattle.css_styles.proofs.asked.pick.Goals as goal

pub loop-one-preserved : goal.loop-one-preserved
loop-one-preserved c =
    let i = c.loop-one.one-index in
    let all = c.args.contenders.now in
    let names = map (λ (name : Bor (List ℕ)). name.now) c.args.names.now in
    let one = get_or all i _ in
    let before = map numbered_of (take i all) in
    c.in_ok-push_if_named.ensures
    ∙ ap (λ cs. cs ++ of_names names (numbered_of one ∷ [])) c.loop-one.invariant
    ∙ sym (filter-append (λ (c : Contender). is_named names c.declaration.name) before
    (numbered_of one ∷ []))
    ∙ sym (ap (of_names names) (ap (map numbered_of) (take_more all i _ c.loop-one-test.true)
    ∙ map-append numbered_of (take i all) (one ∷ [])))
