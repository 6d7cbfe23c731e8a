use Rattle.std.proofs.Common.{◌≡◌, ◌∙◌, ◌++◌, ◌==◌, ◌∷◌, [], true, false, length, map, string_bytes, sym, ap, rules}
use Rattle.std.specs.Prelude.{Some, None}
use Rattle.std.specs.Option.{option_map}
use Rattle.std.proofs.lemmas.List.{append-nil, map-append}
use Rattle.css_text.specs.Reading.{each}
use Rattle.css_text.proofs.reading.EachLemmas.{took, each-some, each-none}
use Rattle.css_syntax.specs.DeclarationLists.{is_empty}
use Rattle.css_clean.specs.Selectors.{next_selector}
use Rattle.css_clean.specs.Scoping.{scoped, scoped_then, all_scoped}
use Rattle.css_clean.specs.Views.{sheet_policy_of}
use Rattle.css_clean.proofs.SelectorLemmas.{next_selector-takes, empty-is}
use Rattle.css_clean.proofs.KeptLemmas.{scoped-more, if-none, if-true, if-false}
use Rattle.css_clean.proofs.scoping.scoped_selectors.Goals as goal

pub selectors-smaller : goal.selectors-smaller
selectors-smaller c =
    let policy = sheet_policy_of c.args.policy in
    took (next_selector policy false) (next_selector-takes policy false) c.selectors.rest.now
    c.in-Some.found.rest.now c.in-Some.found.text.now c.in-Some.ensures

pub selectors-preserved : goal.selectors-preserved
selectors-preserved c =
    let policy = sheet_policy_of c.args.policy in
    let f = next_selector policy false in
    let text = c.in-Some.found.text.now in
    let rest = c.in-Some.found.rest.now in
    let front = map string_bytes c.selectors.out.items in
    let selector = string_bytes c.in-Some-2.selector in
    let more = all_scoped policy (each f rest).0 in
    let step = each-some f (next_selector-takes policy false) c.selectors.rest.now rest text c.in-Some.ensures in
    let taken : scoped policy text ≡ Some selector = search rules in
    let pushed : map string_bytes c.push.new.self.items ≡ front ++ selector ∷ [] =
    ap (map string_bytes) c.in_ok-push-in-Some-2.ensures.items
    ∙ map-append string_bytes c.selectors.out.items (c.in-Some-2.selector ∷ []) in (
      search rules,
      c.selectors.invariant.1 ∙ ap (λ r. option_map (λ all. front ++ all) (all_scoped policy r.0)) step
          ∙ ap (λ s. option_map (λ all. front ++ all) (scoped_then s more)) taken
          ∙ scoped-more front selector more
          ∙ ap (λ made. option_map (λ all. made ++ all) more) (sym pushed),
      c.selectors.invariant.2 ∙ ap (λ r. r.1) step,
    )

pub returns-in-None : goal.returns-in-None
returns-in-None c =
    let policy = sheet_policy_of c.args.policy in
    let f = next_selector policy false in
    let text = c.in-Some.found.text.now in
    let rest = c.in-Some.found.rest.now in
    let front = map string_bytes c.selectors.out.items in
    let refused : scoped policy text ≡ None = search rules in
    if-none (is_empty (each f c.args.text.now).1) (all_scoped policy (each f c.args.text.now).0)
    (c.selectors.invariant.1
    ∙ ap (λ r. option_map (λ all. front ++ all) (all_scoped policy r.0))
    (each-some f (next_selector-takes policy false) c.selectors.rest.now rest text c.in-Some.ensures)
    ∙ ap (λ s. option_map (λ all. front ++ all) (scoped_then s (all_scoped policy (each f rest).0))) refused)

pub returns-then-is_empty : goal.returns-then-is_empty
returns-then-is_empty c =
    let policy = sheet_policy_of c.args.policy in
    let f = next_selector policy false in
    let rest = c.selectors.rest.now in
    let front = map string_bytes c.selectors.out.items in
    let ends = each-none f rest c.in_default.ensures in
    let none : (length rest == 0) ≡ true = search rules in
    if-true (is_empty (each f c.args.text.now).1) (all_scoped policy (each f c.args.text.now).0) (Some front)
    (ap is_empty (c.selectors.invariant.2 ∙ ap (λ r. r.1) ends) ∙ sym (empty-is rest) ∙ none)
    (c.selectors.invariant.1
    ∙ ap (λ r. option_map (λ all. front ++ all) (all_scoped policy r.0)) ends
    ∙ ap Some (append-nil front))

pub returns : goal.returns
returns c =
    let policy = sheet_policy_of c.args.policy in
    let f = next_selector policy false in
    let rest = c.selectors.rest.now in
    let ends = each-none f rest c.in_default.ensures in
    let some : (length rest == 0) ≡ false = search rules in
    if-false (is_empty (each f c.args.text.now).1) (all_scoped policy (each f c.args.text.now).0)
    (ap is_empty (c.selectors.invariant.2 ∙ ap (λ r. r.1) ends) ∙ sym (empty-is rest) ∙ some)
