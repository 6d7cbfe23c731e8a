use Rattle.std.proofs.Common.{◌≡◌, ◌∙◌, ◌==◌, length, true, false, not, ◌&&◌, sym, ap, rules}
use Rattle.css_text.proofs.reading.EachLemmas.{took, each-some, each-none}
use Rattle.css_text.specs.Reading.{each}
use Rattle.css_syntax.specs.DeclarationLists.{is_empty}
use Rattle.css_clean.specs.Selectors.{next_selector}
use Rattle.css_clean.specs.Views.{sheet_policy_of}
use Rattle.css_clean.proofs.SelectorLemmas.{next_selector-takes, empty-is}
use Rattle.css_clean.proofs.selectors.is_list_written.Goals as goal

pub selectors-smaller : goal.selectors-smaller
selectors-smaller c =
    let policy = sheet_policy_of c.args.policy in
    took (next_selector policy true) (next_selector-takes policy true) c.selectors.rest.now
    c.in-Some.found.rest.now c.in-Some.found.text.now c.in-Some.ensures

pub selectors-preserved : goal.selectors-preserved
selectors-preserved c =
    let policy = sheet_policy_of c.args.policy in (
      search rules,
      c.selectors.invariant.1
          ∙ ap (λ r. r.1) (each-some (next_selector policy true) (next_selector-takes policy true)
          c.selectors.rest.now c.in-Some.found.rest.now c.in-Some.found.text.now c.in-Some.ensures),
    )

pub returns : goal.returns
returns c =
    let policy = sheet_policy_of c.args.policy in
    let text = c.args.text.now in
    let rest = c.selectors.rest.now in
    let some : (length text == 0) ≡ false = search rules in
    let last : c.is_empty-2.result ≡ (length rest == 0) = search rules in
    last ∙ empty-is rest
    ∙ sym (ap (λ b. not b && is_empty (each (next_selector policy true) text).1) (sym (empty-is text) ∙ some)
    ∙ ap is_empty (c.selectors.invariant.1
    ∙ ap (λ r. r.1) (each-none (next_selector policy true) rest c.in_default.ensures)))
