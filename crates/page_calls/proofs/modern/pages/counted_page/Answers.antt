use Rattle.std.proofs.Common.{◌+◌, false, length, get_or, ap, sym, subst, ◌∙◌, arith}
use Rattle.css_tree.specs.Pages.{Page}
use Rattle.page_calls.proofs.ModernPages.{TextsSoFar, texts-none, text-known, no-text-known, texts-known}
use Rattle.page_calls.proofs.modern.pages.counted_page.Goals.{then-has_text, else-has_text}
use Rattle.page_calls.proofs.modern.pages.counted_page.Goals as goal

pub loop-index-init : goal.loop-index-init
loop-index-init c =
    let new = c.in_ok-page.ensures in
    let set = c.set_scope.ensures in
    let spaces = c.in_ok-set_namespaces.ensures in
    texts-none c.args.elements.now c.args.tree.now _ (spaces.rows ∙ set.rows ∙ new.rows)
    (ap (λ g. length g.texts) spaces.given ∙ ap (λ g. length g.texts) set.given ∙ new.all)
    (λ i. ap (λ g. get_or g.texts i false) spaces.given ∙ ap (λ g. get_or g.texts i false) set.given
    ∙ new.texts i) c.requires
    (ap (λ g. g.scope) spaces.given ∙ ap (λ g. g.scope) set.given ∙ c.scope_in.ensures)
    (ap (λ g. g.states) spaces.given ∙ ap (λ g. g.states) set.given ∙ new.states)
    (ap (λ g. g.namespaces) spaces.given ∙ c.in_ok-numbers.ensures)
    (ap (λ g. g.attributes) spaces.given ∙ ap (λ g. g.attributes) set.given ∙ new.attributes)
    (spaces.marks ∙ set.marks ∙ new.marks) (spaces.html ∙ set.html ∙ new.html)

pub set_text-requires : goal.set_text-requires
set_text-requires c =
    let same = ap length c.loop-index.invariant.same in
    omega (arith, same, c.requires, c.loop-index-test.true)

pub loop-index-preserved : goal.loop-index-preserved
loop-index-preserved c = elim c.if-has_text.branch [
  | then-has_text w ↦
      text-known c.loop-index.invariant _ c.loop-index-test.true c.if-has_text.page
      (ap (λ (p : Page). p.rows) w.page-is ∙ w.set_text.ensures.rows)
      (ap (λ (p : Page). p.given) w.page-is ∙ w.set_text.ensures.given)
      (ap (λ (p : Page). p.marks) w.page-is ∙ w.set_text.ensures.marks)
      (ap (λ (p : Page). p.is_html) w.page-is ∙ w.set_text.ensures.html)
      (sym c.has_text.ensures ∙ w.if-has_text.true)
  | else-has_text w ↦
      subst (TextsSoFar c.args.elements.now c.args.tree.now (c.loop-index.index + 1))
      (sym w.page-is)
      (no-text-known c.loop-index.invariant _ c.loop-index-test.true
      (sym c.has_text.ensures ∙ w.if-has_text.false))
]

pub returns : goal.returns
returns c =
    texts-known c.args.elements.now c.args.tree.now c.loop-index.index c.loop-index.page
    c.loop-index.invariant (omega arith)
