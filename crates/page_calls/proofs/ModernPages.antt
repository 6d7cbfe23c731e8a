-- The elements of a tree as a page, which of them have a text, and the failures of calls over them.
-- Serves `modern::pages::counted_page`, `modern::pages::page_of` and `modern::{page_lines, matches, select, list}`.
use Rattle.std.proofs.Common.{◌≡◌, ℕ, ◌+◌, ◌<◌, ◌≤◌, Bool, true, false, List, [], ◌∷◌, ◌++◌, length, map, get_or, take, drop, Option, None, Some, refl, sym, ap, ◌∙◌, arith}
use Rattle.std.specs.Prelude.{Result, Ok, Err, if◌then◌else◌}
use Rattle.std.proofs.lemmas.List.{take_more, take_more_set, map_more, take_all}
use Rattle.std.proofs.lemmas.Grind.{common_steps}
use Rattle.css_elements.specs.Rows.{Row}
use Rattle.css_tree.specs.Pages.{Page, Given, with_text}
use Rattle.call_answers.specs.declared.answer.CallError.{CallError}
use Rattle.call_answers.specs.declared.answer.CallError.TheVariants.{Refused, Tree, Memory, TooManyDeclarations, NotUtf8, AnswerTooLong, TooManyLayers}
use Rattle.call_answers.specs.declared.elements.ElementFault.{ElementFault}
use Rattle.call_answers.specs.declared.elements.TreeElement.{TreeElement}
use Rattle.page_calls.specs.declared.modern.document_kind.DocumentKind.TheVariants.{AsWritten}
use Rattle.call_answers.specs.Calls.{FailsFor}
use Rattle.call_answers.specs.Elements.{Strings, has_text, scope_in, fault_in, limit_after, strings_of, tree_from, tree_of, with_element}
use Rattle.page_calls.specs.ModernLines.{page_with}
use Rattle.call_answers.proofs.Building.{length_with}

-- ---- how many elements a tree has

only-if : (b : Bool) (rows out : List Row) (fault : ElementFault)
    → (if b then Ok rows else Err fault) ≡ Ok out → rows ≡ out
only-if true rows out fault is = cc
only-if false rows out fault is = absurd (cc)

only-sound : (fault : Option ElementFault) (rest : Result (List Row) ElementFault) (out : List Row)
    → ◌≡◌ {A = Result (List Row) ElementFault} (elim fault [ Some fault ↦ Err fault | None ↦ rest ])
    (Ok out) → rest ≡ Ok out
only-sound None rest out is = is
only-sound (Some fault) rest out is = absurd (cc)

tree_from-length : (rows : List Row) (depths : List ℕ) (left : Strings) (elements : List TreeElement)
    (out : List Row) → tree_from rows depths left elements ≡ Ok out
    → length out ≡ length rows + length elements
tree_from-length rows depths left [] out is =
    let same = ap length (only-if _ rows out _ is) in omega (arith, same)
tree_from-length rows depths left (element ∷ elements) out is =
    let rest = only-sound (fault_in (length rows + 1) (limit_after depths) element left.strings)
    (tree_from (with_element rows depths element left.strings) (depths ++ element.depth ∷ [])
    (record { strings = drop (strings_of element) left.strings; are_all = left.are_all }) elements)
    out is in
    let more = tree_from-length (with_element rows depths element left.strings)
    (depths ++ element.depth ∷ [])
    (record { strings = drop (strings_of element) left.strings; are_all = left.are_all }) elements out
    rest in
    let one = length_with rows depths element left.strings in
    omega (arith, more, one)

-- a tree has as many elements as were passed
pub tree-length : (elements : List TreeElement) (buffer ends : List ℕ) (attributes states prefixes : ℕ)
    (rows : List Row) → tree_of elements buffer ends attributes states prefixes ≡ Ok rows
    → length elements ≡ length rows
tree-length elements buffer ends attributes states prefixes rows is =
    let all = tree_from-length [] [] _ elements rows is in omega (arith, all)

-- ---- which elements have a text

-- pages with the same parts
pages-same : (page other : Page) → page.rows ≡ other.rows → page.given ≡ other.given
    → page.marks ≡ other.marks → page.is_html ≡ other.is_html
    → page ≡ other
pages-same page other same given marks html =
    ap (λ r. record { rows = r; given = page.given; marks = page.marks; is_html = page.is_html }) same
    ∙ ap (λ g. record { rows = other.rows; given = g; marks = page.marks; is_html = page.is_html }) given
    ∙ ap (λ m. record { rows = other.rows; given = other.given; marks = m; is_html = page.is_html }) marks
    ∙ ap (λ h. record { rows = other.rows; given = other.given; marks = other.marks; is_html = h }) html

-- what is said of elements, of the same parts
given-same : (given other : Given) → given.texts ≡ other.texts → given.scope ≡ other.scope
    → given.states ≡ other.states → given.namespaces ≡ other.namespaces
    → given.attributes ≡ other.attributes → given ≡ other
given-same given other texts scope states namespaces attributes =
    ap (λ t. record given { texts = t }) texts
    ∙ ap (λ s. record given { texts = other.texts; scope = s }) scope
    ∙ ap (λ s. record given { texts = other.texts; scope = other.scope; states = s }) states
    ∙ ap (λ n. record other { namespaces = n; attributes = given.attributes }) namespaces
    ∙ ap (λ a. record other { attributes = a }) attributes

-- those below an index are known
pub record TextsSoFar (elements : List TreeElement) (rows : List Row) (index : ℕ) (page : Page)
    : Type 0 where
  pub same : page.rows ≡ rows
  pub all : length page.given.texts ≡ length elements
  pub known : take index page.given.texts ≡ map has_text (take index elements)
  pub later : (i : ℕ) → index ≤ i → get_or page.given.texts i false ≡ false
  pub scoped : page.given.scope ≡ scope_in elements
  pub unnamed : page.given.states ≡ []
  pub spaced : page.given.namespaces ≡ map (λ element. element.namespace) elements
  pub unplaced : page.given.attributes ≡ []
  pub unmarked : page.marks ≡ []
  pub plain : page.is_html ≡ false

-- no element has a text yet
pub texts-none : (elements : List TreeElement) (rows : List Row) (page : Page) → page.rows ≡ rows
    → length page.given.texts ≡ length rows → ((i : ℕ) → get_or page.given.texts i false ≡ false)
    → length elements ≡ length rows → page.given.scope ≡ scope_in elements
    → page.given.states ≡ []
    → page.given.namespaces ≡ map (λ element. element.namespace) elements → page.given.attributes ≡ []
    → page.marks ≡ [] → page.is_html ≡ false → TextsSoFar elements rows 0 page
texts-none elements rows page same all none many scoped unnamed spaced unplaced unmarked plain = record {
  same = same;
  all = all ∙ sym many;
  known = refl;
  later = λ i _. none i;
  scoped = scoped;
  unnamed = unnamed;
  spaced = spaced;
  unplaced = unplaced;
  unmarked = unmarked;
  plain = plain;
}

module _ {elements : List TreeElement} {rows : List Row} {index : ℕ} {page : Page}
    (so_far : TextsSoFar elements rows index page) (d : TreeElement) (within : index < length elements)
  where
    -- the element has a text
    pub text-known : (new : Page) → new.rows ≡ page.rows → new.given ≡ with_text page.given index
        → new.marks ≡ page.marks → new.is_html ≡ page.is_html
        → has_text (get_or elements index d) ≡ true
        → TextsSoFar elements rows (index + 1) new
    text-known new same given marks html is = record {
      same = same ∙ so_far.same;
      all = ap (λ g. length g.texts) given ∙ grind (arith, common_steps, so_far.all);
      known = ap (λ g. take (index + 1) g.texts) given
          ∙ take_more_set page.given.texts index true (omega (arith, within, so_far.all))
          ∙ ap (λ ts. ts ++ true ∷ []) so_far.known
          ∙ ap (λ b. map has_text (take index elements) ++ b ∷ []) (sym is)
          ∙ sym (map_more has_text elements index d within);
      later = λ i less. ap (λ g. get_or g.texts i false) given
          ∙ grind (arith, common_steps, so_far.later i (omega (arith, less)), less);
      scoped = ap (λ g. g.scope) given ∙ so_far.scoped;
      unnamed = ap (λ g. g.states) given ∙ so_far.unnamed;
      spaced = ap (λ g. g.namespaces) given ∙ so_far.spaced;
      unplaced = ap (λ g. g.attributes) given ∙ so_far.unplaced;
      unmarked = marks ∙ so_far.unmarked;
      plain = html ∙ so_far.plain;
    }

    -- the element has no text
    pub no-text-known : has_text (get_or elements index d) ≡ false
        → TextsSoFar elements rows (index + 1) page
    no-text-known is = record {
      same = so_far.same;
      all = so_far.all;
      known = take_more page.given.texts index false (omega (arith, within, so_far.all))
          ∙ ap (λ ts. ts ++ get_or page.given.texts index false ∷ []) so_far.known
          ∙ ap (λ b. map has_text (take index elements) ++ b ∷ [])
          (so_far.later index (omega arith) ∙ sym is)
          ∙ sym (map_more has_text elements index d within);
      later = λ i less. so_far.later i (omega (arith, less));
      scoped = so_far.scoped;
      unnamed = so_far.unnamed;
      spaced = so_far.spaced;
      unplaced = so_far.unplaced;
      unmarked = so_far.unmarked;
      plain = so_far.plain;
    }

-- of all elements it is known
pub texts-known : (elements : List TreeElement) (rows : List Row) (index : ℕ) (page : Page)
    → TextsSoFar elements rows index page → index ≡ length elements
    → page ≡ page_with AsWritten [] [] elements rows
texts-known elements rows index page so_far all =
    pages-same page (page_with AsWritten [] [] elements rows) so_far.same
    (given-same page.given (page_with AsWritten [] [] elements rows).given
    (sym (take_all index page.given.texts (omega (arith, all, so_far.all)))
    ∙ so_far.known ∙ ap (map has_text) (take_all index elements (omega (arith, all))))
    so_far.scoped so_far.unnamed so_far.spaced so_far.unplaced) so_far.unmarked so_far.plain

-- ---- failures

-- what fails for a reason fails for any wider one
pub fails_wider : {R R' B B' : Type 0} {F F' : ElementFault → Type 0} → (R → R')
    → ((fault : ElementFault) → F fault → F' fault) → (B → B') → (error : CallError)
    → FailsFor R F B error → FailsFor R' F' B' error
fails_wider r f b Refused h = r h
fails_wider r f b (Tree fault) h = f fault h
fails_wider r f b Memory h = tt
fails_wider r f b TooManyDeclarations h = h
fails_wider r f b NotUtf8 h = b h
fails_wider r f b AnswerTooLong h = h
fails_wider r f b TooManyLayers h = h
