-- An item more of a sheet.
use Rattle.std.proofs.Common.{◌≡◌, ◌++◌, ◌∷◌, ◌||◌, Bool, List, length, ap, ◌∙◌, sym, append_assoc}
use Rattle.css_sheet.specs.ImportRules.{ImportText}
use Rattle.css_sheet.specs.SheetItems.{SheetItemText}
use Rattle.css_lint.specs.Late.{ends_front, follows_at, is_in_force, late_from, late_in, place_if}
use Rattle.css_lint.specs.Places.{PlaceText}

-- what is too late up to an item, and of the items after it, is all
pub late_more : (imports : List ImportText) (follows after in_force : Bool) (item : SheetItemText)
    (more come : List SheetItemText) (front found all : List PlaceText)
    → come ≡ item ∷ more
    → in_force ≡ is_in_force imports item.places.start
    → found ≡ front ++ place_if item.places.start (length item.part.text)
    (late_in in_force (follows_at follows item) item.part.statement item.places.start)
    → after ≡ (follows_at follows item || ends_front item.part.statement)
    → front ++ late_from imports follows come ≡ all
    → found ++ late_from imports after more ≡ all
late_more imports follows after in_force item more come front found all come_is force_is found_is after_is due =
    let place : Bool → List PlaceText = λ b. place_if item.places.start (length item.part.text)
    (late_in b (follows_at follows item) item.part.statement item.places.start) in
    let rest : Bool → List PlaceText = λ b. late_from imports b more in
    ap (λ (f : List PlaceText). f ++ rest after) found_is
    ∙ ap (λ (b : Bool). (front ++ place b) ++ rest after) force_is
    ∙ ap (λ (b : Bool). (front ++ place (is_in_force imports item.places.start)) ++ rest b) after_is
    ∙ append_assoc front (place (is_in_force imports item.places.start))
    (rest (follows_at follows item || ends_front item.part.statement))
    ∙ ap (λ (items : List SheetItemText). front ++ late_from imports follows items) (sym come_is)
    ∙ due
