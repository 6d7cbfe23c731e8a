use Rattle.std.proofs.Common.{◌≡◌, ◌∷◌, [], ◌∙◌, ℕ, List, Some, None, sym, ap, map}
use Rattle.css_sheet.specs.declared.parts.OpenRule.{OpenRule}
use Rattle.css_sheet.specs.SheetParts.{from_part, next_in, open_after}
use Rattle.css_sheet.specs.ContentViews.{part_of}
use Rattle.css_sheet.specs.internal.PartViews.{open_of, open_in, left_in, source_of}
use Rattle.css_sheet.proofs.PartSteps.{took, part-same, parts-some, parts-none}
use Rattle.css_sheet.proofs.parts.SheetParts.read_next.Goals as goal

pub returns-in-None-clause-parts : goal.returns-in-None-clause-parts
returns-in-None-clause-parts g c = λ answers k.
    let old = c.args.self.now in
    let none : next_in old.depth (open_in old) (left_in old) ≡ None =
    sym (ap (λ (rules : List OpenRule). next_in old.depth (map open_of rules) old.rest.now)
    c.deref.ensures.value)
    ∙ c.in-None.ensures.read in
    parts-none answers (source_of old) (open_in old) (left_in old) none

pub returns-in_ok-go_through-in-Some-clause-size : goal.returns-in_ok-go_through-in-Some-clause-size
returns-in_ok-go_through-in-Some-clause-size g c =
    let old = c.args.self.now in
    let found = c.in-Some.found in
    let some : next_in old.depth (open_in old) (left_in old) ≡ Some (part_of found.part, found.rest.now) =
    sym (ap (λ (rules : List OpenRule). next_in old.depth (map open_of rules) old.rest.now)
    c.deref.ensures.value)
    ∙ c.in-Some.ensures.read in
    took old.depth (open_in old) (left_in old) found.rest.now (part_of found.part) some

pub returns-in_ok-go_through-in-Some-clause-parts : goal.returns-in_ok-go_through-in-Some-clause-parts
returns-in_ok-go_through-in-Some-clause-parts g c = λ answers k.
    let old = c.args.self.now in
    let found = c.in-Some.found in
    let some : next_in old.depth (open_in old) (left_in old) ≡ Some (part_of found.part, found.rest.now) =
    sym (ap (λ (rules : List OpenRule). next_in old.depth (map open_of rules) old.rest.now)
    c.deref.ensures.value)
    ∙ c.in-Some.ensures.read in
    let from : found.from.now ≡ from_part old.depth (open_in old) (left_in old) =
    c.in-Some.ensures.from
    ∙ ap (λ (rules : List OpenRule). from_part old.depth (map open_of rules) old.rest.now)
    c.deref.ensures.value in
    let around = map open_of c.go_through.new.self.around.items in
    parts-some answers (source_of old) (open_in old) around (left_in old) found.rest.now (part_of found.part)
    some
    (c.in_ok-go_through-in-Some.ensures.around answers k
    ∙ ap (λ (end : ℕ). open_after answers (open_in old) (part_of found.part) (old.sheet ∷ end ∷ []))
    c.offset.ensures)
    ∙ part-same answers (source_of old) (source_of c.go_through.new.self)
    (from_part old.depth (open_in old) (left_in old)) found.from.now (part_of found.part) around
    found.rest.now c.go_through.ensures.source from
