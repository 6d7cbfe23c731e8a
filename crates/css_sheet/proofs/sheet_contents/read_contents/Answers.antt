use Rattle.std.proofs.Common.{◌≡◌, ◌++◌, ◌∷◌, [], ◌∙◌, true, List, Option, length, ap, subst, sym, map, append-nil, rules, of_calls}
use Rattle.css_sheet.specs.declared.parts.Part.{Part}
use Rattle.css_sheet.specs.ContentViews.{content_of, part_of}
use Rattle.css_sheet.specs.SheetContents.{content, contents_of}
use Rattle.css_sheet.specs.SheetParts.{PlacedPart, Source}
use Rattle.css_sheet.specs.internal.PartViews.{GivesPart, parts_to_come, placed_last, source_of}
use Rattle.css_sheet.proofs.ContentLemmas.{content-more}
use Rattle.css_sheet.proofs.sheet_contents.read_contents.Goals as goal

pub parts-preserved : goal.parts-preserved
parts-preserved c =
    let now = c.next.new.self in
    let part = part_of c.in-Some.part in
    let total = length c.args.text.now in
    let size : (source_of now).size ≡ total =
    ap (λ (s : Source). s.size) c.next.ensures.source ∙ c.parts.invariant.0 in
    let gives = subst (λ (o : Option Part). GivesPart (λ keyword prelude. true) c.parts.reader o now) c.in-Some.is
    (c.in_ok-part.ensures.parts (λ keyword prelude. true) (λ n p a w. search (rules, of_calls))) in (
      size,
      content-more (λ n. map (content_of n) c.parts.parts.items) (λ n. map (content_of n) c.push_part.new.parts.items)
          (source_of now).size total (parts_to_come (λ keyword prelude. true) c.parts.reader)
          (parts_to_come (λ keyword prelude. true) now) (placed_last now part) (contents_of c.args.text.now) size
          c.parts.invariant.1 gives c.in_ok-push_part.ensures,
    )

pub returns : goal.returns
returns c =
    let none = subst (λ (o : Option Part). GivesPart (λ keyword prelude. true) c.parts.reader o c.next.new.self)
    c.in_default.is
    (c.in_ok-part.ensures.parts (λ keyword prelude. true) (λ n p a w. search (rules, of_calls))) in
    sym (append-nil (map (content_of (length c.args.text.now)) c.parts.parts.items))
    ∙ ap (λ (ps : List PlacedPart). map (content_of (length c.args.text.now)) c.parts.parts.items ++ map content ps) (sym none)
    ∙ c.parts.invariant.1
