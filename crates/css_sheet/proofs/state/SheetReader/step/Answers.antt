use Rattle.std.proofs.Common.{◌≡◌, ◌<◌, ◌≤◌, ◌+◌, ◌∙◌, sym, ap, arith, refl, length, not, rules, Bool, Some, None}
use Rattle.css_syntax.specs.Views.{sheet_part_of, statement_of}
use Rattle.css_sheet.specs.GroupViews.{group_text}
use Rattle.css_sheet.specs.SheetItems.{next_part}
use Rattle.css_sheet.specs.Places.{places_of}
use Rattle.css_sheet.specs.ReaderViews.{is_some_open, is_inside, left_of, levels_of, level_of, size_after}
use Rattle.css_sheet.proofs.NextParts.{rest-less}
use Rattle.css_sheet.proofs.PlaceLemmas.{block-length, group-short, start-within, inside-within, places-open}
use Rattle.css_sheet.proofs.SheetSteps.{texts, map-last, length-map, leaves-step, is_open_by, enter-some, found-plain, found-alone}
use Rattle.css_sheet.proofs.state.SheetReader.step.Goals as goal
use Rattle.css_sheet.proofs.state.SheetReader.step.Goals.{in_default-group_of-via-in-Some-group_of+else-len-lt-DEEPEST, in_default-group_of-via-in_default-group_of}

pub find-places-requires-clause-from : goal.find-places-requires-clause-from
find-places-requires-clause-from c =
    let old = c.args.self.now in
    start-within (not c.is_empty.result) old.rest.now c.in-Some.found.from.now old.end
    c.in-Some.ensures.from old.within

pub find-places-requires-clause-inside : goal.find-places-requires-clause-inside
find-places-requires-clause-inside c =
    let old = c.args.self.now in
    inside-within (not c.is_empty.result) old.rest.now c.in-Some.found.inside.now old.end
    c.in-Some.ensures.inside old.within

pub find-places-requires-clause-block : goal.find-places-requires-clause-block
find-places-requires-clause-block c =
    let old = c.args.self.now in
    let found = c.in-Some.found in
    omega (
      arith,
      ap length c.in-Some.ensures.inside,
      block-length (not c.is_empty.result) old.rest.now found.rest.now (sheet_part_of found.part)
          c.in-Some.ensures.read,
    )

pub invariant_of-level-clause-within : goal.invariant_of-level-clause-within
invariant_of-level-clause-within c =
    let old = c.args.self.now in
    let found = c.in-Some.found in
    omega (
      arith,
      old.within,
      rest-less (not c.is_empty.result) old.rest.now found.rest.now (sheet_part_of found.part)
          c.in-Some.ensures.read,
    )

pub overflow_add-self : goal.overflow_add-self
overflow_add-self c =
    let found = c.in-Some.found in
    omega (
      arith,
      group-short (places_of c.find-places.result) c.args.self.now.end
          (statement_of found.part.statement) found.from.now found.inside.now
          (group_text c.in-Some-group_of.group) c.find-places.ensures c.in-Some-group_of.ensures
          c.find-places.result.block_short,
    )

pub invariant_of-self-in-Some-group_of-clause-short : goal.invariant_of-self-in-Some-group_of-clause-short
invariant_of-self-in-Some-group_of-clause-short c =
    let found = c.in-Some.found in
    omega (
      arith,
      group-short (places_of c.find-places.result) c.args.self.now.end
          (statement_of found.part.statement) found.from.now found.inside.now
          (group_text c.in-Some-group_of.group) c.find-places.ensures c.in-Some-group_of.ensures
          c.find-places.result.block_short,
    )

pub invariant_of-self-in_default-group_of-clause-within : goal.invariant_of-self-in_default-group_of-clause-within
invariant_of-self-in_default-group_of-clause-within c =
    let old = c.args.self.now in
    let found = c.in-Some.found in
    omega (
      arith,
      old.within,
      rest-less (not c.is_empty.result) old.rest.now found.rest.now (sheet_part_of found.part)
          c.in-Some.ensures.read,
    )

pub returns-in_ok-push-in-Some-group_of : goal.returns-in_ok-push-in-Some-group_of
returns-in_ok-push-in-Some-group_of c =
    let old = c.args.self.now in
    let found = c.in-Some.found in
    let len : old.levels.len ≡ length old.levels.items = omega (arith, old.levels.ok.0) in
    let opened : not c.is_empty.result ≡ is_some_open (texts old.levels.items) =
    is_open_by old.levels.items old.levels.len c.is_empty.result c.is_empty.ensures len in
    let few : length old.levels.items < 64 =
    omega (arith, c.if-len-lt-DEEPEST.true, c.len.ensures, old.levels.ok.0) in
    let entered = enter-some old.levels.items c.push.new.self.items _ old.end old.rest.now
    found.rest.now
    (sheet_part_of found.part) (group_text c.in-Some-group_of.group)
    (places_of c.find-places.result)
    c.in_ok-push-in-Some-group_of.ensures.items few
    (ap (λ (b : Bool). next_part b old.rest.now) (sym opened) ∙ c.in-Some.ensures.read)
    c.in-Some-group_of.ensures
    (places-open old.end (not c.is_empty.result) (is_some_open (texts old.levels.items))
    old.rest.now (sheet_part_of found.part) found.from.now found.inside.now
    (places_of c.find-places.result) c.find-places.ensures c.in-Some.ensures.from
    c.in-Some.ensures.inside opened) refl in (
      entered.0,
      ap texts c.in_ok-push-in-Some-group_of.ensures.items
          ∙ map-last level_of old.levels.items _,
      entered.1,
    )

pub returns-in_default-group_of : goal.returns-in_default-group_of
returns-in_default-group_of c =
    let old = c.args.self.now in
    let found = c.in-Some.found in
    let len : old.levels.len ≡ length old.levels.items = omega (arith, old.levels.ok.0) in
    let opened : not c.is_empty.result ≡ is_some_open (texts old.levels.items) =
    is_open_by old.levels.items old.levels.len c.is_empty.result c.is_empty.ensures len in
    let some : next_part (is_some_open (texts old.levels.items)) old.rest.now
    ≡ Some (sheet_part_of found.part, found.rest.now) =
    ap (λ (b : Bool). next_part b old.rest.now) (sym opened) ∙ c.in-Some.ensures.read in
    let at = places-open old.end (not c.is_empty.result) (is_some_open (texts old.levels.items))
    old.rest.now (sheet_part_of found.part) found.from.now found.inside.now
    (places_of c.find-places.result) c.find-places.ensures c.in-Some.ensures.from
    c.in-Some.ensures.inside opened in
    let less : size_after (texts old.levels.items) + length found.rest.now
    < size_after (texts old.levels.items) + length old.rest.now =
    omega (
      arith,
      rest-less (not c.is_empty.result) old.rest.now found.rest.now (sheet_part_of found.part)
          c.in-Some.ensures.read,
    ) in
    elim c.in_default-group_of.branch [
      | in_default-group_of-via-in-Some-group_of+else-len-lt-DEEPEST w ↦ (
        found-alone old.levels.items old.end old.rest.now found.rest.now
            (sheet_part_of found.part) (places_of c.find-places.result)
            (omega (arith, w.if-len-lt-DEEPEST.false, w.len.ensures, old.few, old.levels.ok.0)) some
            at,
        refl,
        less,
      )
      | in_default-group_of-via-in_default-group_of w ↦ (
        found-plain old.levels.items old.end old.rest.now found.rest.now
            (sheet_part_of found.part) (places_of c.find-places.result)
            (omega (arith, old.few, old.levels.ok.0)) some w.in_default-group_of.ensures at,
        refl,
        less,
      )
    ]

pub returns-in_default : goal.returns-in_default
returns-in_default c =
    let old = c.args.self.now in
    let len : old.levels.len ≡ length old.levels.items = omega (arith, old.levels.ok.0) in
    let opened : not c.is_empty.result ≡ is_some_open (texts old.levels.items) =
    is_open_by old.levels.items old.levels.len c.is_empty.result c.is_empty.ensures len in
    let read : next_part (not c.is_empty.result) old.rest.now ≡ None = search rules in
    let none : next_part (is_inside old) (left_of old) ≡ None =
    ap (λ (b : Bool). next_part b old.rest.now) (sym opened) ∙ read in
    let few : length (levels_of old) ≤ 64 =
    omega (arith, old.few, old.levels.ok.0, length-map level_of old.levels.items) in
    leaves-step old c.leave.result c.leave.new.self few none c.leave.ensures
