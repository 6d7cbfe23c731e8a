use Rattle.std.proofs.Common.{◌≡◌, [], false, Some, option_map, rules, subst, sym}
use Rattle.css_values.specs.internal.Paths.{circle_of, circles_of, is_unread, slot_at, unread_circle}
use Rattle.css_values.proofs.ResolvingLemmas.{Follows, follows-begins, follows-goes_on, resolving-skips}
use Rattle.css_values.proofs.resolution.compute.Goals as goal

pub path-init : goal.path-init
path-init c =
    let limit = c.args.limit in
    let table = c.args.table.now in
    let slots = c.args.slots.now in
    let number = c.args.number in
    subst (λ begun. Follows limit table slots c.open.new.slots number begun (circles_of c.new.result.items)
    (Some (circle_of c.open.result))) (sym c.open.ensures.begun)
    (subst (λ items. Follows limit table slots c.open.new.slots number 1 (circles_of items)
    (Some (circle_of c.open.result))) (sym c.new.ensures.items)
    (subst (λ one. Follows limit table slots c.open.new.slots number 1 [] (Some one))
    (sym c.open.ensures.circle)
    (subst (λ after. Follows limit table slots after number 1 [] (Some (unread_circle table 0 number)))
    (sym c.open.ensures.slots)
    (follows-begins limit table slots number c.requires.before.same_length c.requires.within
    (search rules) c.requires.before.none_open))))

pub path-preserved : goal.path-preserved
path-preserved c =
    follows-goes_on c.args.limit c.args.table.now c.args.slots.now c.path.slots c.advance.new.slots
    c.args.number c.path.path.begun c.advance.new.path.begun (circles_of c.path.path.circles.items)
    (circles_of c.advance.new.path.circles.items) (circle_of c.in-Some.circle)
    (option_map circle_of c.in_ok-last.last)
    (subst (λ o. Follows c.args.limit c.args.table.now c.args.slots.now c.path.slots c.args.number
    c.path.path.begun (circles_of c.path.path.circles.items) (option_map circle_of o))
    c.in-Some.is c.path.invariant)
    c.in_ok-last.ensures.goes_on c.in_ok-last.ensures.ends

pub returns-then-not-is_unread : goal.returns-then-not-is_unread
returns-then-not-is_unread c =
    let read : is_unread (slot_at c.args.slots.now c.args.number) ≡ false = search rules in
    resolving-skips c.args.limit c.args.table.now c.args.slots.now c.args.number c.requires.before
    read
