use Rattle.std.proofs.Common.{refl}
use Rattle.css_syntax.specs.ListReaders.{items_to_come}
use Rattle.css_syntax.specs.Views.{list_part_of}
use Rattle.css_syntax.proofs.ListSteps.{items-some, items-none, item_goes}
use Rattle.css_syntax.proofs.declarations.DeclarationsIterator.next.Goals as goal

pub returns-in-Some-clause-steps : goal.returns-in-Some-clause-steps
returns-in-Some-clause-steps c =
    let old = c.args.self.now in
    let found = c.in-Some.found in
    record {
      items = items-some old.in_block old.rest.now found.rest.now (list_part_of found.part)
          c.in-Some.ensures.read;
      reads = c.in-Some.ensures.read;
      in_block = refl;
    }

pub returns-in-Some-clause-goes : goal.returns-in-Some-clause-goes
returns-in-Some-clause-goes c =
    let old = c.args.self.now in
    let found = c.in-Some.found in
    item_goes _ items_to_come _ _ _ (list_part_of found.part) tt
    (items-some old.in_block old.rest.now found.rest.now (list_part_of found.part)
    c.in-Some.ensures.read)

pub returns-in-None-clause-steps : goal.returns-in-None-clause-steps
returns-in-None-clause-steps c =
    let old = c.args.self.now in
    let none = items-none old.in_block old.rest.now c.in-None.ensures.read in
    record { items = (none, none); reads = (c.in-None.ensures.read, refl); in_block = refl }
