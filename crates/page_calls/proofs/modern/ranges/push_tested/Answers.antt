use Rattle.std.proofs.Common.{◌+◌, [], ◌∷◌, rules}
use Rattle.page_calls.specs.Ranges.{is_matched, is_unmatched}
use Rattle.page_calls.proofs.modern.ranges.push_tested.Goals as goal

pub returns-in_ok-push : goal.returns-in_ok-push
returns-in_ok-push c =
    let found = c.is_matched.ensures.0 c.if-is_matched.true in (
      (c.args.element + 1) ∷ [],
      is_matched found.0 (search rules),
      c.in_ok-push.ensures.items,
    )

pub returns-else-is_matched : goal.returns-else-is_matched
returns-else-is_matched c = (
  [],
  is_unmatched (λ index m. (let no = c.if-is_matched.false in
      let yes = c.is_matched.ensures.1 (index, search rules) in cc)),
  search rules,
)
