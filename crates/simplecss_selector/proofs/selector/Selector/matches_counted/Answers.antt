use Rattle.std.proofs.Common.{◌≡◌, ◌<◌, ◌≤◌, ℕ, ◌+◌, ◌*◌, length, refl, arith}
use Rattle.std.proofs.lemmas.Bool.{false≢true}
use Rattle.simplecss_selector.specs.Placements.{longest_stretch}
use Rattle.simplecss_selector.proofs.Greedy.{not_met, tracks_from, alone_reached, placement_of}
use Rattle.simplecss_selector.proofs.LongestStretch.{longest_stretch-some, once_within, one_more, all_more, within_more, within_all}
use Rattle.simplecss_selector.proofs.selector.Selector.matches_counted.Goals as goal

some : (last n : ℕ) → last + 1 ≡ n → 0 < n
some last n e = omega arith

below : (last n : ℕ) → last + 1 ≡ n → last < n
below last n e = omega arith

counted : (before after : ℕ) → after ≡ before + 1 → before < after
counted before after e = omega arith

alone : (before after last n : ℕ) → after ≡ before + 1 → last + 1 ≡ n → last ≡ 0
    → before + n ≤ after
alone before after last n e l z = omega arith

pub returns-then-not-is_met_at-clause-answer : goal.returns-then-not-is_met_at-clause-answer
returns-then-not-is_met_at-clause-answer g c =
    let tree = g.E.Element.tree in
    let cs = c.args.self.now in (
      λ e. absurd (false≢true e),
      λ h. absurd (not_met tree cs (length cs) c.last_index-last.result _ _ (omega arith)
          (λ m. false≢true (c.if-not-is_met_at.ensures.answer.1 m))
          (tracks_from tree cs (length cs) (c.last_index-last.result + 1) _
          c.last_index-last.ensures) ((placement_of tree cs (length cs) _ refl).0 h)),
    )

pub returns-then-last-eq0-clause-answer : goal.returns-then-last-eq0-clause-answer
returns-then-last-eq0-clause-answer g c =
    let cs = c.args.self.now in (
      λ t. (placement_of g.E.Element.tree cs (length cs) _ refl).1
          (alone_reached g.E.Element.tree cs _ c.last_index-last.result (omega arith) (omega arith)
          (c.if-not-is_met_at.ensures.answer.0 refl)),
      λ h. refl,
    )

pub is_met_at-requires : goal.is_met_at-requires
is_met_at-requires g c = below _ _ c.last_index-last.ensures

pub continues-requires : goal.continues-requires
continues-requires g c =
    record { last = c.last_index-last.ensures; met = c.if-not-is_met_at.ensures.answer.0 refl }

pub returns-then-not-is_met_at-clause-at_least_one :
    goal.returns-then-not-is_met_at-clause-at_least_one
returns-then-not-is_met_at-clause-at_least_one g c = counted _ _ c.is_met_at.ensures.counted

pub returns-then-last-eq0-clause-at_least_one : goal.returns-then-last-eq0-clause-at_least_one
returns-then-last-eq0-clause-at_least_one g c = counted _ _ c.is_met_at.ensures.counted

pub returns-then-last-eq0-clause-all_when_true : goal.returns-then-last-eq0-clause-all_when_true
returns-then-last-eq0-clause-all_when_true g c =
    λ t. alone _ _ _ _ c.is_met_at.ensures.counted c.last_index-last.ensures c.if-last-eq0.true

pub returns-then-not-is_met_at-clause-all_when_true :
    goal.returns-then-not-is_met_at-clause-all_when_true
returns-then-not-is_met_at-clause-all_when_true g c = λ e. absurd (false≢true e)

pub returns-then-not-is_met_at-clause-at_most : goal.returns-then-not-is_met_at-clause-at_most
returns-then-not-is_met_at-clause-at_most g c =
    once_within (length c.args.self.now)
    (g.E.Element.tree.depth (g.E.Element.node c.args.element.now)) c.args.tests.now
    c.is_met_at.new.tests (some _ _ c.last_index-last.ensures) c.is_met_at.ensures.counted

pub returns-then-not-is_met_at-clause-at_most_by_stretches :
    goal.returns-then-not-is_met_at-clause-at_most_by_stretches
returns-then-not-is_met_at-clause-at_most_by_stretches g c =
    once_within (longest_stretch c.args.self.now)
    (g.E.Element.tree.depth (g.E.Element.node c.args.element.now)) c.args.tests.now
    c.is_met_at.new.tests (longest_stretch-some c.args.self.now
    (some _ _ c.last_index-last.ensures)) c.is_met_at.ensures.counted

pub returns-then-last-eq0-clause-at_most : goal.returns-then-last-eq0-clause-at_most
returns-then-last-eq0-clause-at_most g c =
    once_within (length c.args.self.now)
    (g.E.Element.tree.depth (g.E.Element.node c.args.element.now)) c.args.tests.now
    c.is_met_at.new.tests (some _ _ c.last_index-last.ensures) c.is_met_at.ensures.counted

pub returns-then-last-eq0-clause-at_most_by_stretches :
    goal.returns-then-last-eq0-clause-at_most_by_stretches
returns-then-last-eq0-clause-at_most_by_stretches g c =
    once_within (longest_stretch c.args.self.now)
    (g.E.Element.tree.depth (g.E.Element.node c.args.element.now)) c.args.tests.now
    c.is_met_at.new.tests (longest_stretch-some c.args.self.now
    (some _ _ c.last_index-last.ensures)) c.is_met_at.ensures.counted

pub returns-clause-answer : goal.returns-clause-answer
returns-clause-answer g c = c.continues.ensures.answer

pub returns-clause-at_least_one : goal.returns-clause-at_least_one
returns-clause-at_least_one g c = one_more c.args.tests.now c.is_met_at.new.tests
    c.continues.new.tests c.is_met_at.ensures.counted c.continues.ensures.tested

pub returns-clause-all_when_true : goal.returns-clause-all_when_true
returns-clause-all_when_true g c = λ t. all_more c.args.tests.now c.is_met_at.new.tests
    c.continues.new.tests c.last_index-last.result (length c.args.self.now)
    c.is_met_at.ensures.counted c.last_index-last.ensures (c.continues.ensures.all_when_true t)

pub returns-clause-at_most : goal.returns-clause-at_most
returns-clause-at_most g c =
    within_all c.args.self.now (g.E.Element.tree.depth (g.E.Element.node c.args.element.now) + 1)
    c.args.tests.now c.is_met_at.new.tests c.continues.new.tests c.is_met_at.ensures.counted
    c.continues.ensures.bounded

pub returns-clause-at_most_by_stretches : goal.returns-clause-at_most_by_stretches
returns-clause-at_most_by_stretches g c =
    within_more c.args.tests.now c.is_met_at.new.tests c.continues.new.tests (longest_stretch
    c.args.self.now * (g.E.Element.tree.depth (g.E.Element.node c.args.element.now) + 1))
    c.is_met_at.ensures.counted c.continues.ensures.bounded
