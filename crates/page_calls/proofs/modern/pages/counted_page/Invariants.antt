use Rattle.page_calls.proofs.ModernPages.{TextsSoFar}
use Rattle.page_calls.proofs.modern.pages.counted_page.Given as goal

-- what is known of the elements so far
abbrev pub invariant-loop-index : goal.invariant-loop-index
invariant-loop-index l = TextsSoFar l.elements l.tree l.index l.page
