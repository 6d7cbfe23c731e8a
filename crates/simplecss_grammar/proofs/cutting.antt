-- Texts that are read in pieces.
pub mod BlockGuards
pub mod BlockEndGuards
pub mod BlockCuts
pub mod OutcomeGuards
pub mod SelectorGuards
pub mod RuleSetCuts
pub mod AtRuleCuts
pub mod StatementEnds
pub mod StatementCuts
pub mod CuttingLaws
pub mod SkipEnds
pub mod RestBoundaries
