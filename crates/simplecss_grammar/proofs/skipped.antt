-- What is skipped of a text that is cut, and that nothing is lost.
pub mod FaultGuards
pub mod RefusalGuards
pub mod BlockSkipCuts
pub mod RuleSetSkipCuts
pub mod StatementSkipCuts
pub mod SkipsAcross
pub mod CutUps
pub mod CutUpRuleSets
pub mod AccountedFor
pub mod PrintedSkips
