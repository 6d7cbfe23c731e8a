mod AnsweredRules
mod BestLemmas
mod NumberLemmas
mod IndexLemmas
mod PropertyLemmas
mod ContestLemmas
mod StatedLemmas
mod ReadLemmas
mod RestLemmas
mod RollingLemmas
mod WinningLemmas
mod GatherLemmas
mod RememberedLemmas
mod StyleLemmas
mod RankLemmas
mod FloorLemmas
mod StandingLemmas
mod LawLemmas
pub mod DistinctLemmas
pub mod OneLemmas
mod SettledLemmas
mod OrderLemmas
mod WinnerVectors
