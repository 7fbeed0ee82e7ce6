pub mod ChosenLemmas
pub mod TellingLaws
pub mod SubmittedLaws
pub mod ClusterLaws
mod AloneLaws
mod WaitingLaws
mod ActLaws
pub mod RealTimeLaws
pub mod HeadlineLaws
pub mod NodeLaws
pub mod RefusedLaws
mod ScheduleLaws
pub mod DrawingLemmas
pub mod FailingLaws
mod DecidedLaws
pub mod WantLaws
pub mod Wanting
mod OpenedLaws
pub mod CleanLaws
pub mod ToldLaws
mod DrawnLaws
mod Alone
mod Five
mod InCluster
mod Restarts
mod Swept
mod Texts
mod AllEvents
