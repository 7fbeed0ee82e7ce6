mod CallLaws
mod DiskLaws
mod FrontLaws
mod OpeningLaws
mod ServingLaws
mod SpellingLaws
mod SwitchingLaws
pub mod Falling
pub mod FlushCalls
pub mod FlushSteps
pub mod Flushing
pub mod Frames
pub mod Going
pub mod Holding
pub mod InOrder
pub mod Opens
pub mod ServingSteps
pub mod Spelling
pub mod Starting
pub mod Stepping
pub mod SwitchSteps
