mod IdleLaws
pub mod LivelyLaws
mod FinishLaws
