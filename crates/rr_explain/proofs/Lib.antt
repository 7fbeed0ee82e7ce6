pub mod FaultLemmas
pub mod PrintLemmas
