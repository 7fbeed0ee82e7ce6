mod NumberLaws
mod ReservingLaws
pub mod ClusterReading
pub mod Guarding
pub mod RenewedFolders
pub mod RenewalLemmas
pub mod SiftLemmas
pub mod AgreementLemmas
pub mod OneList
pub mod CrashedFolders
pub mod BoundLemmas
pub mod ExportLemmas
pub mod ReadingLemmas
