pub mod Same
pub mod Audits
pub mod Following
pub mod AuditTexts
pub mod Rows
