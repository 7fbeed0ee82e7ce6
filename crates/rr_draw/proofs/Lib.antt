pub mod AppendLaws
pub mod FateLaws
pub mod PictureLaws
pub mod TapeLaws
