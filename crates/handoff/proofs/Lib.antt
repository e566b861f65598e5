pub mod Example
pub mod Cut
pub mod Count
pub mod Size
pub mod Most
pub mod Cover
pub mod Written
