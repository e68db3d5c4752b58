pub mod Endings
pub mod FixedTexts
pub mod Hearing
pub mod JsonTexts
pub mod Rooms
pub mod StatusTexts
pub mod Statuses
