pub mod HeaderSpelling
pub mod MailSpelling
pub mod SlotSpelling
