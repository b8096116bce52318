pub mod Views
pub mod MailRule
pub mod PassView
pub mod PassInside
pub mod MailboxInside
pub mod MailLaws
