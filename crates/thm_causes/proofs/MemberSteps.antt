pub mod MemberFetches
pub mod MemberLevels
pub mod MemberMail
pub mod MemberServes
pub mod MemberServings
pub mod MemberStages
pub mod MemberWorlds
