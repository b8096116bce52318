pub mod NamesOpened
pub mod NamingGives
pub mod Renamed
