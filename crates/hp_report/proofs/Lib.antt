mod Streaming
mod HexLemmas
mod TextLemmas
mod AddingLemmas
mod NumberedLemmas
mod NameLemmas
mod SortLemmas
mod PartsLemmas
