mod ReplayLemmas
mod IndexLemmas
mod SortedLemmas
mod ZoneLemmas
mod KeptLemmas
mod NameLemmas
mod SocketLemmas
mod DirectoryLemmas
