mod BatchLemmas
mod Filters
mod KnownLemmas
mod Worked
mod WorldLemmas
mod RoomLemmas
