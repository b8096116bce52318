mod AddedHere
pub mod AddressLies
mod AgreedLater
pub mod AllocAgrees
pub mod AllocFacts
pub mod AllocLines
pub mod AttachedLines
pub mod AwaitedLines
pub mod HandFacts
pub mod ChangedLines
pub mod ChosenHeaps
mod ChunkCame
pub mod ChunkLies
mod ChunksLeft
mod ChunksNoted
pub mod Continued
mod ExternalLine
mod ExternalMeant
pub mod DetachedLines
mod DetachesHere
mod DumpLines
pub mod FoundZones
pub mod HallMoments
pub mod Halted
mod HeldArms
pub mod InHandUntold
pub mod InTurn
pub mod Joining
pub mod LawLemmas
pub mod LeastData
mod LeftHere
pub mod LineEnds
pub mod LineFacts
pub mod LinesApart
pub mod LinesFreed
pub mod LinesInHall
pub mod LinesOrdered
pub mod Lookups
mod LookedUp
pub mod MadeHeaps
mod MadeHere
pub mod Makers
pub mod Mapped
mod LeavingAll
mod LeavingOn
mod LeftHeld
mod MappedHere
mod MarksApart
mod MayAttachHere
pub mod MeantHeaps
pub mod NamedPlaces
pub mod NamesAround
pub mod NamesFollow
pub mod NamesBeside
mod NamesHeld
mod NamesRead
pub mod Noted
pub mod NotedCame
pub mod NotedLeft
pub mod OrdinaryElements
pub mod OwnNotes
pub mod PagesStay
mod Permuted
pub mod Plans
mod PoolsFrom
mod Registered
mod RegisteredHere
pub mod RegisteredLines
pub mod ReleasedMemory
pub mod RemovedHere
pub mod ServesAside
pub mod WaitsAside
pub mod ServedLines
mod SharedMarks
mod Reservations
pub mod Rising
pub mod SocketHeapLemmas
pub mod SocketNames
mod StatsLines
pub mod StepsOrdered
pub mod TreeDeeds
pub mod Unarmed
pub mod WhosePages
pub mod WorkedLines
pub mod ZoneAgrees
pub mod ZoneElements
pub mod ZoneNames
mod ZonesWithout
pub mod NamedTrees
pub mod ThereDone
mod ZoneServed
mod ZoneHeld
mod ZoneTrees
mod LinesNamed
mod ZoneLooked
mod ZonePlaces
mod ZoneDone
