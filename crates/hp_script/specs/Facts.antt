-- What holds of the lines of a workload, by verb.
use Rattle.std.specs.Prelude.{◌≡◌, ℕ, ◌<◌, ◌≤◌, ◌^◌, List, [], ◌∷◌, ◌++◌, IfSome, ⊤}
use Rattle.hp_script.specs.Counts.{lines_by}
use Rattle.hp_base.specs.declared.limits.TheConstants.{MAX_PARTICIPANTS, MAX_SOCKETS}
use Rattle.hp_script.specs.declared.line.Act.{Act}
use Rattle.hp_script.specs.declared.line.Act.TheVariants as act
use Rattle.hp_script.specs.declared.line.Line.{Line}
use Rattle.hp_script.specs.declared.options.Options.{Options}
use Rattle.hp_script.specs.declared.options.SocketChoice.{SocketChoice}
use Rattle.hp_script.specs.declared.options.SocketChoice.TheVariants.{Any, Number}

-- a socket that is chosen by its number is below 32
abbrev pub IsSocketChoice : SocketChoice → Type 0
IsSocketChoice Any = ⊤
IsSocketChoice (Number socket) = socket < MAX_SOCKETS

-- the numbers of options have 64 bits and the flags 32, and an external heap excludes a socket
pub record AreOptions (options : Options) : Type 0 where
  pub socket : IsSocketChoice options.socket
  pub apart : IfSome options.heap (λ heap. options.socket ≡ Any)
  pub align : options.align < 2 ^ 64
  pub bound : options.bound < 2 ^ 64
  pub flags : options.flags < 2 ^ 32

-- a range of an external heap: its address and its length have 64 bits
abbrev pub IsRange : ℕ → ℕ → Type 0
IsRange addr len = (addr < 2 ^ 64) × (len < 2 ^ 64)

-- what holds of an act of a participant by its verb: numbers have 64 bits, a memzone has a byte, participants but 0 attach and detach,
-- participant 0 alone has validators, and who awaits awaits a line
abbrev pub IsActOf : ℕ → Act → Type 0
IsActOf party (act.Alloc label size options) = (size < 2 ^ 64) × AreOptions options
IsActOf party (act.Free label) = ⊤
IsActOf party (act.Resize label size) = size < 2 ^ 64
IsActOf party (act.Zone name len options) = (1 ≤ len) × (len < 2 ^ 64) × AreOptions options
IsActOf party (act.Lookup name) = ⊤
IsActOf party (act.Unzone name) = ⊤
IsActOf party act.Attach = (1 ≤ party) × (party < MAX_PARTICIPANTS)
IsActOf party act.Detach = (1 ≤ party) × (party < MAX_PARTICIPANTS)
IsActOf party (act.Heap name) = ⊤
IsActOf party (act.Unheap name) = ⊤
IsActOf party (act.Add heap addr len page) = IsRange addr len × (page < 2 ^ 64)
IsActOf party (act.Remove heap addr len) = IsRange addr len
IsActOf party (act.Map heap addr len) = IsRange addr len
IsActOf party (act.Unmap heap addr len) = IsRange addr len
IsActOf party (act.Watch name) = ⊤
IsActOf party (act.Unwatch name) = ⊤
IsActOf party (act.Limit name socket bytes allow) = (party ≡ 0) × (socket < MAX_SOCKETS) × (bytes < 2 ^ 64)
IsActOf party (act.Unlimit name socket) = (party ≡ 0) × (socket < MAX_SOCKETS)
IsActOf party (act.Await other lines) = 1 ≤ lines
IsActOf party (act.Dump heap) = ⊤
IsActOf party (act.Stats heap) = ⊤

abbrev pub IsLineOf : Line → Type 0
IsLineOf line = IsActOf line.participant line.act

-- an act that awaits names a declared participant, and no more lines than this one has before it
abbrev pub StandsAfter : ℕ → List Line → Act → Type 0
StandsAfter participants before (act.Await other lines) = (other < participants) × (lines ≤ lines_by other before)
StandsAfter participants before _ = ⊤

-- each of the lines that await stands after the lines that it awaits
abbrev pub AwaitAfter : ℕ → List Line → List Line → Type 0
AwaitAfter participants before [] = ⊤
AwaitAfter participants before (line ∷ lines) = StandsAfter participants before line.act × AwaitAfter participants (before ++ line ∷ []) lines

-- no line awaits one that does not stand before it
abbrev pub AwaitEarlier : ℕ → List Line → Type 0
AwaitEarlier participants lines = AwaitAfter participants [] lines
