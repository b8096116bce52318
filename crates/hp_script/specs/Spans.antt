-- Where the tokens of a workload stand in its text.
use Rattle.std.specs.Prelude.{◌≡◌, ℕ, ◌+◌, ◌≤◌, List, [], ◌∷◌, length, take, drop, Option, Some, None}
use Rattle.std.specs.List.{flat_map}
use denote.Ref.{Bor}
use Rattle.hp_script.specs.Part.{Part, address_of}
use Rattle.hp_script.specs.declared.line.Act.{Act}
use Rattle.hp_script.specs.declared.line.Act.TheVariants as act
use Rattle.hp_script.specs.declared.line.Line.{Line}

-- a part is the slice of the bytes at its place, and lent from them
pub record IsSlice (bytes : Bor (List ℕ)) (part : Part) : Type 0 where
  pub within : part.start + length part.text ≤ length bytes.now
  pub same : part.text ≡ take (length part.text) (drop part.start bytes.now)
  pub lent : part.base ≡ bytes.ref_ptr

-- the address so many bytes after another
abbrev pub bytes_behind : ℕ × ℕ → ℕ → ℕ × ℕ
bytes_behind address n = (address.0, address.1 + n)

-- parts are slices of the bytes that rise, none of them meeting another, between two places
abbrev pub AreSlices : Bor (List ℕ) → ℕ → ℕ → List Part → Type 0
AreSlices bytes from to [] = from ≤ to
AreSlices bytes from to (part ∷ others) =
    (from ≤ part.start) × IsSlice bytes part × AreSlices bytes (part.start + length part.text) to others

-- a part is lent from the bytes: its first byte stands at their address and its place
abbrev pub IsLentFrom : Bor (List ℕ) → Part → Type 0
IsLentFrom bytes part = address_of part ≡ bytes_behind bytes.ref_ptr part.start

-- the external heap that options name
abbrev pub heap_tokens : Option Part → List Part
heap_tokens None = []
heap_tokens (Some heap) = heap ∷ []

-- the tokens of an act, in the order in which they stand
abbrev pub tokens_of : Act → List Part
tokens_of (act.Alloc label size options) = label ∷ heap_tokens options.heap
tokens_of (act.Free label) = label ∷ []
tokens_of (act.Resize label size) = label ∷ []
tokens_of (act.Zone name len options) = name ∷ heap_tokens options.heap
tokens_of (act.Lookup name) = name ∷ []
tokens_of (act.Unzone name) = name ∷ []
tokens_of act.Attach = []
tokens_of act.Detach = []
tokens_of (act.Heap name) = name ∷ []
tokens_of (act.Unheap name) = name ∷ []
tokens_of (act.Add heap addr len page) = heap ∷ []
tokens_of (act.Remove heap addr len) = heap ∷ []
tokens_of (act.Map heap addr len) = heap ∷ []
tokens_of (act.Unmap heap addr len) = heap ∷ []
tokens_of (act.Watch name) = name ∷ []
tokens_of (act.Unwatch name) = name ∷ []
tokens_of (act.Limit name socket bytes allow) = name ∷ []
tokens_of (act.Unlimit name socket) = name ∷ []
tokens_of (act.Await other lines) = []
tokens_of (act.Dump heap) = heap ∷ []
tokens_of (act.Stats heap) = heap ∷ []

-- the tokens of participant lines, in the order in which they stand
abbrev pub all_tokens : List Line → List Part
all_tokens lines = flat_map (λ line. tokens_of line.act) lines
