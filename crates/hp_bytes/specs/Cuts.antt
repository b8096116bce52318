-- What a slice ends as that was cut. No public clause cites this module but for `parts_over`.
use Rattle.std.specs.Prelude.{ℕ, List, ◌++◌, take, drop, nat_lt, if◌then◌else◌}
use Rattle.std.specs.Borrow.{Fml, MutBor, Array, LendsBoth, u8 as byte}
use Rattle.hp_bytes.specs.declared.part.Part.{Part}

-- the bytes up to a low part, what was written over it, those between it and a high one, what was written over this, and the rest
abbrev pub low_high_over : Part → Part → List ℕ → List ℕ → List ℕ → List ℕ
low_high_over low high bytes x y =
    (take low.from (take high.from bytes) ++ (x ++ drop low.len (drop low.from (take high.from bytes)))) ++ (y ++ drop high.len (drop high.from bytes))

-- the bytes with what was written over two parts, in whichever order these stand
abbrev pub parts_over : Part → Part → List ℕ → List ℕ → List ℕ → List ℕ
parts_over first second bytes x y = if nat_lt first.from second.from then low_high_over first second bytes x y else low_high_over second first bytes y x

abbrev pub lends_cut : MutBor (List ℕ) → MutBor (List ℕ) × MutBor (List ℕ) → Fml
lends_cut bytes loans = LendsBoth (Array byte 0) (Array byte 0) (Array byte 0) bytes loans ◌++◌

abbrev pub lends_parts : Part → Part → MutBor (List ℕ) → MutBor (List ℕ) × MutBor (List ℕ) → Fml
lends_parts low high bytes loans = LendsBoth (Array byte 0) (Array byte 0) (Array byte 0) bytes loans (low_high_over low high bytes.now)

abbrev pub lends_apart : Part → Part → MutBor (List ℕ) → MutBor (List ℕ) × MutBor (List ℕ) → Fml
lends_apart first second bytes loans = LendsBoth (Array byte 0) (Array byte 0) (Array byte 0) bytes loans (parts_over first second bytes.now)
