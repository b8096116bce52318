-- What a source gives and a sink takes, and when either may fail.
use Rattle.std.specs.Prelude.{◌≡◌, ℕ, ◌+◌, ◌-◌, ◌^◌, ◌<◌, ◌≤◌, min, Bool, true, false, List, [], ◌++◌, length, take, Option, ◌==◌, IsTrue}
use Rattle.std.specs.Option.{option_map}
use Rattle.std.specs.List.{list_any}
use Rattle.hp_base.specs.declared.source.Got.{Got}
use Rattle.hp_base.specs.declared.source.Got.TheVariants as got
use Rattle.hp_base.specs.declared.sink.Put.{Put}
use Rattle.hp_base.specs.declared.sink.Put.TheVariants as put

-- a count of faults has risen, or stands at the end of 64 bits
abbrev pub HasRisen : ℕ → ℕ → Type 0
HasRisen old new = min (old + 1) (2 ^ 64 - 1) ≤ new

-- a run of calls: a count of faults never falls, and has risen where the run failed
pub record HasCause (old new : ℕ) (failed : Bool) : Type 0 where
  pub never_falls : old ≤ new
  pub rose : IsTrue failed → HasRisen old new

-- a call of a source, a sink or a mapper: its count of faults has risen where the call failed, and stands as it was where it did not
pub record CountsFault (old new : ℕ) (failed : Bool) : Type 0 where
  pub never_falls : old ≤ new
  pub rose : IsTrue failed → HasRisen old new
  pub same : failed ≡ false → new ≡ old

-- n bytes at the front of a buffer are the next of what was left
pub record GivesBytes (old new : Option (List ℕ)) (room : ℕ) (buf : List ℕ) (n : ℕ) : Type 0 where
  pub some : 0 < n
  pub within : n ≤ room
  pub next : old ≡ option_map (λ rest. take n buf ++ rest) new

-- nothing is left, where that is told
pub record GivesEnd (old new : Option (List ℕ)) : Type 0 where
  pub nothing : old ≡ option_map (λ rest. []) old
  pub same : new ≡ old

-- what a read of a buffer with some room gives, by what was left before and is left after
abbrev pub Gives : Option (List ℕ) → Option (List ℕ) → ℕ → List ℕ → Got → Type 0
Gives old new room buf (got.Bytes n) = GivesBytes old new room buf n
Gives old new room buf got.End = GivesEnd old new
Gives old new room buf got.Failed = new ≡ old

abbrev pub got_failed : Got → Bool
got_failed (got.Bytes n) = false
got_failed got.End = false
got_failed got.Failed = true

-- the first n of the bytes stand after what the sink held
pub record TakesBytes (old new : Option (List ℕ)) (bytes : List ℕ) (n : ℕ) : Type 0 where
  pub some : 0 < n
  pub within : n ≤ length bytes
  pub behind : new ≡ option_map (λ held. held ++ take n bytes) old

-- what a write of bytes takes, by what the sink held before and holds after
abbrev pub Takes : Option (List ℕ) → Option (List ℕ) → List ℕ → Put → Type 0
Takes old new bytes (put.Took n) = TakesBytes old new bytes n
Takes old new bytes put.Failed = new ≡ old

abbrev pub put_failed : Put → Bool
put_failed (put.Took n) = false
put_failed put.Failed = true

-- the number is in the list
abbrev pub list_has : ℕ → List ℕ → Bool
list_has n numbers = list_any (λ m. m == n) numbers
