-- How first lines are noted: one entry for each name, in buckets, each of which goes back from the entry that came last. No public clause
-- cites this module.
use Rattle.std.specs.Prelude.{◌≡◌, ℕ, ◌<◌, ◌≤◌, ◌-◌, Bool, List, [], map, Option, Some, None, zero, suc, length, get_or, if◌then◌else◌}
use Rattle.std.specs.List.{slice_get}
use Rattle.std.specs.Map.{lookup}
use Rattle.std.specs.Str.{bytes_eq}
use Rattle.std.specs.Int.Bits.{bit_and}
use Rattle.std.specs.Hash.FoldHasher as folding
use Rattle.hp_script.specs.declared.first_lines.Noted.{Noted}

-- it is that of a name
abbrev pub is_of : List ℕ → Noted → Bool
is_of name entry = bytes_eq entry.name name

-- names with their lines
abbrev pub names_of : List Noted → List (List ℕ × ℕ)
names_of noted = map (λ entry. (entry.name, entry.number)) noted

-- the line that a name has among them
abbrev pub line_among : List (List ℕ × ℕ) → List ℕ → Option ℕ
line_among lines name = lookup (λ known. bytes_eq known name) lines

-- the line that is noted of a name
abbrev pub line_noted : List Noted → List ℕ → Option ℕ
line_noted noted name = line_among (names_of noted) name

-- the bucket of a name, of so many
abbrev pub bucket_of : List ℕ → ℕ → ℕ
bucket_of name count = bit_and (folding.finish (folding.write folding.initial name)) (count - 1)

-- the line of a name that is found at an entry, or after it
abbrev pub found_at : List ℕ → Option Noted → (ℕ → Option ℕ) → Option ℕ
found_at name None rest = None
found_at name (Some entry) rest = if is_of name entry then Some entry.number else rest entry.before

-- the line of a name that is found among so many entries of a bucket, back from the one of this number, counted from 1
abbrev pub found_from : List Noted → ℕ → ℕ → List ℕ → Option ℕ
found_from noted zero last name = None
found_from noted (suc more) zero name = None
found_from noted (suc more) (suc place) name = found_at name (slice_get noted place) (λ last. found_from noted more last name)

-- each entry goes back to an earlier one, or to none
abbrev pub AreEarlier : List Noted → Type 0
AreEarlier noted = (place : ℕ) (entry : Noted) → slice_get noted place ≡ Some entry → entry.before ≤ place

-- each name is found in its bucket as it is noted, and without buckets nothing is noted
pub record AreFiled (noted : List Noted) (lasts : List ℕ) : Type 0 where
  pub earlier : AreEarlier noted
  pub within : (bucket : ℕ) → get_or lasts bucket 0 ≤ length noted
  pub found : 0 < length lasts → (name : List ℕ)
      → found_from noted (length noted) (get_or lasts (bucket_of name (length lasts)) 0) name ≡ line_noted noted name
  pub none : length lasts ≡ 0 → noted ≡ []

-- buckets without an entry
pub record AreEmpty (lasts : List ℕ) : Type 0 where
  pub some : 0 < length lasts
  pub zeros : (bucket : ℕ) → get_or lasts bucket 0 ≡ 0
