-- Who is there at the end of a hall of one thread.
use Rattle.std.proofs.Common.{◌≡◌, zero, suc, Bool, true, false, ◌||◌, List, [], ◌∷◌, Option, Some, None, is_none, refl, arith}
use Rattle.std.specs.Option.{IsSome}
use Rattle.hp_serve.specs.Party.{Party}
use Rattle.hp_solo.specs.Ending.{AreThere, has_absent}
use Rattle.hp_solo.specs.Solo.{AloneView}

pub neither_first : (first second : Bool) → (first || second) ≡ false → first ≡ false
neither_first true second neither = cc
neither_first false second neither = refl

pub neither_second : (first second : Bool) → (first || second) ≡ false → second ≡ false
neither_second true second neither = cc
neither_second false second neither = neither

both_off : (first second : Bool) → first ≡ false → second ≡ false → (first || second) ≡ false
both_off true second off rest = cc
both_off false second off rest = rest

is_there : (party : Option Party) → is_none party ≡ false → IsSome party
is_there None none = cc
is_there (Some party) none = refl

not_away : (party : Option Party) → IsSome party → is_none party ≡ false
not_away None there = cc
not_away (Some party) there = refl

-- where none is away all are there, and where all are there none is away
pub all_there : (servers : List AloneView) → has_absent servers ≡ false → AreThere servers
all_there [] none who below = absurd (omega arith)
all_there (server ∷ servers) none zero below = is_there server.party (neither_first (is_none server.party) (has_absent servers) none)
all_there (server ∷ servers) none (suc who) below =
    all_there servers (neither_second (is_none server.party) (has_absent servers) none) who (omega arith)

pub none_absent : (servers : List AloneView) → AreThere servers → has_absent servers ≡ false
none_absent [] there = refl
none_absent (server ∷ servers) there =
    both_off (is_none server.party) (has_absent servers) (not_away server.party (there zero (omega arith)))
    (none_absent servers (λ who below. there (suc who) (omega arith)))
