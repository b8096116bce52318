-- Where the names came by holds in a chain, what one participant was handed of them in its own holds, one after another, are fronts of the last
-- ones and never grow shorter.
use Rattle.std.proofs.Common.{◌≡◌, ◌∙◌, ◌==◌, ℕ, ◌+◌, ◌≤◌, Bool, true, false, cond, List, [], ◌∷◌, ◌++◌, append-nil, append_assoc, length, length-append, flat_map, map, take, refl, sym, ap, subst, arith}
use Rattle.std.specs.List.{All, AllByRecursion, filter_map, fold}
use Rattle.std.proofs.lemmas.List.{take_at}
use Rattle.std.proofs.lemmas.List.Elements.{All-cons, All-nil}
use Rattle.hp_proc.specs.Doing.{Done}
use Rattle.hp_proc.specs.Doing.Done.{NamesChanged, NamesRead}
use Rattle.hp_proc.specs.Handed.{AreFrontNames, AreNamesHanded, names_shown}
use Rattle.hp_proc.specs.LinesDone.{Course, trace_of}
use Rattle.hp_proc.specs.NamesLog.{change_made}
use Rattle.hp_proc.specs.NamesOfLines.{names_after, names_read}
use Rattle.hp_proc.specs.SharedNames.{NamesChange, SharedNames, names_with, no_changes}
use Rattle.hp_proc.specs.SharedNames.NamesChange.{OfHeaps, OfZones}
use Rattle.hp_weave.specs.Holds.{Chain, Hold, holds_of}
use Rattle.thm_run.proofs.Rising.{Rises, seen_rising}
use Rattle.thm_run.proofs.NamesEnd.LinesHeld.{held_for, held_in}
use Rattle.thm_run.specs.Handing.{ReadsFirst}

-- LATER NAMES

-- a list begins with another one
abbrev pub BeginsWith : {A : Type 0} → List A → List A → Type 0
BeginsWith {A} whole front = (rest : List A) × (whole ≡ front ++ rest)

-- names later on: both logs begin with the earlier ones
pub record AreLater (old new : SharedNames) : Type 0 where
  pub zones : BeginsWith new.zones old.zones
  pub heaps : BeginsWith new.heaps old.heaps

pub later_same : (names : SharedNames) → AreLater names names
later_same names = record { zones = ([], sym (append-nil names.zones)); heaps = ([], sym (append-nil names.heaps)) }

begins_on : {A : Type 0} (old mid new : List A) → BeginsWith mid old → BeginsWith new mid → BeginsWith new old
begins_on old mid new (more, first) (rest, then) =
    (more ++ rest, then ∙ (ap (λ (l : List _). l ++ rest) first ∙ append_assoc old more rest))

pub later_on : (old mid new : SharedNames) → AreLater old mid → AreLater mid new → AreLater old new
later_on old mid new first then = record {
  zones = begins_on old.zones mid.zones new.zones first.zones then.zones;
  heaps = begins_on old.heaps mid.heaps new.heaps first.heaps then.heaps;
}

pub later_with : (names : SharedNames) (change : NamesChange) → AreLater names (names_with names change)
later_with names (OfZones change) = record { zones = (change ∷ [], refl); heaps = ([], sym (append-nil names.heaps)) }
later_with names (OfHeaps change) = record { zones = ([], sym (append-nil names.zones)); heaps = (change ∷ [], refl) }

pub later_after : (names : SharedNames) (changes : List NamesChange) → AreLater names (fold names_with names changes)
later_after names [] = later_same names
later_after names (change ∷ changes) =
    later_on names (names_with names change) (fold names_with (names_with names change) changes) (later_with names change)
    (later_after (names_with names change) changes)

-- names one after another, from some on to others: each is later than the one before
abbrev pub AreOnward : SharedNames → List SharedNames → SharedNames → Type 0
AreOnward low [] high = AreLater low high
AreOnward low (names ∷ shown) high = AreLater low names × AreOnward names shown high

onward_from : (lower low : SharedNames) (shown : List SharedNames) (high : SharedNames) → AreLater lower low → AreOnward low shown high
    → AreOnward lower shown high
onward_from lower low [] high first on = later_on lower low high first on
onward_from lower low (names ∷ shown) high first on = (later_on lower low names first on.0, on.1)

pub onward_whole : (low : SharedNames) (shown : List SharedNames) (high : SharedNames) → AreOnward low shown high → AreLater low high
onward_whole low [] high on = on
onward_whole low (names ∷ shown) high on = later_on low names high on.0 (onward_whole names shown high on.1)

-- ONE PARTICIPANT'S HOLDS

-- holds from some names on to others: each takes later ones than the one before gave
abbrev pub HoldOnward : SharedNames → List (Hold SharedNames) → SharedNames → Type 0
HoldOnward low [] high = AreLater low high
HoldOnward low (hold ∷ holds) high = AreLater low hold.taken × HoldOnward hold.given holds high

abbrev pub GivesLater : Hold SharedNames → Type 0
GivesLater hold = AreLater hold.taken hold.given

hold_from : (lower low : SharedNames) (holds : List (Hold SharedNames)) (high : SharedNames) → AreLater lower low → HoldOnward low holds high
    → HoldOnward lower holds high
hold_from lower low [] high first on = later_on lower low high first on
hold_from lower low (hold ∷ holds) high first on = (later_on lower low hold.taken first on.0, on.1)

-- of a chain those of one
pub own_onward : (first : SharedNames) (holds : List (Hold SharedNames)) (last : SharedNames) → Chain first holds last
    → AllByRecursion GivesLater holds → (who : ℕ) → HoldOnward first (holds_of who holds) last
own_onward first [] last chain later who = subst (AreLater first) (sym chain) (later_same first)
own_onward first (hold ∷ holds) last chain later who = by_owner (hold.who == who) (own_onward hold.given holds last chain.1 later.1 who)
  where
    before : AreLater first hold.taken
    before = subst (AreLater first) (sym chain.0) (later_same first)

    by_owner : (its : Bool) → HoldOnward hold.given (holds_of who holds) last
        → HoldOnward first (cond its (hold ∷ holds_of who holds) (holds_of who holds)) last
    by_owner true rest = (before, rest)
    by_owner false rest = hold_from first hold.given (holds_of who holds) last (later_on first hold.taken hold.given before later.0) rest

-- WHAT A TRACE SHOWS

-- after a read a trace shows its changes one after another, and then what comes after them
module _ (high : SharedNames) where
  read_shown : (now : SharedNames) (rest more : List Done) → names_read rest ≡ []
      → AreOnward (names_after now rest) (names_shown (names_after now rest) more) high → AreOnward now (names_shown now (rest ++ more)) high
  read_shown now [] more none on = on
  read_shown now (NamesRead names ∷ rest) more none on = cc
  read_shown now (NamesChanged change ∷ rest) more none on =
      (later_with now change, read_shown (names_with now change) rest more none on)
  read_shown now (_ ∷ rest) more none on = read_shown now rest more none on

-- and where none are read or changed it shows none
quiet_shown : (known : SharedNames) (rest more : List Done) → names_read rest ≡ [] → filter_map change_made rest ≡ []
    → names_shown known (rest ++ more) ≡ names_shown known more
quiet_shown known [] more none unchanged = refl
quiet_shown known (NamesRead names ∷ rest) more none unchanged = cc
quiet_shown known (NamesChanged change ∷ rest) more none unchanged = cc
quiet_shown known (_ ∷ rest) more none unchanged = quiet_shown known rest more none unchanged

-- where they are known to be read first
first_shown : (high low known : SharedNames) (who : ℕ) (trace more : List Done) (holds : List (Hold SharedNames)) → ReadsFirst trace
    → ((low known : SharedNames) → HoldOnward low holds high → AreOnward low (names_shown known more) high)
    → HoldOnward low (held_for who trace ++ holds) high → AreOnward low (names_shown known (trace ++ more)) high
first_shown high low known who [] more holds first on held = on low known held
first_shown high low known who (NamesRead names ∷ rest) more holds first on held =
    (held.0, read_shown high names rest more first (on (names_after names rest) (names_after names rest) held.1))
first_shown high low known who (done ∷ rest) more holds first on held =
    subst (λ (shown : List SharedNames). AreOnward low shown high) (sym (quiet_shown known (done ∷ rest) more first.0 first.1))
    (on low known held)

-- so lines show names one after another
pub lines_onward : (high : SharedNames) (who : ℕ) (courses : List Course) (low known : SharedNames)
    → AllByRecursion (λ course. ReadsFirst course.trace) courses → HoldOnward low (held_in who courses) high
    → AreOnward low (names_shown known (trace_of courses)) high
lines_onward high who [] low known first held = held
lines_onward high who (course ∷ courses) low known first held =
    first_shown high low known who course.trace (trace_of courses) (held_in who courses) first.0
    (λ low known held. lines_onward high who courses low known first.1 held) held

-- WHAT THAT SAYS

pub front_is : {A : Type 0} (whole front : List A) → BeginsWith whole front → take (length front) whole ≡ front
front_is whole front (rest, is) = ap (take (length front)) is ∙ take_at front rest (length front) refl

fronts_of : (low : SharedNames) (shown : List SharedNames) (high : SharedNames) → AreOnward low shown high → All (AreFrontNames high) shown
fronts_of low [] high on = All-nil (AreFrontNames high)
fronts_of low (names ∷ shown) high on =
    let later = onward_whole names shown high on.1 in
    All-cons (AreFrontNames high) names shown (record {
      zones = front_is high.zones names.zones later.zones;
      heaps = front_is high.heaps names.heaps later.heaps;
    }) (fronts_of names shown high on.1)

longer : {A : Type 0} (whole front : List A) → BeginsWith whole front → length front ≤ length whole
longer whole front (rest, is) =
    let long = ap length is in
    let both = length-append front rest in
    omega (arith, long, both)

module _ (count : SharedNames → ℕ) (grows : (old new : SharedNames) → AreLater old new → count old ≤ count new) where
  counts_rise : (low : SharedNames) (shown : List SharedNames) (high : SharedNames) → AreOnward low shown high
      → Rises (count low) (count high) (map count shown)
  counts_rise low [] high on = grows low high on
  counts_rise low (names ∷ shown) high on = (grows low names on.0, counts_rise names shown high on.1)

pub onward_handed : (shown : List SharedNames) (high : SharedNames) → AreOnward no_changes shown high → AreNamesHanded high shown
onward_handed shown high on =
    let zones : SharedNames → ℕ = λ names. length names.zones in
    let heaps : SharedNames → ℕ = λ names. length names.heaps in
    record {
      fronts = fronts_of no_changes shown high on;
      zones = (seen_rising (zones high) (map zones shown)
          (counts_rise zones (λ old new later. longer new.zones old.zones later.zones) no_changes shown high on)).rising;
      heaps = (seen_rising (heaps high) (map heaps shown)
          (counts_rise heaps (λ old new later. longer new.heaps old.heaps later.heaps) no_changes shown high on)).rising;
    }
