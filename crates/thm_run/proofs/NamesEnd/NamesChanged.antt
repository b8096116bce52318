-- Where the names came by holds in a chain, the changes that their logs have are those of the holds; and of each participant these are the ones
-- that its lines made.
use Rattle.std.proofs.Common.{◌≡◌, ◌∙◌, ◌==◌, ℕ, ◌+◌, ◌<◌, ◌≤◌, Bool, true, false, cond, List, [], ◌∷◌, ◌++◌, append-nil, append_assoc, drop, length, length-append, flat_map, map, refl, sym, ap, ap₂, subst, arith}
use Rattle.std.specs.List.{AllByRecursion, enumerate_from, filter_map, fold, range_with_len}
use Rattle.std.specs.List.Sorted.{IsPermutation}
use Rattle.std.proofs.lemmas.Grind.{flat_map-append}
use Rattle.std.proofs.lemmas.List.{drop_all, drop_at}
use Rattle.std.proofs.lemmas.List.Sorted.{IsPermutation-append, IsPermutation-append_comm, IsPermutation-append_left, IsPermutation-append_right, IsPermutation-refl, IsPermutation-sym, IsPermutation-trans}
use Rattle.hp_zone.specs.declared.name_change.NameChange.{NameChange}
use Rattle.hp_zone.specs.declared.zone.ZoneChange.{ZoneChange}
use Rattle.hp_proc.specs.Doing.{Done}
use Rattle.hp_proc.specs.Doing.Done.{NamesChanged, NamesRead}
use Rattle.hp_proc.specs.LinesDone.{Course, trace_of}
use Rattle.hp_proc.specs.NamesLog.{change_made, changes_from, changes_in, changes_made, place_of}
use Rattle.hp_proc.specs.NamesOfLines.{names_after, names_read}
use Rattle.hp_proc.specs.SharedNames.{NamesChange, SharedNames, names_with, no_changes}
use Rattle.hp_proc.specs.SharedNames.NamesChange.{OfHeaps, OfZones}
use Rattle.hp_weave.specs.Holds.{Chain, Hold, holds_of}
use Rattle.thm_run.proofs.WhatWentBack.CutRuns.{at_heap, flat_map_alike, flat_map_parts, picked_once}
use Rattle.thm_run.proofs.NamesEnd.LinesHeld.{held_for, held_in}
use Rattle.thm_run.proofs.NamesEnd.NamesChain.{AreLater, BeginsWith, GivesLater, later_after, later_on, later_same, later_with}
use Rattle.thm_run.specs.Handing.{ReadsFirst}

-- WHAT CAME BETWEEN NAMES AND LATER ONES

-- what a list has after so many elements, each with its place
abbrev pub numbered_after : {A : Type 0} → ℕ → List A → List (ℕ × A)
numbered_after from all = enumerate_from from (drop from all)

-- the changes that came to names, each with its place in its log
abbrev pub came_between : SharedNames → SharedNames → List (ℕ × NamesChange)
came_between old new = map (λ entry. (entry.0, OfZones entry.1)) (numbered_after (length old.zones) new.zones)
    ++ map (λ entry. (entry.0, OfHeaps entry.1)) (numbered_after (length old.heaps) new.heaps)

module _ {A : Type 0} where
  enumerated_on : (from : ℕ) (xs ys : List A) → enumerate_from from (xs ++ ys) ≡ enumerate_from from xs ++ enumerate_from (from + length xs) ys
  enumerated_on from [] ys = ap (λ (n : ℕ). enumerate_from n ys) (let n : from ≡ from + 0 = omega arith in n)
  enumerated_on from (x ∷ xs) ys =
      ap (λ (rest : List (ℕ × A)). (from, x) ∷ rest)
      (enumerated_on (from + 1) xs ys
      ∙ ap (λ (n : ℕ). enumerate_from (from + 1) xs ++ enumerate_from n ys)
      (let n : from + 1 + length xs ≡ from + length (x ∷ xs) = omega arith in n))

  -- what came first, and then what came after that
  numbered_on : (old mid new : List A) → BeginsWith mid old → BeginsWith new mid
      → numbered_after (length old) new ≡ numbered_after (length old) mid ++ numbered_after (length mid) new
  numbered_on old mid new (more, first) (rest, then) =
      let here : drop (length old) mid ≡ more = ap (drop (length old)) first ∙ drop_at old more (length old) refl in
      let behind : drop (length mid) new ≡ rest = ap (drop (length mid)) then ∙ drop_at mid rest (length mid) refl in
      let all : drop (length old) new ≡ more ++ rest =
      ap (drop (length old)) (then ∙ (ap (λ (l : List A). l ++ rest) first ∙ append_assoc old more rest))
      ∙ drop_at old (more ++ rest) (length old) refl in
      let long : length old + length more ≡ length mid =
      let is = ap length first in
      let both = length-append old more in
      omega (arith, is, both) in
      ap (enumerate_from (length old)) all
      ∙ (enumerated_on (length old) more rest
      ∙ ap₂ (λ (l r : List (ℕ × A)). l ++ r) (ap (enumerate_from (length old)) (sym here))
      (ap (λ (n : ℕ). enumerate_from n rest) long ∙ ap (enumerate_from (length mid)) (sym behind)))

  numbered_none : (xs : List A) → numbered_after (length xs) xs ≡ []
  numbered_none xs = ap (enumerate_from (length xs)) (drop_all (length xs) xs (omega arith))

  numbered_one : (xs : List A) (x : A) → numbered_after (length xs) (xs ++ x ∷ []) ≡ (length xs, x) ∷ []
  numbered_one xs x = ap (enumerate_from (length xs)) (drop_at xs (x ∷ []) (length xs) refl)

map_both : {A B : Type 0} (f : A → B) (xs ys : List A) → map f (xs ++ ys) ≡ map f xs ++ map f ys
map_both f [] ys = refl
map_both f (x ∷ xs) ys = ap (λ (rest : List _). f x ∷ rest) (map_both f xs ys)

-- four lists, of which the two in the middle change places
crossed : {A : Type 0} (a b c d : List A) → IsPermutation ((a ++ b) ++ (c ++ d)) ((a ++ c) ++ (b ++ d))
crossed a b c d =
    let left : (a ++ b) ++ (c ++ d) ≡ a ++ ((b ++ c) ++ d) =
    append_assoc a b (c ++ d) ∙ ap (λ (l : List _). a ++ l) (sym (append_assoc b c d)) in
    let right : a ++ ((c ++ b) ++ d) ≡ (a ++ c) ++ (b ++ d) =
    ap (λ (l : List _). a ++ l) (append_assoc c b d) ∙ sym (append_assoc a c (b ++ d)) in
    subst (λ (l : List _). IsPermutation l ((a ++ c) ++ (b ++ d))) (sym left)
    (subst (IsPermutation (a ++ ((b ++ c) ++ d))) right
    (IsPermutation-append_right a ((b ++ c) ++ d) ((c ++ b) ++ d)
    (IsPermutation-append_left d (b ++ c) (c ++ b) (IsPermutation-append_comm b c))))

pub between_on : (old mid new : SharedNames) → AreLater old mid → AreLater mid new
    → IsPermutation (came_between old new) (came_between old mid ++ came_between mid new)
between_on old mid new first then =
    let zone : ℕ × ZoneChange → ℕ × NamesChange = λ entry. (entry.0, OfZones entry.1) in
    let heap : ℕ × NameChange → ℕ × NamesChange = λ entry. (entry.0, OfHeaps entry.1) in
    let zones : map zone (numbered_after (length old.zones) new.zones)
    ≡ map zone (numbered_after (length old.zones) mid.zones) ++ map zone (numbered_after (length mid.zones) new.zones) =
    ap (map zone) (numbered_on old.zones mid.zones new.zones first.zones then.zones)
    ∙ map_both zone (numbered_after (length old.zones) mid.zones) (numbered_after (length mid.zones) new.zones) in
    let heaps : map heap (numbered_after (length old.heaps) new.heaps)
    ≡ map heap (numbered_after (length old.heaps) mid.heaps) ++ map heap (numbered_after (length mid.heaps) new.heaps) =
    ap (map heap) (numbered_on old.heaps mid.heaps new.heaps first.heaps then.heaps)
    ∙ map_both heap (numbered_after (length old.heaps) mid.heaps) (numbered_after (length mid.heaps) new.heaps) in
    subst (λ (l : List (ℕ × NamesChange)). IsPermutation l (came_between old mid ++ came_between mid new))
    (sym (ap₂ (λ (l r : List (ℕ × NamesChange)). l ++ r) zones heaps))
    (crossed (map zone (numbered_after (length old.zones) mid.zones)) (map zone (numbered_after (length mid.zones) new.zones))
    (map heap (numbered_after (length old.heaps) mid.heaps)) (map heap (numbered_after (length mid.heaps) new.heaps)))

none_between : (names : SharedNames) → came_between names names ≡ []
none_between names =
    ap₂ (λ (l : List (ℕ × _)) (r : List (ℕ × _)). map (λ entry. (entry.0, OfZones entry.1)) l ++ map (λ entry. (entry.0, OfHeaps entry.1)) r)
    (numbered_none names.zones) (numbered_none names.heaps)

one_between : (names : SharedNames) (change : NamesChange) → came_between names (names_with names change) ≡ (place_of names change, change) ∷ []
one_between names (OfZones change) =
    ap₂ (λ (l : List (ℕ × _)) (r : List (ℕ × _)). map (λ entry. (entry.0, OfZones entry.1)) l ++ map (λ entry. (entry.0, OfHeaps entry.1)) r)
    (numbered_one names.zones change) (numbered_none names.heaps)
one_between names (OfHeaps change) =
    ap₂ (λ (l : List (ℕ × _)) (r : List (ℕ × _)). map (λ entry. (entry.0, OfZones entry.1)) l ++ map (λ entry. (entry.0, OfHeaps entry.1)) r)
    (numbered_none names.zones) (numbered_one names.heaps change)

-- all that names have came since there was none
pub all_between : (names : SharedNames) → came_between no_changes names ≡ changes_in names
all_between names = refl

-- HOLD BY HOLD

abbrev pub came_in : Hold SharedNames → List (ℕ × NamesChange)
came_in hold = came_between hold.taken hold.given

pub all_came : (first : SharedNames) (holds : List (Hold SharedNames)) (last : SharedNames) → Chain first holds last
    → AllByRecursion GivesLater holds → IsPermutation (came_between first last) (flat_map came_in holds) × AreLater first last
all_came first [] last chain later = (
  subst (λ (names : SharedNames). IsPermutation (came_between first names) []) (sym chain)
      (subst (λ (l : List (ℕ × NamesChange)). IsPermutation l []) (sym (none_between first)) (IsPermutation-refl [])),
  subst (AreLater first) (sym chain) (later_same first),
)
all_came first (hold ∷ holds) last chain later =
    let rest = all_came hold.given holds last chain.1 later.1 in
    let here : AreLater first hold.given = subst (λ (names : SharedNames). AreLater names hold.given) chain.0 later.0 in
    let taken : came_between first hold.given ≡ came_in hold = ap (λ (names : SharedNames). came_between names hold.given) (sym chain.0) in (
      IsPermutation-trans (came_between first last) (came_between first hold.given ++ came_between hold.given last)
          (came_in hold ++ flat_map came_in holds) (between_on first hold.given last here rest.1)
          (subst (λ (l : List (ℕ × NamesChange)). IsPermutation (came_between first hold.given ++ came_between hold.given last) (l ++ flat_map came_in holds))
          taken
          (IsPermutation-append_right (came_between first hold.given) (came_between hold.given last) (flat_map came_in holds) rest.0)),
      later_on first hold.given last here rest.1,
    )

-- OF EACH ITS OWN

flat_map_nothing : {X A : Type 0} (xs : List X) → flat_map {A = A} (λ (x : X). []) xs ≡ []
flat_map_nothing [] = refl
flat_map_nothing (x ∷ xs) = flat_map_nothing xs

-- of a hold more, what came in those of one
own_more : (hold : Hold SharedNames) (holds : List (Hold SharedNames)) (who : ℕ) → flat_map came_in (holds_of who (hold ∷ holds))
    ≡ at_heap hold.who (came_in hold) who ++ flat_map came_in (holds_of who holds)
own_more hold holds who = by_owner (hold.who == who)
  where
    by_owner : (its : Bool) → flat_map came_in (cond its (hold ∷ holds_of who holds) (holds_of who holds))
        ≡ cond its (came_in hold) [] ++ flat_map came_in (holds_of who holds)
    by_owner true = refl
    by_owner false = refl

pub came_by_each : (count : ℕ) (holds : List (Hold SharedNames)) → AllByRecursion (λ hold. hold.who < count) holds
    → IsPermutation (flat_map (λ who. flat_map came_in (holds_of who holds)) (range_with_len 0 count)) (flat_map came_in holds)
came_by_each count [] few =
    subst (λ (l : List (ℕ × NamesChange)). IsPermutation l []) (sym (flat_map_nothing (range_with_len 0 count))) (IsPermutation-refl [])
came_by_each count (hold ∷ holds) few =
    let all = range_with_len 0 count in
    let here = at_heap hold.who (came_in hold) in
    let rest = λ (who : ℕ). flat_map came_in (holds_of who holds) in
    let whole : flat_map (λ who. flat_map came_in (holds_of who (hold ∷ holds))) all ≡ flat_map (λ who. here who ++ rest who) all =
    flat_map_alike (λ who. flat_map came_in (holds_of who (hold ∷ holds))) (λ who. here who ++ rest who) all (own_more hold holds) in
    let first : flat_map here all ≡ came_in hold = picked_once hold.who (came_in hold) 0 count (omega arith) (omega (arith, few.0)) in
    subst (λ (l : List (ℕ × NamesChange)). IsPermutation l (came_in hold ++ flat_map came_in holds)) (sym whole)
    (IsPermutation-trans (flat_map (λ who. here who ++ rest who) all) (flat_map here all ++ flat_map rest all)
    (came_in hold ++ flat_map came_in holds) (flat_map_parts here rest all)
    (subst (λ (l : List (ℕ × NamesChange)). IsPermutation (l ++ flat_map rest all) (came_in hold ++ flat_map came_in holds)) (sym first)
    (IsPermutation-append_right (came_in hold) (flat_map rest all) (flat_map came_in holds) (came_by_each count holds few.1))))

-- LINE BY LINE

-- after a read the changes are made one after another
read_changes : (now : SharedNames) (rest : List Done) → names_read rest ≡ []
    → IsPermutation (changes_from now rest) (came_between now (names_after now rest))
read_changes now [] none =
    subst (IsPermutation []) (sym (none_between now)) (IsPermutation-refl [])
read_changes now (NamesRead names ∷ rest) none = cc
read_changes now (NamesChanged change ∷ rest) none =
    let next = names_with now change in
    let last = names_after next rest in
    let one = came_between now next in
    IsPermutation-trans ((place_of now change, change) ∷ changes_from next rest) (one ++ came_between next last) (came_between now last)
    (subst (λ (l : List (ℕ × NamesChange)). IsPermutation ((place_of now change, change) ∷ changes_from next rest) (l ++ came_between next last))
    (sym (one_between now change))
    (IsPermutation-append_right ((place_of now change, change) ∷ []) (changes_from next rest) (came_between next last)
    (read_changes next rest none)))
    (IsPermutation-sym (came_between now last) (one ++ came_between next last)
    (between_on now next last (later_with now change) (later_after next (filter_map change_made rest))))
read_changes now (_ ∷ rest) none = read_changes now rest none

changes_then : (now : SharedNames) (rest more : List Done) → names_read rest ≡ []
    → changes_from now (rest ++ more) ≡ changes_from now rest ++ changes_from (names_after now rest) more
changes_then now [] more none = refl
changes_then now (NamesRead names ∷ rest) more none = cc
changes_then now (NamesChanged change ∷ rest) more none =
    ap (λ (l : List (ℕ × NamesChange)). (place_of now change, change) ∷ l) (changes_then (names_with now change) rest more none)
changes_then now (_ ∷ rest) more none = changes_then now rest more none

quiet_changes : (known : SharedNames) (rest more : List Done) → names_read rest ≡ [] → filter_map change_made rest ≡ []
    → changes_from known (rest ++ more) ≡ changes_from known more
quiet_changes known [] more none unchanged = refl
quiet_changes known (NamesRead names ∷ rest) more none unchanged = cc
quiet_changes known (NamesChanged change ∷ rest) more none unchanged = cc
quiet_changes known (_ ∷ rest) more none unchanged = quiet_changes known rest more none unchanged

-- a line's changes are what came in its hold
line_changes : (who : ℕ) (known : SharedNames) (trace more : List Done) (came : List (ℕ × NamesChange)) → ReadsFirst trace
    → ((known : SharedNames) → IsPermutation (changes_from known more) came)
    → IsPermutation (changes_from known (trace ++ more)) (flat_map came_in (held_for who trace) ++ came)
line_changes who known [] more came first on = on known
line_changes who known (NamesRead names ∷ rest) more came first on =
    let last = names_after names rest in
    subst (λ (l : List (ℕ × NamesChange)). IsPermutation l (flat_map came_in (held_for who (NamesRead names ∷ rest)) ++ came))
    (sym (changes_then names rest more first))
    (subst (λ (l : List (ℕ × NamesChange)). IsPermutation (changes_from names rest ++ changes_from last more) (l ++ came))
    (sym (append-nil (came_between names last)))
    (IsPermutation-append (changes_from names rest) (came_between names last) (changes_from last more) came (read_changes names rest first)
    (on last)))
line_changes who known (NamesChanged change ∷ rest) more came (none, unchanged) on = cc
line_changes who known (done ∷ rest) more came first on =
    subst (λ (l : List (ℕ × NamesChange)). IsPermutation l came) (sym (quiet_changes known (done ∷ rest) more first.0 first.1)) (on known)

pub lines_changes : (who : ℕ) (courses : List Course) (known : SharedNames) → AllByRecursion (λ course. ReadsFirst course.trace) courses
    → IsPermutation (changes_from known (trace_of courses)) (flat_map came_in (held_in who courses))
lines_changes who [] known first = IsPermutation-refl []
lines_changes who (course ∷ courses) known first =
    subst (IsPermutation (changes_from known (course.trace ++ trace_of courses)))
    (sym (flat_map-append came_in (held_for who course.trace) (held_in who courses)))
    (line_changes who known course.trace (trace_of courses) (flat_map came_in (held_in who courses)) first.0
    (λ known. lines_changes who courses known first.1))

-- ALL TOGETHER

flat_map_moved : {X A : Type 0} (one other : X → List A) (xs : List X) → ((x : X) → IsPermutation (one x) (other x))
    → IsPermutation (flat_map one xs) (flat_map other xs)
flat_map_moved one other [] moved = IsPermutation-refl []
flat_map_moved one other (x ∷ xs) moved =
    IsPermutation-append (one x) (other x) (flat_map one xs) (flat_map other xs) (moved x) (flat_map_moved one other xs moved)

-- the changes of the names are those that the participants' lines made, and no others
pub changes_are_made : (count : ℕ) (courses : ℕ → List Course) (holds : List (Hold SharedNames)) (last : SharedNames)
    → Chain no_changes holds last → AllByRecursion GivesLater holds → AllByRecursion (λ hold. hold.who < count) holds
    → ((who : ℕ) → holds_of who holds ≡ held_in who (courses who))
    → ((who : ℕ) → AllByRecursion (λ course. ReadsFirst course.trace) (courses who))
    → IsPermutation (changes_made count (λ who. trace_of (courses who))) (changes_in last)
changes_are_made count courses holds last chain later few own first =
    let all = range_with_len 0 count in
    let made = changes_made count (λ who. trace_of (courses who)) in
    let came = flat_map (λ who. flat_map came_in (holds_of who holds)) all in
    IsPermutation-trans made came (changes_in last)
    (flat_map_moved (λ who. changes_from no_changes (trace_of (courses who))) (λ who. flat_map came_in (holds_of who holds)) all
    (λ who.
    subst (λ (l : List (Hold SharedNames)). IsPermutation (changes_from no_changes (trace_of (courses who))) (flat_map came_in l)) (sym (own who))
    (lines_changes who (courses who) no_changes (first who))))
    (IsPermutation-trans came (flat_map came_in holds) (changes_in last) (came_by_each count holds few)
    (IsPermutation-sym (came_between no_changes last) (flat_map came_in holds) (all_came no_changes holds last chain later).0))
