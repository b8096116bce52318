-- Turns of all participants in one thread: what they leave, and when nothing is left.
use Rattle.std.proofs.Common.{◌≡◌, ℕ, zero, suc, ◌+◌, ◌-◌, ◌^◌, ◌<◌, ◌≤◌, Bool, true, false, List, [], ◌∷◌, length, Option, Some, None, refl, sym, ap, subst, ◌∙◌, ⊎_elim, arith}
use Rattle.std.specs.Option.{IsSome}
use Rattle.std.specs.Prelude.{⊤}
use Rattle.std.proofs.lemmas.Bool.{cases_lt}
use Rattle.std.proofs.lemmas.Option.{same_Some, slice_get_within}
use Rattle.hp_hall.proofs.AsksOfHalls.Pending.{later_from_pending}
use Rattle.hp_plain.specs.Course.{IsCourse, course_same, course_then, done_same}
use Rattle.hp_plain.specs.HallSteps.{after_pause}
use Rattle.hp_plain.specs.HallView.{HallView, IsHome, part_in, slot_at, taken_from}
use Rattle.hp_serve.specs.Party.{Party}
use Rattle.hp_solo.specs.Draining.{AreEmpty, Drains, HasNoRound, IsDrained, IsLeastDue, IsNoneDue, NeverPasses, TurnsLeave}
use Rattle.hp_solo.specs.Sequence.{Visits}
use Rattle.hp_solo.specs.Solo.{AreLater, IsAtRest, IsBetween, IsLaterAt, IsLaterParty, IsPendingDue, IsQuiet, IsServerAtRest, IsServing, AloneView, SoloView, due_at, has_stopped, party_at, party_in, server_at, solo_measure}
use Rattle.hp_solo.specs.SoloCourse.{later_then, not_before, server_stays}
use Rattle.hp_solo.proofs.SoloEnds.{neither_first, neither_second}
use Rattle.hp_solo.proofs.SoloTurns.{weighs_paused}
use Rattle.hp_solo.proofs.SoloWeights.{servers_due}

pub turns_same : (a : SoloView) → TurnsLeave a a
turns_same a = record {
  course = course_same a.plain;
  later = λ who. server_stays a.plain a.plain who (server_at a.servers who) (λ there. done_same a.plain who);
  taken = λ number. refl;
  home = λ number home. home;
  part = λ who heap. refl;
}

pub turns_then : (a b c : SoloView) → TurnsLeave a b → TurnsLeave b c → TurnsLeave a c
turns_then a b c here next = record {
  course = course_then a.plain b.plain c.plain here.course next.course;
  later = later_then a b c here.course here.later next.later;
  taken = λ number. next.taken number ∙ here.taken number;
  home = λ number home. next.home number (here.home number home);
  part = λ who heap. next.part who heap ∙ here.part who heap;
}

-- some served
pub turns_served : (apart : ℕ → Type 0) (old new : SoloView) → IsServing apart old.plain new.plain → AreLater old new
    → TurnsLeave old new
turns_served apart old new serving later = record {
  course = serving.course;
  later = later;
  taken = serving.taken;
  home = serving.home;
  part = serving.part;
}

-- participant 0 paused
pub turns_paused : (old new : SoloView) (reading : ℕ) → IsCourse old.plain new.plain → AreLater old new
    → new.plain ≡ after_pause 0 false None reading old.plain → TurnsLeave old new
turns_paused old new reading course later same = record {
  course = course;
  later = later;
  taken = λ number. ap (λ (hall : HallView). taken_from (slot_at hall number)) same;
  home = λ number home. subst (λ (hall : HallView). IsHome (slot_at hall number)) (sym same) home;
  part = λ who heap. ap (λ (hall : HallView). part_in hall who heap) same;
}

-- a turn of all in which nothing moved, and then the clock went on to the least deadline, or all is as it was
pub drains_turn : (old mid new : SoloView) (goes : Bool) → (has_stopped mid.servers ≡ false → Visits 0 (length old.servers) old mid)
    → IsQuiet (λ who. ⊤) old mid → (goes ≡ true → IsLeastDue mid.plain.clock mid.servers new.plain.clock)
    → (goes ≡ true → new.plain ≡ after_pause 0 false None new.plain.clock mid.plain) → (goes ≡ false → new ≡ mid)
    → new.servers ≡ mid.servers → has_stopped new.servers ≡ false → (first : SoloView) → Drains first old → Drains first new
drains_turn old mid new true visits quiet least pauses still servers going first drains =
    Drains.jumps first old mid new drains (visits (subst (λ (all : List AloneView). has_stopped all ≡ false) servers going)) quiet (least refl)
    (pauses refl) servers
drains_turn old mid new false visits quiet least pauses still servers going first drains =
    let off : has_stopped mid.servers ≡ false = subst (λ (all : List AloneView). has_stopped all ≡ false) servers going in
    subst (Drains first) (sym (still refl)) (Drains.turns first old mid drains (visits off))

-- a pause until a deadline of somebody uses up one
pub due_falls : (old new : SoloView) (reading : ℕ) → IsPendingDue old.plain.clock old.servers reading
    → new.plain ≡ after_pause 0 false None reading old.plain → new.servers ≡ old.servers → solo_measure new + 1 ≤ solo_measure old
due_falls old new reading due same servers =
    omega (arith, weighs_paused old new 0 false None reading same servers, servers_due old.plain.clock reading old.servers due)

-- one at rest whose deadline is not still to come has none that passes
at_rest : (clock : ℕ) (party : Option Party) → IsAtRest clock party
    → ((due : ℕ) → due_at party ≡ Some due → clock < due → NeverPasses due) → HasNoRound (due_at party)
at_rest clock None rests none due is = cc
at_rest clock (Some party) rests none due is =
    ⊎_elim
    (λ (early : due < 2 ^ 64 - 1). none due is (later_from_pending clock due (rests due is early)))
    (λ (late : 2 ^ 64 - 1 ≤ due). late)
    (cases_lt due (2 ^ 64 - 1))

at_rest_here : (clock : ℕ) (server : AloneView) (place : Option AloneView) → place ≡ Some server → IsServerAtRest clock place → server.stopped ≡ false
    → IsAtRest clock server.party
at_rest_here clock server None is rests going = cc
at_rest_here clock server (Some there) is rests going =
    let same : there ≡ server = cc in
    subst (λ (s : AloneView). s.stopped ≡ false → IsAtRest clock s.party) same rests going

-- where nobody has stopped later on, nobody had before
pub none_stopped : (servers : List AloneView) (who : ℕ) (server : AloneView) → has_stopped servers ≡ false → server_at servers who ≡ Some server
    → server.stopped ≡ false
none_stopped [] who server off is = cc
none_stopped (first ∷ servers) zero server off is =
    subst (λ (s : AloneView). s.stopped ≡ false) (same_Some first server is) (neither_first first.stopped (has_stopped servers) off)
none_stopped (first ∷ servers) (suc who) server off is =
    none_stopped servers who server (neither_second first.stopped (has_stopped servers) off) is

going_before : (a b : HallView) (who : ℕ) (old new : Option AloneView) (server : AloneView) → old ≡ Some server → IsLaterAt a b who old new
    → ((there : AloneView) → new ≡ Some there → there.stopped ≡ false) → server.stopped ≡ false
going_before a b who None new server is later going = cc
going_before a b who (Some old) None server is later going = absurd later
going_before a b who (Some old) (Some new) server is later going =
    subst (λ (s : AloneView). s.stopped ≡ false) (same_Some old server is) (not_before old.stopped new.stopped later.stopped (going new refl))

party_before : (old new : Option Party) → IsLaterParty old new → IsSome new → IsSome old
party_before None None later some = some
party_before None (Some new) later some = absurd later
party_before (Some old) new later some = refl

there_before : (a b : HallView) (who : ℕ) (old new : Option AloneView) → IsLaterAt a b who old new → IsSome (party_in new) → IsSome (party_in old)
there_before a b who None None later some = some
there_before a b who None (Some new) later some = absurd later
there_before a b who (Some old) None later some = cc
there_before a b who (Some old) (Some new) later some = party_before old.party new.party later.party some

there_below : (servers : List AloneView) (who : ℕ) (server : Option AloneView) → server_at servers who ≡ server → IsSome (party_in server)
    → who < length servers
there_below servers who None is some = cc
there_below servers who (Some server) is some = slice_get_within servers who server is

-- where nothing moved, and nobody has stopped, the mailboxes of those who are there are empty
pub empty_at_rest : (old new : SoloView) (count : ℕ) → count ≡ length old.servers → AreLater old new
    → IsQuiet (IsBetween 0 count) old new → has_stopped new.servers ≡ false → AreEmpty new
empty_at_rest old new count is later quiet off who some =
    let before : IsSome (party_at old.servers who) =
    there_before old.plain new.plain who (server_at old.servers who) (server_at new.servers who) (later who) some in
    let below : who < length old.servers = there_below old.servers who (server_at old.servers who) refl before in
    quiet.empty
    (λ number server between there.
    going_before old.plain new.plain number (server_at old.servers number) (server_at new.servers number) server there (later number)
    (λ now is_now. none_stopped new.servers number now off is_now))
    who (omega arith, omega (arith, below, is)) before

-- where all rest, and no deadline is still to come, nothing is left
pub drained : (hall : SoloView) → ((who : ℕ) → IsServerAtRest hall.plain.clock (server_at hall.servers who))
    → IsNoneDue hall.plain.clock hall.servers → (has_stopped hall.servers ≡ false → AreEmpty hall) → IsDrained hall
drained hall rests none empty = record {
  rounds = λ who server there going.
      at_rest hall.plain.clock server.party
      (at_rest_here hall.plain.clock server (server_at hall.servers who) there (rests who) going)
      (λ due is later. none due (who, ap (λ (place : Option AloneView). due_at (party_in place)) there ∙ is, later));
  none_due = none;
  empty = empty;
}
