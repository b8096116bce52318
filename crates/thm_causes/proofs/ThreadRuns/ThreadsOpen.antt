-- Before the first line of a workload its world is quiet, and nothing is owed: its log is empty, and nothing was given up.
use Rattle.std.proofs.Common.{◌≡◌, ◌≢◌, ◌∙◌, ℕ, zero, suc, ◌<◌, ◌≤◌, Bool, true, false, List, [], ◌∷◌, length, map, replicate, Option, Some, None, refl, sym, ap, subst, arith, eq-eqb, ne_eqb, true≢false, ⊎_elim}
use Rattle.std.specs.Prelude.{slice_get, if◌then◌else◌}
use Rattle.std.specs.Option.{option_map}
use Rattle.std.specs.Int.{bit_at}
use Rattle.std.proofs.lemmas.Bool.{cases_lt}
use Rattle.std.proofs.lemmas.List.{length-replicate}
use Rattle.std.proofs.lemmas.Option.{slice_get-map, slice_get_within}
use Rattle.hp_base.specs.declared.limits.TheConstants.{MAX_HEAPS, MAX_PARTICIPANTS}
use Rattle.hp_core.specs.Core.{Core}
use Rattle.hp_core.specs.declared.phase.Phase.TheVariants.{Idle}
use Rattle.hp_frame.specs.declared.frame.Frame.{Frame}
use Rattle.hp_frame.specs.declared.message.Body.{Body}
use Rattle.hp_plain.specs.HallView.{HallView}
use Rattle.hp_plain.specs.Boxes.{box_of}
use Rattle.hp_hall.specs.Own.{Own, after_ack}
use Rattle.hp_hall.proofs.Gives.{has_nothing}
use Rattle.hp_plain.proofs.Opened.{opened_fits, opened_segs}
use Rattle.hp_hall.specs.Views.{HeldHeap}
use Rattle.hp_plain.specs.Opening.{heaps_in}
use Rattle.hp_script.specs.declared.workload.Workload.{Workload}
use Rattle.hp_segs.specs.Opening.{opening_roster}
use Rattle.hp_segs.specs.SegsView.{is_member}
use Rattle.hp_serve.specs.Party.{Party, first_core}
use Rattle.hp_proc.proofs.Unarmed.{all_alike}
use Rattle.hp_solo.specs.Solo.{AloneView, SoloView, has_stopped, party_at, party_in}
use Rattle.thm_run.specs.EndLaws.{IsFirstParty, IsGiven, first_party}
use Rattle.thm_run.specs.SoFar.{AreFirstHeaps, first_hall, first_names, first_segs}
use Rattle.thm_run.proofs.RunFacts.SoFarFacts.{held_many}
use Rattle.thm_run.proofs.SeatFacts.FirstSegs.{armed_first, member_first, nobody_first, present_declared, sound_first}
use Rattle.thm_causes.proofs.Placed.{none_stopped, placed}
use Rattle.thm_causes.specs.RoundTrip.{AreSaid, IsBase, IsInPlace, Setting, RunState, mail_of, number_of_party}
use Rattle.thm_causes.specs.Quiet.{IsQuietOwing, IsQuietState}
use Rattle.thm_causes.specs.Shared.{IsSharedIn, Shared}
use Rattle.thm_causes.specs.Threads.{IsRunStateAt, OpensThread, setting_of}
use Rattle.thm_causes.specs.RunStates.{IsInOrder}
use Rattle.thm_causes.proofs.Told.{unanswered_zero}
use Rattle.thm_causes.specs.Outcomes.{IsApart, unanswered_among}
use Rattle.std.proofs.lemmas.List.Elements.{All-nil}

-- what all share before the first line
abbrev pub first_shared : Workload → Shared
first_shared workload = record {
  segs = first_segs workload;
  boxes = replicate workload.participants [];
  clock = 0;
  numbers = replicate workload.participants 0;
}

-- and the world then
abbrev pub first_world : Workload → List Party → RunState
first_world workload parties =
    record { shared = first_shared workload; mail = replicate workload.participants []; parties = parties }

numbers_first : (count : ℕ) → replicate count 0 ≡ map (λ (own : Own). own.number) (replicate count (after_ack 0))
numbers_first zero = refl
numbers_first (suc count) = ap (λ (rest : List ℕ). 0 ∷ rest) (numbers_first count)

-- no mailbox has anything
said_nothing : (box : List Frame) (bodies : List Body) → box ≡ [] → bodies ≡ [] → AreSaid box bodies
said_nothing box bodies none empty =
    subst (λ (box : List Frame). AreSaid box bodies) (sym none) (subst (λ (bodies : List Body). AreSaid [] bodies) (sym empty) tt)

-- nobody but participant 0 has a coordinator
core_none : (who deadline : ℕ) → who ≢ 0 → first_core who deadline ≡ None
core_none who deadline other =
    ap (λ (first : Bool). if first then Some (record { deadline = deadline; phase = Idle; held = replicate 16 None }) else None)
    (ne_eqb who 0 other)

-- who is in the roster is declared
member_below : (count absent who : ℕ) → is_member (opening_roster count absent) who ≡ true → who < count
member_below count absent who member =
    ⊎_elim (λ (below : who < count). below)
    (λ (beyond : count ≤ who). absurd (true≢false (sym member ∙ nobody_first count absent who beyond)))
    (cases_lt who count)

-- ITS PARTICIPANTS

module _ (workload : Workload) (given : IsGiven workload) (parties : List Party) (count : length parties ≡ workload.participants)
    (each : (who : ℕ) (party : Party) → slice_get parties who ≡ Some party
    → IsFirstParty workload who party × (party.plan ≡ workload.plan.items)) where
  abbrev set : Setting
  set = setting_of workload

  abbrev world : RunState
  world = first_world workload parties

  number_none : (who : ℕ) → 0 ≡ number_of_party world who
  number_none who = sym (all_alike 0 workload.participants who)

  in_place : (who : ℕ) (party : Party) → slice_get parties who ≡ Some party → IsInPlace set world who party
  in_place who party there =
      let first : IsFirstParty workload who party = (each who party there).0 in
      let below : who < workload.participants = omega (arith, slice_get_within parties who party there, count) in
      let few : who < 16 = omega (arith, below, given.few) in
      let is : party ≡ first_party workload who first.maps first.plan = first.is in
      let number : party.maps.number ≡ 0 = ap (λ (party : Party). party.maps.number) is ∙ first.number in
      record {
        me = ap (λ (party : Party). party.me) is;
        deadline = ap (λ (party : Party). party.deadline) is;
        plan = (each who party there).1;
        joined = member_first workload.participants workload.absent who few ∙ sym (ap (λ (party : Party). party.joined) is);
        number = λ joined. number ∙ number_none who;
        within = subst (λ (n : ℕ). n ≤ 0) (number_none who) (omega arith);
        granted = λ joined entry generation contains is. absurd (has_nothing entry contains);
        failed = refl;
        closed = omega arith;
        follower = λ other. ap (λ (party : Party). party.core) is ∙ core_none who workload.deadline other;
        syncs = ap (λ (party : Party). length party.sent.syncs) is;
      }

  base : IsBase set world
  base = record {
    boxes = length-replicate workload.participants [];
    numbers = length-replicate workload.participants 0;
    mail = length-replicate workload.participants [];
    parties = count;
    said = λ who.
        said_nothing (box_of world.shared.boxes who) (mail_of world who) (all_alike [] workload.participants who)
        (all_alike [] workload.participants who);
    sound = sound_first workload.pools.items workload.participants workload.absent given.pools given.primary given.present;
    armed = armed_first workload.pools.items workload.participants workload.absent;
    primary = member_first workload.participants workload.absent 0 (omega arith)
        ∙ present_declared workload.participants workload.absent 0 given.primary
        ∙ eq-eqb (bit_at workload.absent 0) 0 given.present;
    declared = λ who member. member_below workload.participants workload.absent who member;
    places = in_place;
    noted = λ cause none. cc;
    excused = λ who primary party first there. record { late = omega arith; withdrawn = omega arith };
    apart = All-nil (IsApart set.deadline);
  }

  idle_first : (primary : Party) → slice_get parties 0 ≡ Some primary → (core : Core) × (primary.core ≡ Some core)
      × (core.deadline ≡ set.deadline) × (core.phase ≡ Idle) × (core.held ≡ replicate 16 None)
  idle_first primary there =
      let is = (each 0 primary there).0.is in (
        record { deadline = workload.deadline; phase = Idle; held = replicate 16 None },
        ap (λ (party : Party). party.core) is,
        refl,
        refl,
        refl,
      )

  -- all have taken in all records: there are none
  quiet : IsQuietState set world
  quiet = record {
    base = base;
    idle = idle_first;
    growth = refl;
    empty = λ who. all_alike [] workload.participants who;
    doubled = λ who party there. omega arith;
    told = λ who party there.
        let asked : party.asked ≡ 0 = ap (λ (party : Party). party.asked) (each who party there).0.is in
        let none : unanswered_among [] who party.asked ≡ unanswered_among [] who 0 = ap (unanswered_among [] who) asked in
        omega (arith, none, unanswered_zero [] who);
    in_time = λ who party there.
        record { before = omega arith; still = λ number some within heard. absurd (omega (arith, some, within)) };
    level = λ nothing who member. sym (number_none who);
  }

  pub quiet_first : IsQuietOwing set false world
  quiet_first = record { quiet = quiet; gone = λ nothing owes. refl }

-- THE HALL

in_order_first : (workload : Workload) (held : List HeldHeap) → AreFirstHeaps workload (heaps_in held)
    → workload.participants ≤ MAX_PARTICIPANTS → IsInOrder (first_hall workload held)
in_order_first workload held first few = record {
  fits = opened_fits (first_segs workload) (first_names workload) held first.in_order;
  boxes = length-replicate workload.participants [] ∙ sym (length-replicate workload.participants (after_ack 0));
  few = omega (arith, few, length-replicate workload.participants (after_ack 0));
}

-- a hall of a workload before its first line is that world
pub at_first : (workload : Workload) (first : SoloView) → workload.participants ≤ MAX_PARTICIPANTS → (opens : OpensThread workload first)
    → IsRunStateAt first (first_world workload opens.parties)
at_first workload first few opens = record {
  shared = subst (λ (hall : HallView). IsSharedIn hall (first_shared workload)) (sym opens.plain)
      (record {
        segs = opened_segs (first_segs workload) (first_names workload) opens.held MAX_HEAPS
            (sym (held_many opens.held) ∙ opens.first_heaps.in_order.count);
        boxes = refl;
        clock = refl;
        numbers = numbers_first workload.participants;
      });
  order = subst IsInOrder (sym opens.plain) (in_order_first workload opens.held opens.first_heaps few);
  going = none_stopped (λ who. []) first.servers opens.parties opens.are;
  all = λ who. sym (placed (λ who. []) first.servers opens.parties opens.are who);
}
