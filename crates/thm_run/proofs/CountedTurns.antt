-- Whatever order posts and holds have, each ask and each notice stands in its participant's trace at its number: each deed leaves the number
-- of the seat that of its trace, since an ask takes the next one.
use Rattle.std.proofs.Common.{◌≡◌, ◌⊎◌, ◌∙◌, ℕ, ◌+◌, ◌≤◌, List, [], ◌∷◌, drop, length, max, Some, None, Contains, inl, inr, refl, ap, sym, subst, arith}
use Rattle.std.specs.Prelude.{slice_get, slice_index_or, slice_set}
use Rattle.std.specs.List.{All}
use Rattle.std.proofs.lemmas.List.{drop_at}
use Rattle.std.proofs.lemmas.List.Elements.{All-cons, All-head, All-nil, All-tail, Contains-append_cases}
use Rattle.std.proofs.lemmas.Option.{same_Some}
use Rattle.hp_core.specs.declared.event.CoreEvent.TheVariants.{SelfMapped}
use Rattle.hp_heap.proofs.AllocFacts.ChoiceLaw.{Contains-none}
use Rattle.hp_serve.specs.Asking.{ask_of}
use Rattle.hp_segs.specs.GrowthLaws.{HasArmedGrowth}
use Rattle.hp_segs.specs.LaterSteps.{after_withdraw, armed_ask}
use Rattle.hp_segs.specs.SegsView.{SegsView, closed_number}
use Rattle.hp_segs.specs.Sound.{IsSound}
use Rattle.hp_segs.specs.declared.ask.Ask.{Ask}
use Rattle.hp_segs.specs.declared.outcome.AskLog.{AskLog}
use Rattle.hp_segs.specs.declared.outcome.Outcome.TheVariants.{Freed}
use Rattle.hp_weave.specs.Deeds.{Deed, Gathering, Runs, Turn, after_deed, deeds_of, holds_among}
use Rattle.hp_weave.specs.Holds.{Hold}
use Rattle.thm_run.proofs.PathSteps.ApartByLines.{armed_set}
use Rattle.thm_run.proofs.AfterLemmas.{handles_behind}
use Rattle.thm_run.proofs.ClosedLow.{AreCounted, closed_low}
use Rattle.thm_run.proofs.Following.{attaching_leaves, catching_leaves}
use Rattle.thm_run.proofs.InTurnByHolds.HoldsOn.{answers_armed, others_armed}
use Rattle.thm_run.proofs.Leaving.{claim_leaves, withdraw_leaves}
use Rattle.thm_run.proofs.SeatFacts.LogAlong.{core_logged}
use Rattle.thm_run.proofs.SeatFacts.Seating.{IsSeatAfter, its_seat, seat_behind}
use Rattle.thm_run.proofs.TracesTold.ToldAbove.{AreDeeds, Moves, alone_more, deed_rises, seat_after, seat_before, seat_now}
use Rattle.thm_run.proofs.TracesTold.ToldNumbers.{HoldMore, IsTold, IsToldFirst, MailMore, hold_more, told_first, told_in}
use Rattle.thm_run.specs.Apart.{IsDeed}
use Rattle.thm_run.specs.Seats.{Handles, Seat}
use Rattle.thm_run.specs.Told.{CountedAtLast, IsCounted, LeavesCounted, NumbersByTold}

module _ (count : ℕ) (last : Gathering Seat SegsView) where
  -- who held the value is armed as before, or with an ask of the number that it came to
  own_armed : {who : ℕ} {old new : Seat} {taken given : SegsView} → Handles count who old new taken given → HasArmedGrowth taken → (ask : Ask)
      → armed_ask given who ≡ Some ask → (armed_ask taken who ≡ Some ask) ⊎ (ask.number ≡ new.party.asked)
  own_armed (Handles.looks seat segs) growth ask is = inl is
  own_armed (Handles.moves_ranges seat segs ranges moves) growth ask is = inl is
  own_armed {who} (Handles.steps seat segs event core zero has knows denied may) growth ask is =
      inl (sym (ap (λ armed. slice_index_or armed who None) (core_logged denied event core segs growth).armed) ∙ is)
  own_armed {who} (Handles.maps seat segs caught table now core zero has up) growth ask is =
      inl (sym (ap (λ armed. slice_index_or armed who None) (core_logged None (SelfMapped caught now) core segs growth).armed) ∙ is)
  own_armed {who} (Handles.follows seat segs caught table member up) growth ask is =
      inl (sym (ap (λ armed. slice_index_or armed who None) (catching_leaves who caught segs).armed) ∙ is)
  own_armed {who} (Handles.arms seat segs asked run number next) growth ask is =
      armed_set segs.armed who (ask_of who number asked)
      (λ other one. (armed_ask segs other ≡ Some one) ⊎ (one.number ≡ number)) (inr refl) (λ other one is. inl is) who ask is
  own_armed {who} (Handles.claims seat segs) growth ask is =
      inl (sym (ap (λ armed. slice_index_or armed who None) (claim_leaves who seat.party.asked segs).armed) ∙ is)
  own_armed {who} (Handles.settles seat segs since now late) growth ask is =
      let mid = after_withdraw who seat.party.asked since now segs in
      inl (sym (ap (λ armed. slice_index_or armed who None)
      ((claim_leaves who seat.party.asked mid).armed ∙ (withdraw_leaves segs who seat.party.asked since now).armed)) ∙ is)
  own_armed (Handles.cuts seat segs heap addr run) growth ask is = inl is
  own_armed {who} (Handles.attaches seat segs caught after tried) growth ask is =
      inl (sym (ap (λ armed. slice_index_or armed who None) (attaching_leaves who caught segs).armed) ∙ is)
  own_armed (Handles.detaches seat segs told secondary none heard) growth ask is = inl is

  -- a seat has come from one that had taken no more numbers
  record CameFrom (at : Gathering Seat SegsView) (who : ℕ) (seat : Seat) : Type 0 where
    pub before : Seat
    pub there : slice_get at.seats who ≡ Some before
    pub rises : before.party.asked ≤ seat.party.asked

  module _ (who : ℕ) (deed : Deed Seat SegsView) (turns : List (Turn Seat SegsView)) (at : Gathering Seat SegsView)
      (moved : Moves at (record { who = who; deed = deed })) (did : IsDeed count who deed)
      (was : AreCounted count last (record { who = who; deed = deed } ∷ turns) at) (left : LeavesCounted deed) where
    abbrev now : Gathering Seat SegsView
    now = after_deed who deed at

    came_from : (other : ℕ) (seat : Seat) → slice_get now.seats other ≡ Some seat → CameFrom at other seat
    came_from other seat is = by_seat (seat_now at (record { who = who; deed = deed }) moved other seat is)
      where
        by_seat : IsSeatAfter at.seats who (seat_after deed) other seat → CameFrom at other seat
        by_seat (IsSeatAfter.its same new) = record {
          before = seat_before deed;
          there = ap (slice_get at.seats) same ∙ moved.there;
          rises = subst (λ (seat : Seat). (seat_before deed).party.asked ≤ seat.party.asked) (sym new) (deed_rises count who deed did);
        }
        by_seat (IsSeatAfter.apart beside stood) = record { before = seat; there = stood; rises = omega arith }

    counted_now : (other : ℕ) (seat : Seat) → slice_get now.seats other ≡ Some seat → IsCounted seat
    counted_now other seat is = by_seat (seat_now at (record { who = who; deed = deed }) moved other seat is)
      where
        its_left : (deed : Deed Seat SegsView) → LeavesCounted deed → IsCounted (seat_after deed)
        its_left (Deed.Alone old new) left = left
        its_left (Deed.Holding old new taken given) left = left

        by_seat : IsSeatAfter at.seats who (seat_after deed) other seat → IsCounted seat
        by_seat (IsSeatAfter.its same new) = subst IsCounted (sym new) (its_left deed left)
        by_seat (IsSeatAfter.apart beside stood) = was.counted other seat stood

    freed_now : (entry : AskLog) (generation : ℕ) (seat : Seat) → Contains last.value.asks entry → entry.outcome ≡ Freed generation
        → slice_get now.seats entry.from ≡ Some seat
        → (entry.number ≤ seat.party.asked) ⊎ IsTold entry.number (deeds_of entry.from turns)
    freed_now entry generation seat among is there =
        let from = came_from entry.from seat there in
        elim (was.freed entry generation from.before among is from.there) [
          | inl low ↦ inl (omega (arith, low, from.rises))
          | inr told ↦ by_first (told_first entry.from entry.number (record { who = who; deed = deed }) turns told)
        ]
      where
        in_own : (deed : Deed Seat SegsView) → IsTold entry.number (deed ∷ deeds_of entry.from turns)
            → ((seat_after deed).party.asked ≡ entry.number) ⊎ IsTold entry.number (deeds_of entry.from turns)
        in_own _ (IsTold.here old new deeds before after) = inl after
        in_own _ (IsTold.later deed deeds rest) = inr rest

        new_seat : who ≡ entry.from → seat_after deed ≡ seat
        new_seat mine =
            same_Some (seat_after deed) seat
            (sym (its_seat at.seats who (seat_before deed) (seat_after deed) moved.there)
            ∙ (ap (slice_get (slice_set at.seats who (seat_after deed))) mine
            ∙ (ap (λ seats. slice_get seats entry.from) (sym moved.seats) ∙ there)))

        by_first : IsToldFirst entry.from entry.number (record { who = who; deed = deed }) turns
            → (entry.number ≤ seat.party.asked) ⊎ IsTold entry.number (deeds_of entry.from turns)
        by_first (IsToldFirst.own mine first) = elim (in_own deed first) [
          | inl now_is ↦ (let same = ap (λ (seat : Seat). seat.party.asked) (new_seat mine) in inl (omega (arith, now_is, same)))
          | inr rest ↦ inr rest
        ]
        by_first (IsToldFirst.other beside rest) = inr rest

  -- by itself
  alone_on : (who : ℕ) (old new : Seat) (turns : List (Turn Seat SegsView)) (at : Gathering Seat SegsView)
      → Moves at (record { who = who; deed = Deed.Alone old new }) → IsDeed count who (Deed.Alone old new)
      → AreCounted count last (record { who = who; deed = Deed.Alone old new } ∷ turns) at → IsCounted new
      → AreCounted count last turns (after_deed who (Deed.Alone old new) at)
  alone_on who old new turns at moved did was left = record {
    armed = λ other seat ask there is.
        let from = came_from who (Deed.Alone old new) turns at moved did was left other seat there in
        omega (arith, was.armed other from.before ask from.there is, from.rises);
    kept = λ entry ask seat among is there.
        let from = came_from who (Deed.Alone old new) turns at moved did was left entry.from seat there in
        omega (arith, was.kept entry ask from.before among is from.there, from.rises);
    freed = freed_now who (Deed.Alone old new) turns at moved did was left;
    counted = counted_now who (Deed.Alone old new) turns at moved did was left;
  }

  -- with the value
  module _ (who : ℕ) (old new : Seat) (taken given : SegsView) (turns : List (Turn Seat SegsView)) (at : Gathering Seat SegsView)
      (moved : Moves at (record { who = who; deed = Deed.Holding old new taken given })) (taken_is : taken ≡ at.value)
      (did : Handles count who old new taken given) (growth : HasArmedGrowth taken)
      (was : AreCounted count last (record { who = who; deed = Deed.Holding old new taken given } ∷ turns) at) (left : IsCounted new) where
    abbrev holding : Deed Seat SegsView
    holding = Deed.Holding old new taken given

    armed_taken : (other : ℕ) (seat : Seat) (ask : Ask) → slice_get at.seats other ≡ Some seat → armed_ask taken other ≡ Some ask
        → ask.number ≤ seat.party.asked
    armed_taken other seat ask there is = was.armed other seat ask there (ap (λ value. armed_ask value other) (sym taken_is) ∙ is)

    armed_now : (other : ℕ) (seat : Seat) (ask : Ask) → slice_get (after_deed who holding at).seats other ≡ Some seat
        → armed_ask given other ≡ Some ask → ask.number ≤ seat.party.asked
    armed_now other seat ask there is = by_seat (seat_now at (record { who = who; deed = holding }) moved other seat there)
      where
        by_seat : IsSeatAfter at.seats who new other seat → ask.number ≤ seat.party.asked
        by_seat (IsSeatAfter.its same its_new) =
            let asked = ap (λ (seat : Seat). seat.party.asked) its_new in
            elim (own_armed did growth ask (ap (armed_ask given) (sym same) ∙ is)) [
              | inl before ↦
                  omega (
                    arith,
                    armed_taken who old ask moved.there before,
                    deed_rises count who holding did,
                    asked,
                  )
              | inr next ↦ omega (arith, next, asked)
            ]
        by_seat (IsSeatAfter.apart beside stood) =
            armed_taken other seat ask stood (sym (others_armed did growth other beside) ∙ is)

    kept_now : (entry : AskLog) (ask : Ask) (seat : Seat) → Contains given.asks entry → entry.ask ≡ Some ask
        → slice_get (after_deed who holding at).seats entry.from ≡ Some seat → ask.number ≤ seat.party.asked
    kept_now entry ask seat among is there =
        let from = came_from who holding turns at moved did was left entry.from seat there in
        let later = handles_behind did in
        elim (Contains-append_cases taken.asks later.others entry (subst (λ asks. Contains asks entry) later.asks among)) [
          | inl early ↦
              omega (
                arith,
                was.kept entry ask from.before (subst (λ (value : SegsView). Contains value.asks entry) taken_is early) is from.there,
                from.rises,
              )
          | inr late ↦
              let behind : drop (length taken.asks) given.asks ≡ later.others =
              ap (drop (length taken.asks)) later.asks ∙ drop_at taken.asks later.others (length taken.asks) refl in
              let armed = answers_armed did growth entry ask (subst (λ asks. Contains asks entry) (sym behind) late) is in
              omega (arith, armed_taken entry.from from.before ask from.there armed, from.rises)
        ]

    holding_on : AreCounted count last turns (after_deed who holding at)
    holding_on = record {
      armed = armed_now;
      kept = kept_now;
      freed = freed_now who holding turns at moved did was left;
      counted = counted_now who holding turns at moved did was left;
    }

  -- ALL TURNS

  alone_left : (old new : Seat) → MailMore old new → IsCounted old → IsCounted new
  alone_left old new (MailMore.none more) was = omega (arith, more.asked, more.numbered, was)
  alone_left old new (MailMore.one more) was = omega (arith, more.asked, more.numbered, was)

  holding_left : (who : ℕ) (old new : Seat) (taken : SegsView) → HoldMore who old new taken
      → (new.party.asked ≡ max old.party.asked (closed_number taken.asks who) + 1 → closed_number taken.asks who ≤ old.party.asked)
      → IsCounted old → IsCounted new
  holding_left who old new taken (HoldMore.none more) low was = omega (arith, more.asked, more.numbered, was)
  holding_left who old new taken (HoldMore.arms asked numbered) low was = omega (arith, asked, numbered, was, low asked)

  module _ (sound : IsSound last.value) where
    all_counted : (turns : List (Turn Seat SegsView)) (at : Gathering Seat SegsView) → Runs at turns last → AreDeeds count turns
        → All (λ (hold : Hold SegsView). HasArmedGrowth hold.taken) (holds_among turns) → AreCounted count last turns at
        → All (λ (turn : Turn Seat SegsView). LeavesCounted turn.deed) turns
    all_counted [] at runs did armed was = All-nil (λ (turn : Turn Seat SegsView). LeavesCounted turn.deed)
    all_counted (turn ∷ turns) at runs did armed was =
        by_deed turn.who turn.deed runs did armed was
        (λ armed was. all_counted turns (after_deed turn.who turn.deed at) runs.1
        (All-tail (λ (turn : Turn Seat SegsView). IsDeed count turn.who turn.deed) turn turns did) armed was)
      where
        by_deed : (who : ℕ) (deed : Deed Seat SegsView) → Runs at (record { who = who; deed = deed } ∷ turns) last
            → AreDeeds count (record { who = who; deed = deed } ∷ turns)
            → All (λ (hold : Hold SegsView). HasArmedGrowth hold.taken) (holds_among (record { who = who; deed = deed } ∷ turns))
            → AreCounted count last (record { who = who; deed = deed } ∷ turns) at
            → (All (λ (hold : Hold SegsView). HasArmedGrowth hold.taken) (holds_among turns) → AreCounted count last turns (after_deed who deed at)
            → All (λ (turn : Turn Seat SegsView). LeavesCounted turn.deed) turns)
            → All (λ (turn : Turn Seat SegsView). LeavesCounted turn.deed) (record { who = who; deed = deed } ∷ turns)
        by_deed who (Deed.Alone old new) runs did armed was further =
            let its = All-head (λ (turn : Turn Seat SegsView). IsDeed count turn.who turn.deed) (record { who = who; deed = Deed.Alone old new })
            turns did in
            let left = alone_left old new (alone_more count who old new its) (was.counted who old runs.0) in
            All-cons (λ (turn : Turn Seat SegsView). LeavesCounted turn.deed) (record { who = who; deed = Deed.Alone old new }) turns left
            (further armed (alone_on who old new turns at (record { there = runs.0; seats = refl }) its was left))
        by_deed who (Deed.Holding old new taken given) runs did armed was further =
            let its = All-head (λ (turn : Turn Seat SegsView). IsDeed count turn.who turn.deed)
            (record { who = who; deed = Deed.Holding old new taken given }) turns did in
            let hold : Hold SegsView = record { who = who; taken = taken; given = given } in
            let growth = All-head (λ (hold : Hold SegsView). HasArmedGrowth hold.taken) hold (holds_among turns) armed in
            let left = holding_left who old new taken (hold_more its)
            (λ asked. closed_low count last who old new taken given turns at runs did sound was asked) (was.counted who old runs.0.0) in
            All-cons (λ (turn : Turn Seat SegsView). LeavesCounted turn.deed) (record { who = who; deed = Deed.Holding old new taken given })
            turns left
            (further (All-tail (λ (hold : Hold SegsView). HasArmedGrowth hold.taken) hold (holds_among turns) armed)
            (holding_on who old new taken given turns at (record { there = runs.0.0; seats = refl }) runs.0.1 its growth was left))

pub numbers_by_told : NumbersByTold
numbers_by_told count first last steps holds came unasked armed sound told =
    all_counted count last sound came.turns first came.runs came.deeds
    (subst (All (λ (hold : Hold SegsView). HasArmedGrowth hold.taken)) (sym came.held) armed) (record {
      armed = λ who seat ask there is. absurd (never ask (sym (unasked.unarmed who) ∙ is));
      kept = λ entry ask seat among is there. absurd (Contains-none entry (subst (λ asks. Contains asks entry) unasked.none among));
      freed = λ entry generation seat among is there.
          inr (told_in count entry.from entry.number (deeds_of entry.from came.turns) (steps entry.from) (came.own entry.from)
          (told entry generation among is));
      counted = unasked.counted;
    })
  where
    never : (ask : Ask) → None ≡ Some ask → ⊥
    never ask same = cc

-- SEATS AT LAST

-- where each deed leaves its seat so, each seat is so at last
seats_counted : (turns : List (Turn Seat SegsView)) (at last : Gathering Seat SegsView) → Runs at turns last
    → All (λ (turn : Turn Seat SegsView). LeavesCounted turn.deed) turns
    → ((who : ℕ) (seat : Seat) → slice_get at.seats who ≡ Some seat → IsCounted seat) → (who : ℕ) (seat : Seat)
    → slice_get last.seats who ≡ Some seat → IsCounted seat
seats_counted [] at last runs left was = λ who seat there.
    was who seat (ap (λ (at : Gathering Seat SegsView). slice_get at.seats who) (sym runs) ∙ there)
seats_counted (turn ∷ turns) at last runs left was =
    by_deed turn.who turn.deed runs (All-head (λ (turn : Turn Seat SegsView). LeavesCounted turn.deed) turn turns left)
    (λ next on now. seats_counted turns next last on (All-tail (λ (turn : Turn Seat SegsView). LeavesCounted turn.deed) turn turns left) now)
  where
    on : (who : ℕ) (old new : Seat) → slice_get at.seats who ≡ Some old → IsCounted new → (other : ℕ) (seat : Seat)
        → slice_get (slice_set at.seats who new) other ≡ Some seat → IsCounted seat
    on who old new there counted other seat is = by_seat (seat_behind at.seats who old new there other seat is)
      where
        by_seat : IsSeatAfter at.seats who new other seat → IsCounted seat
        by_seat (IsSeatAfter.its same its_new) = subst IsCounted (sym its_new) counted
        by_seat (IsSeatAfter.apart beside stood) = was other seat stood

    by_deed : (who : ℕ) (deed : Deed Seat SegsView) → Runs at (record { who = who; deed = deed } ∷ turns) last → LeavesCounted deed
        → ((next : Gathering Seat SegsView) → Runs next turns last
        → ((other : ℕ) (seat : Seat) → slice_get next.seats other ≡ Some seat → IsCounted seat) → (other : ℕ) (seat : Seat)
        → slice_get last.seats other ≡ Some seat → IsCounted seat) → (other : ℕ) (seat : Seat) → slice_get last.seats other ≡ Some seat
        → IsCounted seat
    by_deed who (Deed.Alone old new) runs here further =
        further (after_deed who (Deed.Alone old new) at) runs.1 (on who old new runs.0 here)
    by_deed who (Deed.Holding old new taken given) runs here further =
        further (after_deed who (Deed.Holding old new taken given) at) runs.1 (on who old new runs.0.0 here)

pub counted_at_last : CountedAtLast
counted_at_last count first last steps holds came unasked armed sound told =
    seats_counted came.turns first last came.runs (numbers_by_told count first last steps holds came unasked armed sound told) unasked.counted
