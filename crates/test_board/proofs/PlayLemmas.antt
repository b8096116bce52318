-- What the turns of participants that grow by hand rest on: what is kept when the segment value is taken, while it is in hand, and when it is given.
use Rattle.std.proofs.Common.{◌≡◌, ◌∙◌, ℕ, zero, suc, ◌<◌, ◌≤◌, true, false, not, eqb, eq-eqb, List, [], ◌∷◌, ◌++◌, drop, length, map, get_or, replicate, set, Option, Some, None, refl, sym, ap, subst, arith}
use Rattle.std.specs.Prelude.{OnErr, OnOk, Result, Ok, Err, unwrap_or}
use Rattle.std.specs.Result.{is_err}
use Rattle.std.proofs.lemmas.Bool.{cond-true, false≢true}
use Rattle.std.proofs.lemmas.List.{append-nil, get_or-set_other, get_or-set_same}
use mathlib.Core.Logic.{dite}
use native.Mathlib.Decide.{ℕ_discrete}
use Rattle.atomic_table.specs.Seated.{TableId}
use Rattle.hp_heap.specs.declared.entry.Entry.{Entry}
use Rattle.hp_log.specs.declared.log_record.LogRecord.{LogRecord}
use Rattle.hp_segs.specs.SegsView.{SegsView, is_member}
use Rattle.hp_segs.specs.Sound.{IsSound}
use Rattle.hp_segs.specs.Standing.{Holding, standing_of}
use Rattle.hp_maps.specs.MapsView.{MapsView}
use Rattle.hp_hall.specs.Giving.{GivesSegments}
use Rattle.hp_board.specs.Giving.{IsGiveAt}
use Rattle.hp_hall.specs.Holding.{AreStanding, StandsFor}
use Rattle.hp_hall.specs.Views.{HeldHeap}
use Rattle.hp_hall.specs.Own.{Own, after_ack, after_partial}
use Rattle.hp_hall.specs.Standings.{LeavesStanding}
use Rattle.hp_hall.specs.Values.{HasMember, history_of}
use Rattle.hp_hall.specs.declared.kept.Kept.{Kept}
use Rattle.hp_hall.specs.declared.kept.Kept.TheVariants.{Heap, Segments}
use Rattle.hp_board.proofs.OwnershipFacts.GivenTaken.{gives_at}
use Rattle.hp_serve.specs.Tied.{IsTied, no_chunks, own_after}
use Rattle.hp_core.specs.Following.{after_catching}
use Rattle.hp_core.specs.Giving.{OnlyNotes}
use Rattle.hp_core.proofs.GivingLemmas.{catches_note}
use Rattle.hp_base.specs.Mapping.{is_done}
use Rattle.hp_base.specs.declared.caught.Caught.{Caught}
use Rattle.hp_base.specs.declared.caught.Caught.TheVariants.{Done, Refused, Elsewhere}
use Rattle.hp_serve.proofs.AskingFacts.Noting.{as_it_was, catching_leaves, leaves_itself, noted_gives}
use Rattle.hp_serve.proofs.Tying.{tied_along}
use Rattle.hp_board.specs.Handed.{GoesOnFrom, HasTakenLater, IsHanded}
use Rattle.hp_board.specs.KeptValues.{IsKeptAt, entries_added}
use Rattle.hp_board.specs.Knowing.{heap_part, knows_of}
use Rattle.hp_board.specs.declared.opening.Opening.{Opening}
use Rattle.hp_board.specs.SeatView.{SeatView}
use Rattle.hp_board.specs.Views.{after_acking, after_give, after_load, after_unmapping, asks_heard, claims_later, claims_taken, holdings_taken, log_seen, noted_of, own_of, under, value_of, without}
use Rattle.hp_board.specs.declared.view.Mine.{Mine}
use Rattle.hp_board.proofs.Loads.{noted_else, noted_here}
use Rattle.hp_board.proofs.Pairs.{value_of-here}
use Rattle.test_board.specs.Playing.{HasComeOn, HasGiven, HasSegs, HasTurned, HoldsSegs, IsNotedIn, IsPlaying}

-- TAKING

module _ (board : TableId) (old new : SeatView) (maps : MapsView) (kept : Kept) (segs : SegsView) (playing : IsPlaying board old maps) (here : new.board ≡ old.board)
    (handed : IsHanded old.mine 32 kept new.mine) (takes : HasTakenLater 32 kept old.mine new.mine) (is : kept ≡ Segments segs) where
  who_same : new.mine.who ≡ old.mine.who
  who_same = ap (λ (m : Mine). m.who) takes.view.1

  log_whole : new.mine.log ≡ segs.log
  log_whole = ap (λ (m : Mine). m.log) takes.view.1 ∙ ap (λ (k : Kept). log_seen k old.mine.log) is

  own_same : own_of new.mine ≡ own_of old.mine
  own_same = ap (λ (m : Mine). own_of m) takes.view.1

  front : GoesOnFrom old.mine (Segments segs)
  front = subst (GoesOnFrom old.mine) is handed.front

  tied_new : IsTied segs.log (own_of new.mine) no_chunks true maps
  tied_new =
      subst (λ (own : Own). IsTied segs.log own no_chunks true maps) (sym own_same)
      (tied_along old.mine.log segs.log front.0.0 (own_of old.mine) no_chunks true maps front.0.1 playing.tied)

  standing : AreStanding old.mine.who (heap_part new.mine) segs
  standing = subst (StandsFor old.mine.who (heap_part new.mine)) is handed.stands

  member : is_member segs.roster old.mine.who ≡ old.mine.joined
  member = subst (HasMember old.mine.who old.mine.joined) is handed.roster

  pub took_holds : IsSound segs → HoldsSegs board segs new maps
  took_holds sound = record {
    playing = record {
      board_is = here ∙ playing.board_is;
      three = ap (λ (m : Mine). m.opening.participants) takes.view.1 ∙ playing.three;
      joined = ap (λ (m : Mine). m.joined) takes.view.1 ∙ playing.joined;
      tied = subst (λ (log : List LogRecord). IsTied log (own_of new.mine) no_chunks true maps) (sym log_whole) tied_new;
    };
    sound = sound;
    holds = ap (λ (m : Mine). value_of 32 m.held) takes.view.1 ∙ ap (λ (k : Kept). Some k) is;
    log = log_whole;
    heard = ap (λ (m : Mine). m.heard) takes.view.1 ∙ ap (λ (k : Kept). asks_heard k old.mine.heard) is;
    member = ap (is_member segs.roster) who_same ∙ (member ∙ playing.joined);
    standing = subst (λ (w : ℕ). AreStanding w (heap_part new.mine) segs) (sym who_same) standing;
  }

  pub took_has : HasSegs old.mine segs new.mine
  took_has = record {
    who = who_same;
    held = ap (λ (m : Mine). m.held) takes.view.1 ∙ ap (λ (k : Kept). (32, k) ∷ old.mine.held) is;
    holdings = ap (λ (m : Mine). m.holdings) takes.view.1 ∙ ap (λ (k : Kept). holdings_taken 32 k takes.learned.holding old.mine.holdings) is;
    claims = ap (λ (m : Mine). m.claims) takes.view.1 ∙ ap (λ (k : Kept). claims_taken k takes.learned old.mine.claims) is;
    armed = ap (λ (m : Mine). m.armed) takes.view.1;
    made = ap (λ (m : Mine). m.made) takes.view.1;
  }

-- IN HAND

pub come_none : (mine : Mine) → HasComeOn mine mine
come_none mine = (mine.number, mine.unmapped, mine.joining, mine.noted, refl)

pub come_then : (a b c : Mine) → HasComeOn a b → HasComeOn b c → HasComeOn a c
come_then a b c (n, u, j, l, is) (number, unmapped, joining, noted, next) = (
  number,
  unmapped,
  joining,
  noted,
  next ∙ ap (λ (m : Mine). record m { number = number; unmapped = unmapped; joining = joining; noted = noted }) is,
)

module _ (old new : Mine) (comes : HasComeOn old new) where
  is_now : new ≡ record old { number = comes.0; unmapped = comes.1; joining = comes.2; noted = comes.3 }
  is_now = comes.4

  pub come_has : (before : Mine) (segs : SegsView) → HasSegs before segs old → HasSegs before segs new
  come_has before segs has = record {
    who = ap (λ (m : Mine). m.who) is_now ∙ has.who;
    held = ap (λ (m : Mine). m.held) is_now ∙ has.held;
    holdings = ap (λ (m : Mine). m.holdings) is_now ∙ has.holdings;
    claims = ap (λ (m : Mine). m.claims) is_now ∙ has.claims;
    armed = ap (λ (m : Mine). m.armed) is_now ∙ has.armed;
    made = ap (λ (m : Mine). m.made) is_now ∙ has.made;
  }

  pub come_who : new.who ≡ old.who
  come_who = ap (λ (m : Mine). m.who) is_now

  pub come_three : new.opening.participants ≡ old.opening.participants
  come_three = ap (λ (m : Mine). m.opening.participants) is_now

pub come_holds : (board : TableId) (segs : SegsView) (old new : SeatView) (before maps : MapsView) → HoldsSegs board segs old before → new.board ≡ old.board → HasComeOn old.mine new.mine
    → IsTied segs.log (own_of new.mine) no_chunks true maps → HoldsSegs board segs new maps
come_holds board segs old new before maps holds here comes tied =
    let is : new.mine ≡ record old.mine { number = comes.0; unmapped = comes.1; joining = comes.2; noted = comes.3 } = is_now old.mine new.mine comes in
    let log : new.mine.log ≡ segs.log = ap (λ (m : Mine). m.log) is ∙ holds.log in
    record {
      playing = record {
        board_is = here ∙ holds.playing.board_is;
        three = ap (λ (m : Mine). m.opening.participants) is ∙ holds.playing.three;
        joined = ap (λ (m : Mine). m.joined) is ∙ holds.playing.joined;
        tied = subst (λ (l : List LogRecord). IsTied l (own_of new.mine) no_chunks true maps) (sym log) tied;
      };
      sound = holds.sound;
      holds = ap (λ (m : Mine). value_of 32 m.held) is ∙ holds.holds;
      log = log;
      heard = ap (λ (m : Mine). m.heard) is ∙ holds.heard;
      member = ap (λ (m : Mine). is_member segs.roster m.who) is ∙ holds.member;
      standing = subst (λ (m : Mine). AreStanding m.who (heap_part m) segs) (sym is) holds.standing;
    }

-- the table of who holds the value is tied to its log
pub holds_tied : (board : TableId) (segs : SegsView) (seat : SeatView) (maps : MapsView) → HoldsSegs board segs seat maps → IsTied segs.log (own_of seat.mine) no_chunks true maps
holds_tied board segs seat maps holds = subst (λ (l : List LogRecord). IsTied l (own_of seat.mine) no_chunks true maps) holds.log holds.playing.tied

-- GIVING

none_dropped : (n : ℕ) → drop {A = Entry} n [] ≡ []
none_dropped zero = refl
none_dropped (suc n) = refl

none_added : (given : SegsView) (held : Option Kept) → entries_added held (Segments given) ≡ []
none_added given None = refl
none_added given (Some taken) = none_dropped (length (history_of taken))

module _ (board : TableId) (old new : SeatView) (maps : MapsView) (taken given : SegsView) (holds : HoldsSegs board taken old maps)
    (gives : GivesSegments (knows_of old.mine) taken given) where
  pub may_give : IsGiveAt (knows_of old.mine) 32 (Segments given)
  may_give = gives_at (knows_of old.mine) 32 (Segments taken) (Segments given) holds.holds gives

  module _ (gave : new.mine ≡ after_give 32 (Segments given) old.mine) where
    log_now : new.mine.log ≡ given.log
    log_now = ap (λ (m : Mine). m.log) gave

    tied_given : IsTied given.log (own_of new.mine) no_chunks true maps
    tied_given =
        subst (λ (own : Own). IsTied given.log own no_chunks true maps) (sym (ap (λ (m : Mine). own_of m) gave))
        (tied_along taken.log given.log gives.more (own_of old.mine) no_chunks true maps gives.log (holds_tied board taken old maps holds))

    pub gave_playing : is_member given.roster old.mine.who ≡ true → new.board ≡ old.board → IsPlaying board new maps
    gave_playing member here = record {
      board_is = here ∙ holds.playing.board_is;
      three = ap (λ (m : Mine). m.opening.participants) gave ∙ holds.playing.three;
      joined = ap (λ (m : Mine). m.joined) gave ∙ member;
      tied = subst (λ (l : List LogRecord). IsTied l (own_of new.mine) no_chunks true maps) (sym log_now) tied_given;
    }

    pub gave_has : HasGiven old.mine given new.mine
    gave_has = record {
      who = ap (λ (m : Mine). m.who) gave;
      held = ap (λ (m : Mine). m.held) gave;
      holdings = ap (λ (m : Mine). m.holdings) gave;
      unclaimed = λ none. ap (λ (m : Mine). m.claims) gave ∙ ap (claims_later (Segments given)) none;
      armed = ap (λ (m : Mine). m.armed) gave;
      made = ap (λ (m : Mine). m.made) gave ∙ (ap (λ (l : List Entry). old.mine.made ++ under 32 l) (none_added given (value_of 32 old.mine.held)) ∙ append-nil old.mine.made);
      heard = ap (λ (m : Mine). m.heard) gave;
    }

-- A TURN

-- what was known of one heap in hand is known again
known_again : (heap : ℕ) (holding : Holding) (mine : Mine) (segs given : SegsView) → mine.holdings ≡ (heap, holding) ∷ [] → AreStanding mine.who (heap_part mine) segs
    → LeavesStanding segs given → map {B = ℕ × Holding} (λ (pair : ℕ × Holding). (pair.0, standing_of pair.0 given)) ((heap, holding) ∷ []) ≡ (heap, holding) ∷ []
known_again heap holding mine segs given is stands leaves =
    let has : value_of heap mine.holdings ≡ Some holding = ap (value_of heap) is ∙ value_of-here heap holding [] in
    let known : holding ≡ standing_of heap segs = stands.held heap holding has in
    ap (λ (h : Holding). (heap, h) ∷ []) (leaves.standing heap ∙ sym known)

-- the segment value was taken, others came on, and it was given: all else is as it was
pub turned : (old mid new : Mine) (segs given : SegsView) → HasSegs old segs mid → AreStanding mid.who (heap_part mid) segs → LeavesStanding segs given → HasGiven mid given new
    → HasTurned old new
turned old mid new segs given has standing leaves gives = record {
  who = gives.who ∙ has.who;
  held = gives.held ∙ ap (without 32) has.held;
  holdings = λ heap holding is.
      let mid_is : mid.holdings ≡ (heap, holding) ∷ [] = has.holdings ∙ is in
      gives.holdings ∙ (ap (map {B = ℕ × Holding} (λ (pair : ℕ × Holding). (pair.0, standing_of pair.0 given))) mid_is
      ∙ (known_again heap holding mid segs given mid_is standing leaves ∙ sym is));
  unclaimed = λ none. gives.unclaimed (has.claims ∙ none);
  armed = gives.armed ∙ (leaves.armed mid.who ∙ (sym (standing.armed 0) ∙ has.armed));
  made = gives.made ∙ has.made;
}

-- NUMBERS THAT ARE LOADED

pub nothing_loaded : (count : ℕ) (mine : Mine) (who : ℕ) → get_or (replicate count 0) who 0 ≤ noted_of who mine
nothing_loaded count mine who = let none = zeros count who in omega (arith, none)
  where
    zeros : (count who : ℕ) → ◌≡◌ {A = ℕ} (get_or (replicate count 0) who 0) 0
    zeros zero who = refl
    zeros (suc count) zero = refl
    zeros (suc count) (suc who) = zeros count who

pub loaded_noted : (mine after : Mine) (acks : List ℕ) (other number : ℕ) → other < length acks → (other ≡ mine.who → number ≡ mine.number) → after ≡ after_load other number mine
    → ((who : ℕ) → get_or acks who 0 ≤ noted_of who mine) → (who : ℕ) → get_or (set acks other number) who 0 ≤ noted_of who after
loaded_noted mine after acks other number inside own loaded noted who =
    subst (λ (m : Mine). get_or (set acks other number) who 0 ≤ noted_of who m) (sym loaded)
    (dite (ℕ_discrete who other)
    (λ same.
    subst (λ (k : ℕ). get_or (set acks other number) k 0 ≤ noted_of k (after_load other number mine)) (sym same)
    (let here = get_or-set_same acks other number 0 inside in let known = noted_here mine other number own in omega (arith, here, known)))
    (λ apart.
    let other_is = get_or-set_other acks other who number 0 apart in
    let known = noted_else mine other number own who apart in
    let low = noted who in
    omega (arith, other_is, known, low)))

pub loads_one : (mine now after : Mine) (other number : ℕ) → HasComeOn mine now → after ≡ after_load other number now → HasComeOn mine after
loads_one mine now after other number comes loaded =
    come_then mine now after comes (now.number, now.unmapped, now.joining, (other, number) ∷ now.noted, loaded)

pub taken_sound : (o : Opening) (kept : Kept) (segs : SegsView) → IsKeptAt o 32 kept → kept ≡ Segments segs → IsSound segs
taken_sound o kept segs at is = (subst (IsKeptAt o 32) is at).sound

-- who holds the value has not acknowledged more than its log has
pub holds_within : (board : TableId) (segs : SegsView) (seat : SeatView) (maps : MapsView) → HoldsSegs board segs seat maps → seat.mine.number ≤ length segs.log
holds_within board segs seat maps holds = (holds_tied board segs seat maps holds).within

-- NOTED

-- the value as it was
pub noted_none : (segs : SegsView) → IsNotedIn segs segs
noted_none segs = record {
  gives = λ knows. noted_gives knows segs segs (as_it_was segs) (λ old. old);
  leaves = leaves_itself segs;
  roster = refl;
  asks = refl;
}

pub noted_caught : (segs given : SegsView) (who : ℕ) (caught : Caught) → is_member segs.roster who ≡ true → given ≡ after_catching who caught segs → IsNotedIn segs given
noted_caught segs given who caught member is =
    let notes : OnlyNotes segs given = subst (OnlyNotes segs) (sym is) (catches_note who caught segs member) in
    let leaves : LeavesStanding segs given = subst (LeavesStanding segs) (sym is) (catching_leaves who caught segs) in
    record {
      gives = λ knows. noted_gives knows segs given notes leaves.sound;
      leaves = leaves;
      roster = notes.roster;
      asks = notes.asks;
    }

-- a turn in which a failed mapping was noted, or nothing
pub turned_noted : (board : TableId) (old mid now new : SeatView) (maps : MapsView) (segs given : SegsView) → HasSegs old.mine segs mid.mine → HoldsSegs board segs now maps
    → HasComeOn mid.mine now.mine → IsNotedIn segs given → HasGiven now.mine given new.mine → HasTurned old.mine new.mine
turned_noted board old mid now new maps segs given has holds comes noted gives =
    turned old.mine now.mine new.mine segs given (come_has mid.mine now.mine comes old.mine segs has) holds.standing noted.leaves gives

-- ACKNOWLEDGING

pub own_done : (caught : Caught) (records : ℕ) (own : Own) → is_done caught ≡ true → own_after caught records own ≡ after_ack records
own_done Done records own is = refl
own_done (Refused row call) records own is = absurd (cc)
own_done (Elsewhere row call got) records own is = absurd (cc)

pub own_failed : (caught : Caught) (records : ℕ) (own : Own) → is_done caught ≡ false → own_after caught records own ≡ after_partial records own
own_failed Done records own is = absurd (cc)
own_failed (Refused row call) records own is = refl
own_failed (Elsewhere row call got) records own is = refl

pub ack_comes : (old new : Mine) (number : ℕ) → new ≡ after_acking number old → HasComeOn old new
ack_comes old new number acked = (number, number, not old.joined, old.noted, acked)

pub partial_comes : (old new : Mine) → new ≡ after_unmapping old → HasComeOn old new
partial_comes old new unmapped = (old.number, length old.log, old.joining, old.noted, unmapped)

pub ack_own : (old new : Mine) (caught : Caught) (records : ℕ) → is_done caught ≡ true → new ≡ after_acking records old → own_of new ≡ own_after caught records (own_of old)
ack_own old new caught records is acked = ap (λ (m : Mine). own_of m) acked ∙ sym (own_done caught records (own_of old) is)

pub partial_own : (old new : Mine) (caught : Caught) (records : ℕ) → is_done caught ≡ false → records ≡ length old.log → new ≡ after_unmapping old
    → own_of new ≡ own_after caught records (own_of old)
partial_own old new caught records is seen unmapped =
    ap (λ (m : Mine). own_of m) unmapped
    ∙ (ap (λ (n : ℕ). after_partial n (own_of old)) (sym seen) ∙ sym (own_failed caught records (own_of old) is))

-- what participant 0 has noted of itself is its number
pub noted_first : (mine : Mine) → mine.who ≡ 0 → noted_of 0 mine ≡ mine.number
noted_first mine first = cond-true (eqb 0 mine.who) mine.number (unwrap_or (value_of 0 mine.noted) 0) (eq-eqb 0 mine.who (sym first))

-- a heap was taken, which brings nothing to the log
pub took_playing : (board : TableId) (old new : SeatView) (maps : MapsView) (kept : Kept) (heap : HeldHeap) → IsPlaying board old maps → new.board ≡ old.board
    → HasTakenLater 0 kept old.mine new.mine → kept ≡ Heap heap.heap heap.pen → IsPlaying board new maps
took_playing board old new maps kept heap playing here takes is =
    let log : new.mine.log ≡ old.mine.log = ap (λ (m : Mine). m.log) takes.view.1 ∙ ap (λ (k : Kept). log_seen k old.mine.log) is in
    let own : own_of new.mine ≡ own_of old.mine = ap (λ (m : Mine). own_of m) takes.view.1 in
    record {
      board_is = here ∙ playing.board_is;
      three = ap (λ (m : Mine). m.opening.participants) takes.view.1 ∙ playing.three;
      joined = ap (λ (m : Mine). m.joined) takes.view.1 ∙ playing.joined;
      tied = subst (λ (l : List LogRecord). IsTied l (own_of new.mine) no_chunks true maps) (sym log)
          (subst (λ (o : Own). IsTied old.mine.log o no_chunks true maps) (sym own) playing.tied);
    }

-- whether there was memory
pub where_ok : {T E : Type 0} (r : Result T E) (P : Type 0) → is_err r ≡ false → OnOk r P → P
where_ok (Ok value) P ok on = on
where_ok (Err fault) P ok on = absurd (false≢true (sym ok))

pub where_err : {T E : Type 0} (r : Result T E) (P : Type 0) → is_err r ≡ true → OnErr r P → P
where_err (Ok value) P err on = absurd (false≢true err)
where_err (Err fault) P err on = on
