-- Participants come to their places before the first line.
use Rattle.std.proofs.Common.{◌≡◌, ◌≢◌, ◌∙◌, ℕ, zero, suc, ◌+◌, ◌<◌, ◌≤◌, ⊎_elim, List, [], ◌∷◌, ◌++◌, Bool, true, false, length, length-append, Option, Some, None, is_some, replicate, refl, sym, ap, subst, arith}
use Rattle.std.specs.List.{slice_get}
use Rattle.std.specs.Option.{option_map}
use Rattle.std.proofs.lemmas.Bool.{cases_eq, cases_lt}
use Rattle.std.proofs.lemmas.List.{length-replicate}
use Rattle.std.proofs.lemmas.Nat.Bits.{bit_at_lowest}
use Rattle.std.proofs.lemmas.Option.{slice_get_past, slice_get_within}
use Rattle.hp_base.specs.Mapping.{FailingCall}
use Rattle.hp_base.specs.declared.limits.TheConstants.{MAX_HEAPS}
use Rattle.hp_plain.specs.HallView.{HallView, is_joined, joined_in, own_at}
use Rattle.hp_plain.proofs.Opened.{opened_segs}
use Rattle.hp_hall.specs.Own.{Own, after_ack}
use Rattle.hp_log.specs.declared.log_record.LogRecord.{LogRecord}
use Rattle.hp_maps.specs.MapsView.{MapsView, chunk_rows, table_in}
use Rattle.hp_script.specs.declared.workload.Workload.{Workload}
use Rattle.hp_serve.specs.Party.{Party}
use Rattle.hp_serve.specs.Tied.{HasChunks, HasTable, IsTied, no_chunks, nothing_yet, part_of}
use Rattle.hp_serve.proofs.Attached.{nothing_marked}
use Rattle.hp_proc.specs.Contexts.{Context}
use Rattle.hp_proc.proofs.Unarmed.{all_alike}
use Rattle.hp_solo.specs.Sequence.{going_place}
use Rattle.hp_solo.specs.Solo.{IsTiedAt, AloneView, SoloView, marked_at, nobody, server_at, with_party}
use Rattle.hp_solo.proofs.SoloWaits.{tied_first}
use Rattle.thm_run.specs.Drops.{DropsOpen}
use Rattle.thm_run.specs.Freed.{ShownOpen}
use Rattle.thm_run.specs.Handing.{CountedOpen, JudgedOpen}
use Rattle.thm_run.specs.EndLaws.{IsFirstParty, IsGiven, OpensSoFar}
use Rattle.thm_run.specs.SoFar.{SoFar, first_names, first_segs}
use Rattle.thm_run.proofs.SeatFacts.FirstSegs.{member_first}
use Rattle.thm_run.proofs.RunFacts.SoFarFacts.{held_many}
use Rattle.thm_run.proofs.RunFacts.Unmarked.{first_unmarked}
use Rattle.thm_causes.specs.Threads.{OneThread}
use Rattle.hp_run.specs.Opening.{HaveCome, IsFirstHall, IsPartyOver, IsPlannedParty}
use Rattle.hp_run.specs.Running.{CanGoOn, IsRunnable, KnowSoFar}
use Rattle.hp_run.proofs.Places.{alike_long}

-- what the lines of a workload say that can be run
pub given_by : (workload : Workload) → IsRunnable workload → IsGiven workload
given_by workload runnable = record {
  few = runnable.absent.few;
  primary = runnable.absent.some;
  present = bit_at_lowest workload.absent ∙ runnable.absent.primary;
  pools = runnable.pools;
  deadline = runnable.limits.short;
  awaits = runnable.awaits;
}

-- lists of which each place has the same are the same
pub alike_same : {X : Type 0} (xs ys : List X) → ((place : ℕ) → slice_get xs place ≡ slice_get ys place) → xs ≡ ys
alike_same [] [] each = refl
alike_same [] (y ∷ ys) each = let none : None ≡ Some y = each 0 in cc
alike_same (x ∷ xs) [] each = let none : Some x ≡ None = each 0 in cc
alike_same (x ∷ xs) (y ∷ ys) each =
    let first : Some x ≡ Some y = each 0 in
    let same : x ≡ y = cc in
    ap (λ (one : _). one ∷ xs) same ∙ ap (λ (rest : _). y ∷ rest) (alike_same xs ys (λ place. each (suc place)))

-- a list with one element more: what stood at a place stands there, and the new one after all
pub front_stays : {X : Type 0} (xs : List X) (x : X) (place : ℕ) → place < length xs → slice_get (xs ++ x ∷ []) place ≡ slice_get xs place
front_stays [] x place within = absurd (omega arith)
front_stays (y ∷ xs) x zero within = refl
front_stays (y ∷ xs) x (suc place) within = front_stays xs x place (omega arith)

pub last_stands : {X : Type 0} (xs : List X) (x : X) (place : ℕ) → length xs ≡ place → slice_get (xs ++ x ∷ []) place ≡ Some x
last_stands [] x zero is = refl
last_stands [] x (suc place) is = absurd (omega (arith, is))
last_stands (y ∷ xs) x zero is = absurd (omega (arith, is))
last_stands (y ∷ xs) x (suc place) is = last_stands xs x place (omega (arith, is))

pub nobody_at : (count who : ℕ) → who < count → server_at (replicate count nobody) who ≡ Some nobody
nobody_at zero who within = absurd (omega arith)
nobody_at (suc count) zero within = refl
nobody_at (suc count) (suc who) within = nobody_at count who (omega arith)

-- a participant is in its place where it is there
some_placed : (party : Option Party) → is_some (option_map (going_place []) party) ≡ is_some party
some_placed None = refl
some_placed (Some party) = refl

-- those below a number have come, none with a validator, and nobody else
pub record HaveComeBelow (workload : Workload) (mappers : List (Option (List FailingCall))) (who : ℕ) (servers : List AloneView) : Type 0 where
  pub parties : List Party
  pub count : length parties ≡ who
  pub each : (other : ℕ) (party : Party) → slice_get parties other ≡ Some party → IsPartyOver workload mappers other party
  pub come : (other : ℕ) → other < who → server_at servers other ≡ option_map (going_place []) (slice_get parties other)
  pub free : (other : ℕ) → who ≤ other → server_at servers other ≡ server_at (replicate workload.participants nobody) other

module _ (workload : Workload) (mappers : List (Option (List FailingCall))) where
  pub none_come : (servers : List AloneView) → servers ≡ replicate workload.participants nobody
      → HaveComeBelow workload mappers 0 servers
  none_come servers is = record {
    parties = [];
    count = refl;
    each = λ other party there. cc;
    come = λ other below. absurd (omega (arith, below));
    free = λ other above. ap (λ (servers : List AloneView). server_at servers other) is;
  }

  -- one more comes
  pub one_comes : (who : ℕ) (party : Party) (old new : List AloneView) → who < workload.participants
      → HaveComeBelow workload mappers who old → IsPartyOver workload mappers who party
      → server_at new who ≡ option_map (with_party (Some party) []) (server_at old who)
      → ((other : ℕ) → other ≢ who → server_at new other ≡ server_at old other) → HaveComeBelow workload mappers (who + 1) new
  one_comes who party old new declared was over here others =
      let behind : List Party = was.parties ++ party ∷ [] in
      let last : slice_get behind who ≡ Some party = last_stands was.parties party who was.count in
      let stands : server_at old who ≡ Some nobody = was.free who (omega arith) ∙ nobody_at workload.participants who declared in
      record {
        parties = behind;
        count = length-append was.parties (party ∷ []) ∙ ap (λ (n : ℕ). n + 1) was.count;
        each = λ other one there.
            let within : other < length behind = slice_get_within behind other one there in
            let all : length behind ≡ who + 1 = length-append was.parties (party ∷ []) ∙ ap (λ (n : ℕ). n + 1) was.count in
            ⊎_elim
            (λ (same : other ≡ who).
            let it : Some one ≡ Some party = sym there ∙ ap (slice_get behind) same ∙ last in
            let one_is : party ≡ one = cc in
            subst (λ (n : ℕ). IsPartyOver workload mappers n one) (sym same) (subst (λ (p : Party). IsPartyOver workload mappers who p) one_is over))
            (λ (differ : other ≢ who).
            ⊎_elim
            (λ (below : other < who).
            was.each other one
            (sym (front_stays was.parties party other (subst (λ (n : ℕ). other < n) (sym was.count) below)) ∙ there))
            (λ (above : who ≤ other). absurd (differ (omega (arith, within, all, above))))
            (cases_lt other who))
            (cases_eq other who);
        come = λ other below.
            ⊎_elim
            (λ (same : other ≡ who).
            subst (λ (n : ℕ). server_at new n ≡ option_map (going_place []) (slice_get behind n)) (sym same)
            (here ∙ ap (option_map (with_party (Some party) [])) stands ∙ ap (option_map (going_place [])) (sym last)))
            (λ (differ : other ≢ who).
            ⊎_elim
            (λ (earlier : other < who).
            others other differ ∙ was.come other earlier
            ∙ ap (option_map (going_place []))
            (sym (front_stays was.parties party other (subst (λ (n : ℕ). other < n) (sym was.count) earlier))))
            (λ (above : who ≤ other). absurd (differ (omega (arith, below, above))))
            (cases_lt other who))
            (cases_eq other who);
        free = λ other above. others other (λ same. absurd (omega (arith, above, same))) ∙ was.free other (omega (arith, above));
      }

  -- all have come
  pub all_come : (servers : List AloneView) → HaveComeBelow workload mappers workload.participants servers
      → HaveCome workload mappers servers
  all_come servers was =
      let beyond : (who : ℕ) → workload.participants ≤ who → is_some (server_at servers who) ≡ is_some (slice_get was.parties who) =
      λ who above.
      ap is_some (was.free who above
      ∙ slice_get_past (replicate workload.participants nobody) who (omega (arith, above, length-replicate workload.participants nobody)))
      ∙ ap is_some (sym (slice_get_past was.parties who (omega (arith, above, was.count)))) in
      record {
        parties = was.parties;
        are = record {
          count = alike_long servers was.parties (λ who.
              ⊎_elim
              (λ (below : who < workload.participants).
              ap is_some (was.come who below) ∙ some_placed (slice_get was.parties who))
              (beyond who)
              (cases_lt who workload.participants));
          each = λ who party there.
              was.come who (omega (arith, slice_get_within was.parties who party there, was.count))
              ∙ ap (option_map (going_place [])) there;
        };
        count = was.count;
        each = was.each;
      }

-- one that has taken in nothing is tied to a hall that knows so
first_table : (joined : Bool) → part_of joined nothing_yet ≡ nothing_yet
first_table true = refl
first_table false = refl

module _ (workload : Workload) (who : ℕ) (may_fail : Option (List FailingCall)) (party : Party) (planned : IsPlannedParty workload who may_fail party)
  where
    pub number_planned : party.me ≡ who
    number_planned = ap (λ (party : Party). party.me) planned.is

    tied_new : (log : List LogRecord) → IsTied log nothing_yet no_chunks party.joined party.maps
    tied_new log =
        let part = first_table party.joined in
        let maps_are : party.maps ≡ planned.maps = ap (λ (party : Party). party.maps) planned.is in
        let empty : party.maps.rows ≡ [] = ap (λ (maps : MapsView). maps.rows) maps_are ∙ planned.table.rows in
        record {
          within = omega arith;
          table = subst (λ (own : Own). HasTable log own no_chunks party.maps) (sym part)
              (record {
                number = ap (λ (maps : MapsView). maps.number) maps_are ∙ planned.table.number;
                rows = ap table_in empty;
                behind = omega arith;
                seen = omega arith;
                chunks = subst (HasChunks no_chunks) (sym (ap chunk_rows empty)) nothing_marked;
                room = omega (arith, ap (λ (maps : MapsView). maps.capacity) maps_are, planned.table.room);
              });
        }

    -- it is in the roster of a first hall where it is present
    joined_planned : IsGiven workload → who < workload.participants → (hall : SoloView) → IsFirstHall workload hall
        → joined_in hall.plain who ≡ party.joined
    joined_planned given declared hall first =
        ap (λ (plain : HallView). joined_in plain who) first.plain
        ∙ (ap (is_joined who) (opened_segs (first_segs workload) (first_names workload) first.held MAX_HEAPS (sym (held_many first.held) ∙ first.first.in_order.count))
        ∙ (member_first workload.participants workload.absent who (omega (arith, declared, given.few))
        ∙ sym (ap (λ (party : Party). party.joined) planned.is)))

    -- and has no mark on a chunk of one
    unmarked_planned : (hall : SoloView) → IsFirstHall workload hall → (heap : ℕ) → marked_at hall.plain who heap ≡ []
    unmarked_planned hall first heap =
        ap (λ (plain : HallView). marked_at plain who heap) first.plain ∙ first_unmarked workload first.held first.first who heap

    pub tied_planned : IsGiven workload → who < workload.participants → (hall : SoloView) → IsFirstHall workload hall
        → IsTiedAt hall.plain party.me party
    tied_planned given declared hall first =
        tied_first hall.plain who party
        (ap (λ (plain : HallView). own_at plain who) first.plain ∙ all_alike nothing_yet workload.participants who)
        (joined_planned given declared hall first) (unmarked_planned hall first) number_planned tied_new

    pub count_first : (hall : SoloView) → IsFirstHall workload hall → length hall.plain.owns ≡ workload.participants
    count_first hall first =
        ap (λ (plain : HallView). length plain.owns) first.plain ∙ length-replicate workload.participants (after_ack 0)

-- a first hall stays one while its values stay
pub first_stays : (workload : Workload) (old new : SoloView) → IsFirstHall workload old → new.plain ≡ old.plain → IsFirstHall workload new
first_stays workload old new first same = record {
  held = first.held;
  first = first.first;
  names_sound = first.names_sound;
  plain = same ∙ first.plain;
}

-- one that is made by the plan is a first one
pub first_made : (workload : Workload) (who : ℕ) (may_fail : Option (List FailingCall)) (party : Party) → IsPlannedParty workload who may_fail party
    → IsFirstParty workload who party
first_made workload who may_fail party planned = record {
  maps = planned.maps;
  plan = workload.plan.items;
  is = planned.is;
  rows = planned.table.rows;
  number = planned.table.number;
  answers = planned.table.answers;
  room = omega (arith, planned.table.room);
}

-- they have done no line yet
pub opens_so : (workload : Workload) (mappers : List (Option (List FailingCall))) (contexts : List (Option Context)) (hall : SoloView)
    → OpensSoFar → DropsOpen → ShownOpen → JudgedOpen → CountedOpen → IsRunnable workload → IsFirstHall workload hall → HaveCome workload mappers hall.servers
    → KnowSoFar workload [] contexts → CanGoOn workload [] [] contexts hall
opens_so workload mappers contexts hall law drops shown judged counted runnable first come know = record {
  done = record {
    parties = come.parties;
    are = come.are;
    courses = [];
    so_far = subst (λ (plain : HallView). SoFar workload [] come.parties plain) (sym first.plain)
        (law workload first.held come.parties (given_by workload runnable) first.first first.names_sound come.count (λ who party there.
        let over = come.each who party there in
        first_made workload who over.may_fail party over.planned));
    lines_are = refl;
    answered = refl;
    thread = record {
      first = hall;
      opens = record {
        held = first.held;
        first_heaps = first.first;
        plain = first.plain;
        parties = come.parties;
        are = come.are;
        count = come.count;
        each = λ who party there.
            let over = come.each who party there in
            (first_made workload who over.may_fail party over.planned, ap (λ (party : Party). party.plan) over.planned.is);
      };
      thread = OneThread.opens;
    };
    drops = λ segs at nothing. drops workload.participants segs.log segs.asks;
    shown = λ segs at may. shown segs.log segs.asks;
    judged = λ segs at. judged workload segs;
    counted = counted workload;
  };
  know = know;
}
