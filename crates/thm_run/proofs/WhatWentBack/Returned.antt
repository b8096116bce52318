-- What participants cut from heaps has gone back by one Drop each, or is Retiring: after each of their steps, and so after every run.
use Rattle.std.proofs.Common.{◌≡◌, ◌∙◌, ℕ, zero, suc, Bool, true, false, List, [], ◌∷◌, ◌++◌, length, Some, nat_lt, refl, ap, sym, subst, append_assoc, append-nil, arith, if◌then◌else◌, Option, None}
use Rattle.std.specs.List.{flat_map, range_with_len, slice_get, slice_set}
use Rattle.std.specs.List.Sorted.{IsPermutation}
use Rattle.std.proofs.lemmas.List.Sorted.{IsPermutation-append_comm, IsPermutation-append_left, IsPermutation-append_right, IsPermutation-cons, IsPermutation-middle, IsPermutation-refl, IsPermutation-sym, IsPermutation-to_front, IsPermutation-trans}
use Rattle.hp_base.specs.declared.pool_line.PoolLine.{PoolLine}
use Rattle.hp_base.specs.declared.row.Run.{Run}
use Rattle.hp_core.specs.Core.{Core}
use Rattle.hp_core.specs.declared.event.CoreEvent.{CoreEvent}
use Rattle.hp_core.specs.declared.event.CoreEvent.TheVariants.{SelfMapped}
use Rattle.hp_hall.specs.Mail.{MailStep}
use Rattle.hp_heap.specs.History.{HeapView}
use Rattle.hp_segs.specs.LaterSteps.{after_withdraw}
use Rattle.hp_segs.specs.SegsView.{SegsView}
use Rattle.hp_segs.specs.Sound.{IsSound}
use Rattle.hp_segs.specs.Steps.{after_claim, after_retire, insert_by_address}
use Rattle.hp_serve.specs.Coordinating.{stepping, with_room}
use Rattle.hp_proc.specs.Doing.{Done}
use Rattle.hp_proc.specs.Doing.Done.{ChunkMapped, HeapSeen, NamesChanged, NamesRead, RangePlanned, StatsRead}
use Rattle.hp_proc.specs.Ends.{HaveGoneBack, KeepsCalls}
use Rattle.hp_segs.specs.Returned.{gone_in, returned_runs}
use Rattle.hp_segs.proofs.RetiredRuns.ReturnedBySteps.{IsGoneAlike}
use Rattle.hp_heap.specs.HistoryLaws.{runs_cut}
use Rattle.thm_run.specs.Seats.{Handles, Mails, Quietly, Seat, with_ranges}
use Rattle.thm_run.specs.Together.{IsFirst, GlobalState, Runs, Steps}
use Rattle.thm_run.proofs.WhatWentBack.CutRuns.{cuts_append, cuts_in, flat_map_indexed}
use Rattle.thm_run.proofs.WhatWentBack.CutShares.{AreTheirs, cuts_of_all}
use Rattle.thm_run.proofs.SeatFacts.SeatsAlong.{count_along}
use Rattle.thm_run.proofs.SeatFacts.SegsAlong.{sound_along}
use Rattle.thm_run.proofs.WhatWentBack.ReturnedByRounds.{step_gone}
use Rattle.thm_run.proofs.WhatWentBack.ReturnedBySteps.{claim_gone, withdraw_gone}
use Rattle.thm_run.proofs.Leaving.{IsClaimed, room_sound}
use Rattle.thm_run.proofs.Following.{attaching_leaves, catching_leaves}

insert_by : (lower : Bool) (run other : Run) (runs : List Run) → IsPermutation (run ∷ runs) (insert_by_address run runs)
    → IsPermutation (run ∷ other ∷ runs) (if lower then run ∷ other ∷ runs else other ∷ insert_by_address run runs)
insert_by true run other runs rest = IsPermutation-refl (run ∷ other ∷ runs)
insert_by false run other runs rest =
    IsPermutation-trans (run ∷ other ∷ runs) (other ∷ run ∷ runs) (other ∷ insert_by_address run runs)
    (IsPermutation-sym (other ∷ run ∷ runs) (run ∷ other ∷ runs) (IsPermutation-middle (other ∷ []) run runs))
    (IsPermutation-cons other (run ∷ runs) (insert_by_address run runs) rest)

-- a run among others by rising address is that run and the others
insert_moves : (run : Run) (runs : List Run) → IsPermutation (run ∷ runs) (insert_by_address run runs)
insert_moves run [] = IsPermutation-refl (run ∷ [])
insert_moves run (other ∷ runs) = insert_by (nat_lt run.addr other.addr) run other runs (insert_moves run runs)

-- a run that is given up is Retiring
retire_gone : (heap : ℕ) (run : Run) (segs : SegsView) → IsPermutation (gone_in segs ++ run ∷ []) (gone_in (after_retire heap run segs))
retire_gone heap run segs =
    let back = returned_runs segs.asks false 1 segs.log in
    IsPermutation-trans (gone_in segs ++ run ∷ []) (run ∷ gone_in segs) (gone_in (after_retire heap run segs))
    (IsPermutation-to_front (gone_in segs) run)
    (IsPermutation-trans (run ∷ gone_in segs) (back ++ run ∷ segs.retiring) (gone_in (after_retire heap run segs))
    (IsPermutation-sym (back ++ run ∷ segs.retiring) (run ∷ gone_in segs) (IsPermutation-middle back run segs.retiring))
    (IsPermutation-append_right back (run ∷ segs.retiring) (insert_by_address run segs.retiring) (insert_moves run segs.retiring)))

-- a step of the coordinator
event_gone : (denied : Option (List ℕ × ℕ)) (event : CoreEvent) (core : Core) (segs : SegsView) → IsSound segs
    → IsGoneAlike segs (stepping denied event core segs).segs
event_gone denied event core segs sound = step_gone (λ socket total. denied) event core (with_room segs) (room_sound segs sound)

-- what leaves the outcomes, the records and the Retiring runs gives nothing back
left_gone : (old new : SegsView) → IsClaimed old new → IsGoneAlike old new
left_gone old new left =
    ap (λ asks. returned_runs asks false 1 new.log ++ new.retiring) left.asks
    ∙ (ap (λ log. returned_runs old.asks false 1 log ++ new.retiring) left.log
    ∙ ap (λ retiring. returned_runs old.asks false 1 old.log ++ retiring) left.retiring)

-- a participant did more
pub record DoesMore (old new : Seat) (cut : List Run) : Type 0 where
  pub more : List Done
  pub trace : new.trace ≡ old.trace ++ more
  pub cuts : cuts_in more ≡ cut

rests : (old new : Seat) → new.trace ≡ old.trace → DoesMore old new []
rests old new same = record { more = []; trace = same ∙ sym (append-nil old.trace); cuts = refl }

quietly_more : {old new : Seat} → Quietly old new → DoesMore old new []
quietly_more (Quietly.hears seat answered) = rests seat _ refl
quietly_more (Quietly.counts seat sent) = rests seat _ refl
quietly_more (Quietly.calls seat heap call answer none) =
    record { more = _; trace = refl; cuts = append-nil _ ∙ none }
quietly_more (Quietly.notes seat elements chunks) = rests seat _ refl
quietly_more (Quietly.reads_names seat names) = record { more = NamesRead names ∷ []; trace = refl; cuts = refl }
quietly_more (Quietly.reads_stats seat heap counted) = record { more = StatsRead heap counted ∷ []; trace = refl; cuts = refl }
quietly_more (Quietly.changes_names seat change) = record { more = NamesChanged change ∷ []; trace = refl; cuts = refl }
quietly_more (Quietly.sees_heap seat heap history) = record { more = HeapSeen heap history ∷ []; trace = refl; cuts = refl }
quietly_more (Quietly.plans_range seat addr len page plan) = record { more = RangePlanned addr len page plan ∷ []; trace = refl; cuts = refl }
quietly_more (Quietly.maps_chunk seat chunk maps ended is) = record { more = ChunkMapped chunk ended ∷ []; trace = refl; cuts = refl }
quietly_more (Quietly.leaves_chunk seat chunk maps is) = rests seat _ refl
quietly_more (Quietly.ends_line seat deed given) = rests seat _ refl

-- what all participants cut
abbrev pub cuts_by_all : List Seat → List Run
cuts_by_all seats = flat_map (λ (seat : Seat). cuts_in seat.trace) seats

-- one of them cut more
cuts_more : (seats : List Seat) (who : ℕ) (old new : Seat) (cut : List Run) → slice_get seats who ≡ Some old → DoesMore old new cut
    → IsPermutation (cuts_by_all seats ++ cut) (cuts_by_all (slice_set seats who new))
cuts_more [] who old new cut there more = cc
cuts_more (seat ∷ seats) zero old new cut there more =
    let same : seat ≡ old = cc in
    let here : cuts_in new.trace ≡ cuts_in seat.trace ++ cut =
    ap cuts_in more.trace ∙ (cuts_append old.trace more.more ∙ (ap (λ runs. cuts_in old.trace ++ runs) more.cuts
    ∙ ap (λ (seat : Seat). cuts_in seat.trace ++ cut) (sym same))) in
    let others = cuts_by_all seats in
    subst (λ front. IsPermutation ((cuts_in seat.trace ++ others) ++ cut) (front ++ others)) (sym here)
    (subst (λ left. IsPermutation left ((cuts_in seat.trace ++ cut) ++ others)) (sym (append_assoc (cuts_in seat.trace) others cut))
    (subst (IsPermutation (cuts_in seat.trace ++ (others ++ cut))) (sym (append_assoc (cuts_in seat.trace) cut others))
    (IsPermutation-append_right (cuts_in seat.trace) (others ++ cut) (cut ++ others) (IsPermutation-append_comm others cut))))
cuts_more (seat ∷ seats) (suc who) old new cut there more =
    subst (λ left. IsPermutation left (cuts_in seat.trace ++ cuts_by_all (slice_set seats who new)))
    (sym (append_assoc (cuts_in seat.trace) (cuts_by_all seats) cut))
    (IsPermutation-append_right (cuts_in seat.trace) (cuts_by_all seats ++ cut) (cuts_by_all (slice_set seats who new))
    (cuts_more seats who old new cut there more))

-- what all participants cut has gone back, or is Retiring
abbrev pub IsReturned : GlobalState → Type 0
IsReturned at = IsPermutation (cuts_by_all at.seats) (gone_in at.segs)

-- a participant that did more, and what that leaves of the segment value
returned_more : (at : GlobalState) (who : ℕ) (old new : Seat) (cut : List Run) (given : SegsView) → slice_get at.seats who ≡ Some old
    → DoesMore old new cut → IsPermutation (gone_in at.segs ++ cut) (gone_in given) → IsReturned at
    → IsPermutation (cuts_by_all (slice_set at.seats who new)) (gone_in given)
returned_more at who old new cut given there more gone before =
    let seats = slice_set at.seats who new in
    IsPermutation-trans (cuts_by_all seats) (cuts_by_all at.seats ++ cut) (gone_in given)
    (IsPermutation-sym (cuts_by_all at.seats ++ cut) (cuts_by_all seats) (cuts_more at.seats who old new cut there more))
    (IsPermutation-trans (cuts_by_all at.seats ++ cut) (gone_in at.segs ++ cut) (gone_in given)
    (IsPermutation-append_left cut (cuts_by_all at.seats) (gone_in at.segs) before) gone)

-- nothing was cut, and what has gone back or is Retiring is the same
alike_gone : (old new : SegsView) → IsGoneAlike old new → IsPermutation (gone_in old ++ []) (gone_in new)
alike_gone old new alike =
    subst (λ all. IsPermutation all (gone_in new)) (sym (append-nil (gone_in old)))
    (subst (IsPermutation (gone_in old)) (sym alike) (IsPermutation-refl (gone_in old)))

-- what it makes of the segment value
pub record Returns (old new : Seat) (taken given : SegsView) : Type 0 where
  pub cut : List Run
  pub more : DoesMore old new cut
  pub gone : IsPermutation (gone_in taken ++ cut) (gone_in given)

nothing_cut : (old new : Seat) (taken given : SegsView) → DoesMore old new [] → IsGoneAlike taken given → Returns old new taken given
nothing_cut old new taken given more alike = record { cut = []; more = more; gone = alike_gone taken given alike }

handles_return : {count who : ℕ} {old new : Seat} {taken given : SegsView} → Handles count who old new taken given → IsSound taken
    → Returns old new taken given
handles_return (Handles.looks seat segs) sound = nothing_cut seat seat segs segs (rests seat seat refl) refl
handles_return (Handles.moves_ranges seat segs ranges moves) sound =
    nothing_cut seat seat segs (with_ranges ranges segs) (rests seat seat refl) refl
handles_return (Handles.steps seat segs event core is its knows denied may) sound =
    nothing_cut seat _ segs _ (rests seat _ refl) (event_gone denied event core segs sound)
handles_return (Handles.maps seat segs caught table now core is its caught_up) sound =
    nothing_cut seat _ segs _ (rests seat _ refl) (event_gone None (SelfMapped caught now) core segs sound)
handles_return {who = who} (Handles.follows seat segs caught table member caught_up) sound =
    nothing_cut seat _ segs _ (rests seat _ refl) (left_gone segs _ (catching_leaves who caught segs))
handles_return (Handles.arms seat segs asked run number is) sound =
    nothing_cut seat _ segs _ (record { more = _; trace = refl; cuts = refl }) refl
handles_return {who = who} (Handles.claims seat segs) sound =
    nothing_cut seat seat segs _ (rests seat seat refl) (claim_gone segs who seat.party.asked)
handles_return {who = who} (Handles.settles seat segs since now late) sound =
    let withdrawn = after_withdraw who seat.party.asked since now segs in
    nothing_cut seat seat segs (after_claim who seat.party.asked withdrawn) (rests seat seat refl)
    (claim_gone withdrawn who seat.party.asked ∙ withdraw_gone segs sound who seat.party.asked since now)
handles_return (Handles.cuts seat segs heap addr run) sound =
    record { cut = run ∷ []; more = record { more = _; trace = refl; cuts = refl }; gone = retire_gone heap run segs }
handles_return {who = who} (Handles.attaches seat segs caught after tried) sound =
    nothing_cut seat _ segs _ (record { more = _; trace = refl; cuts = refl }) (left_gone segs _ (attaching_leaves who caught segs))
handles_return (Handles.detaches seat segs told secondary none heard) sound = nothing_cut seat _ segs _ (rests seat _ refl) refl

mails_more : {who : ℕ} {old new : Seat} {step : MailStep} → Mails who old new step → DoesMore old new []
mails_more (Mails.notes seat note) = rests seat seat refl
mails_more (Mails.finds_nothing seat) = rests seat seat refl
mails_more (Mails.fetches seat frame) = rests seat _ refl
mails_more (Mails.asks seat ask frame action posted its says) = rests seat seat refl
mails_more (Mails.tells seat heap run frame action posted says) = record { more = _; trace = refl; cuts = refl }
mails_more (Mails.speaks seat to frame body action posted nothing says) = rests seat seat refl

-- each step
step_returns : {count : ℕ} {old new : GlobalState} → Steps count old new → IsSound old.segs → IsReturned old → IsReturned new
step_returns (Steps.quietly at who old new there did) sound before =
    returned_more at who old new [] at.segs there (quietly_more did) (alike_gone at.segs at.segs refl) before
step_returns (Steps.mails at who old new step there did) sound before =
    returned_more at who old new [] at.segs there (mails_more did) (alike_gone at.segs at.segs refl) before
step_returns (Steps.handles at who old new given there did kept armed) sound before =
    let returns = handles_return did sound in
    returned_more at who old new returns.cut given there returns.more returns.gone before

-- before the first step nothing was cut
none_cut : (seats : List Seat) → ((who : ℕ) (seat : Seat) → slice_get seats who ≡ Some seat → seat.trace ≡ []) → cuts_by_all seats ≡ []
none_cut [] none = refl
none_cut (seat ∷ seats) none =
    ap (λ trace. cuts_in trace ++ cuts_by_all seats) (none 0 seat refl) ∙ none_cut seats (λ who seat there. none (suc who) seat there)

module _ (count absent : ℕ) (pools : List PoolLine) (first : GlobalState) (is : IsFirst count absent pools first) where
  -- what was cut on a run of all participants from its beginning has gone back, or is Retiring
  pub cuts_returned : (now : GlobalState) → Runs count first now → IsReturned now
  cuts_returned now (Runs.stands at) =
      subst (λ cut. IsPermutation cut (gone_in first.segs))
      (sym (none_cut first.seats (λ who seat there. (is.each who seat there).trace)))
      (subst (IsPermutation []) (sym (ap gone_in is.segs)) (IsPermutation-refl []))
  cuts_returned now (Runs.goes_on start mid last before step) =
      step_returns step (sound_along count absent pools first is mid before) (cuts_returned mid before)

-- so it is with what was cut from the heaps, where their histories are the entries of these participants and of nobody else
pub gone_back : (count absent : ℕ) (pools : List PoolLine) (first now : GlobalState) (did : ℕ → List Done) (heaps : List HeapView)
    → IsFirst count absent pools first → Runs count first now
    → ((who : ℕ) (seat : Seat) → slice_get now.seats who ≡ Some seat → did who ≡ seat.trace) → AreTheirs count (length heaps) did
    → KeepsCalls did heaps → HaveGoneBack heaps now.segs
gone_back count absent pools first now did heaps is runs each theirs kept =
    let all = flat_map (λ heap. runs_cut heap.history) heaps in
    let same : cuts_by_all now.seats ≡ flat_map (λ who. cuts_in (did who)) (range_with_len 0 count) =
    flat_map_indexed (λ (seat : Seat). cuts_in seat.trace) (λ who. cuts_in (did who)) now.seats 0
    (λ index number seat at there.
    let here : index ≡ number = omega (arith, at) in
    ap cuts_in (sym (each index seat there)) ∙ ap (λ who. cuts_in (did who)) here)
    ∙ ap (λ count. flat_map (λ who. cuts_in (did who)) (range_with_len 0 count)) (count_along runs ∙ is.seats) in
    IsPermutation-trans all (cuts_by_all now.seats) (gone_in now.segs)
    (subst (IsPermutation all) (sym same) (cuts_of_all count did heaps theirs kept))
    (cuts_returned count absent pools first is now runs)
