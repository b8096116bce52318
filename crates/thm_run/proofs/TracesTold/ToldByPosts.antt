-- What is logged of a notice was told by the participant that it names: the coordinator holds no notice, and logs none, but of frames that were
-- fetched.
use Rattle.std.proofs.Common.{◌≡◌, ◌≢◌, ◌∙◌, ℕ, true, false, true≢false, get_or, List, [], ◌∷◌, Option, Some, None, IfSome, Contains, inl, inr, ap, sym, subst}
use Rattle.std.specs.Prelude.{⊤, slice_get, slice_set}
use Rattle.std.specs.List.{All}
use Rattle.std.proofs.lemmas.Bool.{cases_eq}
use Rattle.std.proofs.lemmas.List.Elements.{All-head, All-tail, Contains-push_cases}
use Rattle.std.proofs.lemmas.Option.{same_Some}
use Rattle.hp_core.specs.Core.{Core}
use Rattle.hp_core.specs.declared.asked.Asked.{Asked}
use Rattle.hp_core.specs.declared.asked.Asked.TheVariants as want
use Rattle.hp_core.specs.declared.event.CoreEvent.{CoreEvent}
use Rattle.hp_core.specs.declared.event.CoreEvent.TheVariants.{SelfMapped}
use Rattle.hp_frame.specs.declared.frame.Frame.{Frame}
use Rattle.hp_hall.specs.Mail.{MailStep}
use Rattle.hp_heap.proofs.AllocFacts.ChoiceLaw.{Contains-none}
use Rattle.hp_segs.specs.GrowthLaws.{HasArmedGrowth}
use Rattle.hp_segs.specs.LaterSteps.{after_withdraw}
use Rattle.hp_segs.specs.SegsView.{SegsView, is_grant_or_refusal, is_stale}
use Rattle.hp_segs.specs.declared.outcome.AskLog.{AskLog}
use Rattle.hp_segs.specs.declared.outcome.Outcome.TheVariants.{Freed}
use Rattle.hp_serve.specs.Coordinating.{IsAskIn, stepping, with_room}
use Rattle.hp_serve.specs.Frames.{Says}
use Rattle.hp_weave.specs.Deeds.{Can, Deed, Gathering, Runs, Turn, after_deed, holds_among}
use Rattle.hp_weave.specs.Holds.{Hold}
use Rattle.thm_run.proofs.SeatFacts.CoreLogs.{HasLogged, IsLogged}
use Rattle.thm_run.proofs.SeatFacts.CoreSteps.{Brings, step_keeps, step_logs}
use Rattle.thm_run.proofs.SeatFacts.CoreWalk.{AreHeld}
use Rattle.thm_run.proofs.FetchedOn.{alone_core, alone_fetched}
use Rattle.thm_run.proofs.Following.{attaching_leaves, catching_leaves}
use Rattle.thm_run.proofs.Leaving.{IsRefusedOnce, claim_leaves, withdraw_leaves}
use Rattle.thm_run.proofs.SeatFacts.Seating.{its_seat, other_seat}
use Rattle.thm_run.proofs.TracesTold.ToldSteps.{none_fetched}
use Rattle.thm_run.specs.Apart.{IsDeed}
use Rattle.thm_run.specs.Seats.{Handles, Knows, Seat}
use Rattle.thm_run.specs.Told.{ArePosted, FreedAreTold, TellsIn, ToldByPosts}

-- which frames a participant has fetched by the end, it may have posted before
fewer_posted : (steps : ℕ → List MailStep) (old new : Seat) → ((frame : Frame) → Contains old.fetched frame → Contains new.fetched frame)
    → ArePosted steps new → ArePosted steps old
fewer_posted steps old new kept posted frame from number heap address len among says =
    posted frame from number heap address len (kept frame among) says

-- WHAT THE COORDINATOR HOLDS AND LOGS

module _ (count : ℕ) (steps : ℕ → List MailStep) where
  -- a notice that it is handed was told
  abbrev WasTold : Asked → Type 0
  WasTold (want.Grow ask) = ⊤
  WasTold (want.Shrink from number) = TellsIn from number (steps from)

  abbrev HoldsTold : Seat → Type 0
  HoldsTold seat = (core : Core) → seat.party.core ≡ Some core → AreHeld WasTold core.held

  brings_told : (seat : Seat) (event : CoreEvent) → ArePosted steps seat → Knows count seat event → Brings WasTold event
  brings_told seat event posted (Knows.polls now acks) = tt
  brings_told seat event posted (Knows.takes frame body _ among says is_ask) = by_body is_ask
    where
      by_body : IsAskIn count body event → Brings WasTold event
      by_body (IsAskIn.asks ask size align bound flags is below request event_is) = subst (Brings WasTold) (sym event_is) tt
      by_body (IsAskIn.frees from number heap address len is below event_is) =
          subst (Brings WasTold) (sym event_is) (posted frame from number heap address len among (subst (Says frame) is says))

  -- one outcome more
  logged_told : (old new : SegsView) → HasLogged WasTold old new → FreedAreTold steps old → FreedAreTold steps new
  logged_told old new (HasLogged.stays same) told entry generation among is =
      told entry generation (subst (λ asks. Contains asks entry) same among) is
  logged_told old new (HasLogged.adds one asks logged) told entry generation among is =
      elim (Contains-push_cases old.asks one entry (subst (λ asks. Contains asks entry) asks among)) [
        | inl early ↦ told entry generation early is
        | inr same ↦ subst (λ (entry : AskLog). TellsIn entry.from entry.number (steps entry.from)) same
            (by_kind logged (ap (λ (entry : AskLog). entry.outcome) same ∙ is))
      ]
    where
      by_kind : IsLogged WasTold old new one → one.outcome ≡ Freed generation → TellsIn one.from one.number (steps one.from)
      by_kind (IsLogged.stale asked its from number unfresh) freed_is =
          absurd (true≢false (sym unfresh ∙ ap is_stale freed_is))
      by_kind (IsLogged.answered ask armed above from number kept shown) freed_is =
          absurd (true≢false (sym shown ∙ ap is_grant_or_refusal freed_is))
      by_kind (IsLogged.freed from number more its above from_is number_is outcome log) freed_is =
          subst (λ from. TellsIn from one.number (steps from)) (sym from_is)
          (subst (λ number. TellsIn from number (steps from)) (sym number_is) its)

  same_told : (old new : SegsView) → new.asks ≡ old.asks → FreedAreTold steps old → FreedAreTold steps new
  same_told old new same told entry generation among is = told entry generation (subst (λ asks. Contains asks entry) same among) is

  refused_told : (old new : SegsView) → IsRefusedOnce old new → FreedAreTold steps old → FreedAreTold steps new
  refused_told old new (IsRefusedOnce.leaves same) told entry generation among is = same_told old new same told entry generation among is
  refused_told old new (IsRefusedOnce.refuses one shown asks) told entry generation among is =
      elim (Contains-push_cases old.asks one entry (subst (λ asks. Contains asks entry) asks among)) [
        | inl early ↦ told entry generation early is
        | inr same ↦
            absurd (true≢false (sym shown ∙ ap is_grant_or_refusal (ap (λ (entry : AskLog). entry.outcome) same ∙ is)))
      ]

  handles_told : {who : ℕ} {old new : Seat} {taken given : SegsView} → Handles count who old new taken given → HasArmedGrowth taken
      → (who ≡ 0 → HoldsTold old) → (who ≡ 0 → ArePosted steps old) → FreedAreTold steps taken → FreedAreTold steps given
  handles_told (Handles.looks seat segs) growth held posted told = told
  handles_told (Handles.moves_ranges seat segs ranges moves) growth held posted told = told
  handles_told (Handles.steps seat segs event core zero has knows denied may) growth held posted told =
      logged_told (with_room segs) (stepping denied event core segs).segs
      (step_logs WasTold (λ socket total. denied) event core (with_room segs) (brings_told seat event (posted zero) knows) (held zero core has) growth).asks
      told
  handles_told (Handles.maps seat segs caught table now core zero has up) growth held posted told =
      logged_told (with_room segs) (stepping None (SelfMapped caught now) core segs).segs
      (step_logs WasTold (λ socket total. None) (SelfMapped caught now) core (with_room segs) tt (held zero core has) growth).asks told
  handles_told {who} {old} {new} {taken} {given} (Handles.follows seat segs caught table member up) growth held posted told =
      same_told taken given (catching_leaves who caught segs).asks told
  handles_told (Handles.arms seat segs asked run number is) growth held posted told = told
  handles_told {who} {old} {new} {taken} {given} (Handles.claims seat segs) growth held posted told =
      same_told taken given (claim_leaves who seat.party.asked segs).asks told
  handles_told {who} {old} {new} {taken} {given} (Handles.settles seat segs since now late) growth held posted told =
      let mid = after_withdraw who seat.party.asked since now segs in
      same_told mid given (claim_leaves who seat.party.asked mid).asks
      (refused_told segs mid (withdraw_leaves segs who seat.party.asked since now).asks told)
  handles_told (Handles.cuts seat segs heap addr run) growth held posted told = told
  handles_told {who} {old} {new} {taken} {given} (Handles.attaches seat segs caught after tried) growth held posted told =
      same_told taken given (attaching_leaves who caught segs).asks told
  handles_told (Handles.detaches seat segs listeners secondary none heard) growth held posted told = told

  handles_held : {who : ℕ} {old new : Seat} {taken given : SegsView} → Handles count who old new taken given → who ≡ 0 → HoldsTold old
      → ArePosted steps old → HoldsTold new
  handles_held (Handles.looks seat segs) primary held posted one is = held one is
  handles_held (Handles.moves_ranges seat segs ranges moves) primary held posted one is = held one is
  handles_held (Handles.steps seat segs event core zero has knows denied may) primary held posted other is =
      subst (λ (core : Core). AreHeld WasTold core.held) (same_Some (stepping denied event core segs).core other is)
      (step_keeps WasTold (λ socket total. denied) event core (with_room segs) (brings_told seat event posted knows) (held core has))
  handles_held (Handles.maps seat segs caught table now core zero has up) primary held posted other is =
      subst (λ (core : Core). AreHeld WasTold core.held) (same_Some (stepping None (SelfMapped caught now) core segs).core other is)
      (step_keeps WasTold (λ socket total. None) (SelfMapped caught now) core (with_room segs) tt (held core has))
  handles_held (Handles.follows seat segs caught table member up) primary held posted one is = held one is
  handles_held (Handles.arms seat segs asked run number next) primary held posted one is = held one is
  handles_held (Handles.claims seat segs) primary held posted one is = held one is
  handles_held (Handles.settles seat segs since now late) primary held posted one is = held one is
  handles_held (Handles.cuts seat segs heap addr run) primary held posted one is = held one is
  handles_held (Handles.attaches seat segs caught after tried) primary held posted one is =
      held one (sym (ap (λ (party : _). party.core) tried.after_is) ∙ is)
  handles_held (Handles.detaches seat segs told secondary none heard) primary held posted one is = held one is

-- ALL TURNS

module _ (count : ℕ) (last : Gathering Seat SegsView) (steps : ℕ → List MailStep)
    (posted : (seat : Seat) → slice_get last.seats 0 ≡ Some seat → ArePosted steps seat) where
  abbrev AreDeeds : List (Turn Seat SegsView) → Type 0
  AreDeeds turns = All (λ (turn : Turn Seat SegsView). IsDeed count turn.who turn.deed) turns

  deed_posted : (who : ℕ) (deed : Deed Seat SegsView) (old : Seat) (at : Gathering Seat SegsView) → IsDeed count who deed → Can who deed at
      → who ≡ 0 → slice_get at.seats 0 ≡ Some old
      → ((seat : Seat) → slice_get (after_deed who deed at).seats 0 ≡ Some seat → ArePosted steps seat) → ArePosted steps old
  deed_posted who (Deed.Alone old new) seat at did can zero there further =
      let same : old ≡ seat = same_Some old seat (sym can ∙ (ap (slice_get at.seats) zero ∙ there)) in
      let now = subst (λ who. slice_get (after_deed who (Deed.Alone old new) at).seats who ≡ Some new) zero (its_seat at.seats who old new can) in
      subst (ArePosted steps) same
      (fewer_posted steps old new (alone_fetched count who old new did)
      (further new (subst (λ one. slice_get (after_deed one (Deed.Alone old new) at).seats 0 ≡ Some new) (sym zero) now)))
  deed_posted who (Deed.Holding old new taken given) seat at did can zero there further =
      let same : old ≡ seat = same_Some old seat (sym can.0 ∙ (ap (slice_get at.seats) zero ∙ there)) in
      let now = subst (λ who. slice_get (after_deed who (Deed.Holding old new taken given) at).seats who ≡ Some new) zero
      (its_seat at.seats who old new can.0) in
      subst (ArePosted steps) same
      (fewer_posted steps old new (λ frame among. subst (λ fetched. Contains fetched frame) (sym (none_fetched did)) among)
      (further new (subst (λ one. slice_get (after_deed one (Deed.Holding old new taken given) at).seats 0 ≡ Some new) (sym zero) now)))

  beside_seat : (who : ℕ) (deed : Deed Seat SegsView) (at : Gathering Seat SegsView) → Can who deed at → who ≢ 0
      → slice_get (after_deed who deed at).seats 0 ≡ slice_get at.seats 0
  beside_seat who (Deed.Alone old new) at can apart = other_seat at.seats who old new can 0 (λ same. apart (sym same))
  beside_seat who (Deed.Holding old new taken given) at can apart = other_seat at.seats who old new can.0 0 (λ same. apart (sym same))

  posted_now : (turns : List (Turn Seat SegsView)) (at : Gathering Seat SegsView) → Runs at turns last → AreDeeds turns → (seat : Seat)
      → slice_get at.seats 0 ≡ Some seat → ArePosted steps seat
  posted_now [] at runs did seat there = posted seat (ap (λ (now : Gathering Seat SegsView). slice_get now.seats 0) runs ∙ there)
  posted_now (turn ∷ turns) at runs did seat there =
      let its = All-head (λ (turn : Turn Seat SegsView). IsDeed count turn.who turn.deed) turn turns did in
      let further = posted_now turns (after_deed turn.who turn.deed at) runs.1
      (All-tail (λ (turn : Turn Seat SegsView). IsDeed count turn.who turn.deed) turn turns did) in
      elim (cases_eq turn.who 0) [
        | inl zero ↦ deed_posted turn.who turn.deed seat at its runs.0 zero there further
        | inr apart ↦ further seat (beside_seat turn.who turn.deed at runs.0 apart ∙ there)
      ]

  -- what 0 holds, and what is logged
  record AreToldSo (at : Gathering Seat SegsView) : Type 0 where
    pub held : (seat : Seat) → slice_get at.seats 0 ≡ Some seat → HoldsTold count steps seat
    pub told : FreedAreTold steps at.value

  held_beside : (who : ℕ) (deed : Deed Seat SegsView) (at : Gathering Seat SegsView) → Can who deed at → AreToldSo at → who ≢ 0 → (seat : Seat)
      → slice_get (after_deed who deed at).seats 0 ≡ Some seat → HoldsTold count steps seat
  held_beside who deed at can was apart seat there = was.held seat (sym (beside_seat who deed at can apart) ∙ there)

  new_seat : (who : ℕ) (old new seat : Seat) (at : Gathering Seat SegsView) → slice_get at.seats who ≡ Some old → who ≡ 0
      → slice_get (slice_set at.seats who new) 0 ≡ Some seat → new ≡ seat
  new_seat who old new seat at can zero there =
      same_Some new seat (sym (its_seat at.seats who old new can) ∙ (ap (slice_get (slice_set at.seats who new)) zero ∙ there))

  alone_on : (who : ℕ) (old new : Seat) (at : Gathering Seat SegsView) → IsDeed count who (Deed.Alone old new) → slice_get at.seats who ≡ Some old
      → AreToldSo at → AreToldSo (after_deed who (Deed.Alone old new) at)
  alone_on who old new at did can was = record {
    held = λ seat there. elim (cases_eq who 0) [
      | inl zero ↦ λ core is.
          was.held old (subst (λ who. slice_get at.seats who ≡ Some old) zero can) core
          (sym (alone_core count who old new did) ∙ (ap (λ (seat : Seat). seat.party.core) (new_seat who old new seat at can zero there) ∙ is))
      | inr apart ↦ held_beside who (Deed.Alone old new) at can was apart seat there
    ];
    told = was.told;
  }

  holding_on : (who : ℕ) (old new : Seat) (taken given : SegsView) (at : Gathering Seat SegsView) → Handles count who old new taken given
      → HasArmedGrowth taken → slice_get at.seats who ≡ Some old → taken ≡ at.value
      → ((seat : Seat) → slice_get at.seats 0 ≡ Some seat → ArePosted steps seat) → AreToldSo at
      → AreToldSo (after_deed who (Deed.Holding old new taken given) at)
  holding_on who old new taken given at did growth can taken_is before was = record {
    held = λ seat there. elim (cases_eq who 0) [
      | inl zero ↦
          subst (HoldsTold count steps) (new_seat who old new seat at can zero there)
          (handles_held count steps did zero (was.held old (own zero)) (before old (own zero)))
      | inr apart ↦ held_beside who (Deed.Holding old new taken given) at (can, taken_is) was apart seat there
    ];
    told = handles_told count steps did growth (λ zero. was.held old (own zero)) (λ zero. before old (own zero))
        (subst (FreedAreTold steps) (sym taken_is) was.told);
  }
    where
      own : who ≡ 0 → slice_get at.seats 0 ≡ Some old
      own zero = subst (λ who. slice_get at.seats who ≡ Some old) zero can

  all_told : (turns : List (Turn Seat SegsView)) (at : Gathering Seat SegsView) → Runs at turns last → AreDeeds turns
      → All (λ (hold : Hold SegsView). HasArmedGrowth hold.taken) (holds_among turns) → AreToldSo at → FreedAreTold steps last.value
  all_told [] at runs did armed was =
      subst (λ (now : Gathering Seat SegsView). FreedAreTold steps now.value) (sym runs) was.told
  all_told (turn ∷ turns) at runs did armed was =
      by_deed turn.who turn.deed runs did armed
      (λ armed was. all_told turns (after_deed turn.who turn.deed at) runs.1
      (All-tail (λ (turn : Turn Seat SegsView). IsDeed count turn.who turn.deed) turn turns did) armed was)
    where
      by_deed : (who : ℕ) (deed : Deed Seat SegsView) → Runs at (record { who = who; deed = deed } ∷ turns) last
          → AreDeeds (record { who = who; deed = deed } ∷ turns)
          → All (λ (hold : Hold SegsView). HasArmedGrowth hold.taken) (holds_among (record { who = who; deed = deed } ∷ turns))
          → (All (λ (hold : Hold SegsView). HasArmedGrowth hold.taken) (holds_among turns) → AreToldSo (after_deed who deed at)
          → FreedAreTold steps last.value) → FreedAreTold steps last.value
      by_deed who (Deed.Alone old new) runs did armed further =
          further armed
          (alone_on who old new at
          (All-head (λ (turn : Turn Seat SegsView). IsDeed count turn.who turn.deed) (record { who = who; deed = Deed.Alone old new }) turns did)
          runs.0 was)
      by_deed who (Deed.Holding old new taken given) runs did armed further =
          let hold : Hold SegsView = record { who = who; taken = taken; given = given } in
          further (All-tail (λ (hold : Hold SegsView). HasArmedGrowth hold.taken) hold (holds_among turns) armed)
          (holding_on who old new taken given at
          (All-head (λ (turn : Turn Seat SegsView). IsDeed count turn.who turn.deed)
          (record { who = who; deed = Deed.Holding old new taken given }) turns did)
          (All-head (λ (hold : Hold SegsView). HasArmedGrowth hold.taken) hold (holds_among turns) armed) runs.0.0 runs.0.1
          (posted_now (record { who = who; deed = Deed.Holding old new taken given } ∷ turns) at runs did) was)

pub told_by_posts : ToldByPosts
told_by_posts count first last steps holds came none armed unheld posted =
    all_told count last steps posted came.turns first came.runs came.deeds
    (subst (All (λ (hold : Hold SegsView). HasArmedGrowth hold.taken)) (sym came.held) armed) (record {
      held = λ seat there core is. λ k d within. nothing (get_or core.held k d) (unheld seat there core is k d within);
      told = λ entry generation among is. absurd (Contains-none entry (subst (λ asks. Contains asks entry) none among));
    })
  where
    nothing : (one : Option Asked) → one ≡ None → IfSome one (WasTold count steps)
    nothing one is = subst (λ one. IfSome one (WasTold count steps)) (sym is) tt
