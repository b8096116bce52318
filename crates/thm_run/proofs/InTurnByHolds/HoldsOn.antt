-- In each hold of the segment value records and outcomes come after the others, nobody but who has it is armed anew, and what is logged
-- beside an ask is of one with which its participant was armed.
use Rattle.std.proofs.Common.{◌≡◌, ◌≢◌, ◌∙◌, ◌==◌, ℕ, List, [], ◌∷◌, ◌++◌, drop, length, Some, None, Contains, slice_index_or, refl, ap, sym, subst, arith, append-nil}
use Rattle.std.specs.List.{All}
use Rattle.std.proofs.lemmas.Bool.{and_parts, eqb-true}
use Rattle.std.proofs.lemmas.List.{drop_at, get_or-set_other}
use Rattle.std.proofs.lemmas.List.Elements.{All-append, All-cons, All-head, All-nil, All-tail}
use Rattle.hp_core.proofs.AnsweredSteps.{steps_answer_armed}
use Rattle.hp_core.proofs.GivingLemmas.{only_one}
use Rattle.hp_core.specs.Following.{after_catching}
use Rattle.hp_core.specs.declared.event.CoreEvent.TheVariants.{SelfMapped}
use Rattle.hp_hall.specs.Asks.{AnswersOfArmed}
use Rattle.hp_segs.specs.GrowthLaws.{HasArmedGrowth}
use Rattle.hp_segs.specs.LaterSteps.{after_arm, after_leave, after_withdraw, armed_ask}
use Rattle.hp_segs.specs.SegsView.{SegsView}
use Rattle.hp_segs.specs.Steps.{after_claim, after_failure, after_retire, with_outcome}
use Rattle.hp_segs.specs.declared.outcome.AskLog.{AskLog}
use Rattle.hp_segs.specs.declared.outcome.Cause.TheVariants.{Withdrawn}
use Rattle.hp_segs.specs.declared.outcome.Outcome.TheVariants.{Refused}
use Rattle.hp_serve.specs.Asking.{ask_of}
use Rattle.hp_serve.specs.Attaching.{after_attaching}
use Rattle.hp_serve.specs.Coordinating.{with_room}
use Rattle.hp_weave.specs.Deeds.{Deed, Turn, holds_among, holds_in}
use Rattle.hp_weave.specs.Holds.{Hold}
use Rattle.thm_run.proofs.AfterLemmas.{handles_behind}
use Rattle.thm_run.proofs.RunFacts.CallCases.{withdraw_holds}
use Rattle.thm_run.proofs.Following.{attaching_leaves, catching_leaves}
use Rattle.thm_run.proofs.Leaving.{claim_leaves, withdraw_leaves}
use Rattle.thm_run.proofs.SeatFacts.LogAlong.{core_logged}
use Rattle.thm_run.specs.Apart.{IsDeed}
use Rattle.thm_run.specs.OwnHolds.{HasLater, HoldsGoOn}
use Rattle.thm_run.specs.Seats.{Handles, Seat, with_ranges}

-- WHO IS ARMED

pub others_armed : {count who : ℕ} {old new : Seat} {taken given : SegsView} → Handles count who old new taken given → HasArmedGrowth taken
    → (other : ℕ) → other ≢ who → armed_ask given other ≡ armed_ask taken other
others_armed (Handles.looks seat segs) growth other apart = refl
others_armed (Handles.moves_ranges seat segs ranges moves) growth other apart = refl
others_armed (Handles.steps seat segs event core zero its knows denied may) growth other apart =
    ap (λ armed. slice_index_or armed other None) (core_logged denied event core segs growth).armed
others_armed (Handles.maps seat segs caught table now core zero its up) growth other apart =
    ap (λ armed. slice_index_or armed other None) (core_logged None (SelfMapped caught now) core segs growth).armed
others_armed {count} {who} (Handles.follows seat segs caught table member up) growth other apart =
    ap (λ armed. slice_index_or armed other None) (catching_leaves who caught segs).armed
others_armed {count} {who} (Handles.arms seat segs asked run number is) growth other apart =
    get_or-set_other segs.armed who other (Some (ask_of who number asked)) None apart
others_armed {count} {who} (Handles.claims seat segs) growth other apart =
    ap (λ armed. slice_index_or armed other None) (claim_leaves who seat.party.asked segs).armed
others_armed {count} {who} (Handles.settles seat segs since now late) growth other apart =
    let mid = after_withdraw who seat.party.asked since now segs in
    ap (λ armed. slice_index_or armed other None)
    ((claim_leaves who seat.party.asked mid).armed ∙ (withdraw_leaves segs who seat.party.asked since now).armed)
others_armed (Handles.cuts seat segs heap addr run) growth other apart = refl
others_armed {count} {who} (Handles.attaches seat segs caught after tried) growth other apart =
    ap (λ armed. slice_index_or armed other None) (attaching_leaves who caught segs).armed
others_armed (Handles.detaches seat segs told secondary none heard) growth other apart = refl

-- WHAT IS ANSWERED

-- no outcome came, or one that keeps the ask with which its participant is armed
pub answers_none : (old new : SegsView) → new.asks ≡ old.asks → AnswersOfArmed old new
answers_none old new same entry ask among is =
    let none : drop (length old.asks) new.asks ≡ [] =
    ap (drop (length old.asks)) (same ∙ sym (append-nil old.asks)) ∙ drop_at old.asks [] (length old.asks) refl in
    let wrong = subst (λ outcomes. Contains outcomes entry) none among in
    absurd (omega (arith, wrong.1))

answers_own : (old new : SegsView) (one : AskLog) → new.asks ≡ old.asks ++ one ∷ [] → one.ask ≡ armed_ask old one.from
    → AnswersOfArmed old new
answers_own old new one asks own entry ask among is =
    let behind : drop (length old.asks) new.asks ≡ one ∷ [] =
    ap (drop (length old.asks)) asks ∙ drop_at old.asks (one ∷ []) (length old.asks) refl in
    let same : one ≡ entry = only_one one entry (subst (λ outcomes. Contains outcomes entry) behind among) in
    subst (λ (entry : AskLog). entry.ask ≡ Some ask → armed_ask old entry.from ≡ Some ask) same (λ is. sym own ∙ is) is

answers_withdrawn : (segs : SegsView) (from number since now : ℕ) → AnswersOfArmed segs (after_withdraw from number since now segs)
answers_withdrawn segs from number since now =
    withdraw_holds (AnswersOfArmed segs) segs (answers_none segs segs refl) from number since now
    (λ none other.
    answers_own segs
    (record segs { asks = with_outcome segs from number (Refused (Withdrawn since now)) (armed_ask segs from) }) (refusal from number) refl
    refl)
    (λ none growth is mine.
    let both = and_parts (growth.ask.from == from) (growth.ask.number == number) mine in
    answers_own segs (after_failure growth (Withdrawn since now) (armed_ask segs from) 0 segs) (refusal growth.ask.from growth.ask.number) refl
    (ap (armed_ask segs) (sym (eqb-true growth.ask.from from both.0))))
  where
    refusal : ℕ → ℕ → AskLog
    refusal who which =
        record { from = who; number = which; outcome = Refused (Withdrawn since now); at = length segs.log; ask = armed_ask segs from }

answers_same : (old mid new : SegsView) → new.asks ≡ mid.asks → AnswersOfArmed old mid → AnswersOfArmed old new
answers_same old mid new same answers entry ask among is =
    answers entry ask (subst (λ asks. Contains (drop (length old.asks) asks) entry) same among) is

pub answers_armed : {count who : ℕ} {old new : Seat} {taken given : SegsView} → Handles count who old new taken given → HasArmedGrowth taken
    → AnswersOfArmed taken given
answers_armed (Handles.looks seat segs) growth = answers_none segs segs refl
answers_armed (Handles.moves_ranges seat segs ranges moves) growth = answers_none segs (with_ranges ranges segs) refl
answers_armed (Handles.steps seat segs event core zero its knows denied may) growth =
    steps_answer_armed (λ socket total. denied) event core (with_room segs) growth
answers_armed (Handles.maps seat segs caught table now core zero its up) growth =
    steps_answer_armed (λ socket total. None) (SelfMapped caught now) core (with_room segs) growth
answers_armed {count} {who} (Handles.follows seat segs caught table member up) growth =
    answers_none segs (after_catching who caught segs) (catching_leaves who caught segs).asks
answers_armed {count} {who} (Handles.arms seat segs asked run number is) growth =
    answers_none segs (after_arm (ask_of who number asked) segs) refl
answers_armed {count} {who} (Handles.claims seat segs) growth =
    answers_none segs (after_claim who seat.party.asked segs) (claim_leaves who seat.party.asked segs).asks
answers_armed {count} {who} (Handles.settles seat segs since now late) growth =
    let mid = after_withdraw who seat.party.asked since now segs in
    answers_same segs mid (after_claim who seat.party.asked mid) (claim_leaves who seat.party.asked mid).asks
    (answers_withdrawn segs who seat.party.asked since now)
answers_armed (Handles.cuts seat segs heap addr run) growth = answers_none segs (after_retire heap run segs) refl
answers_armed {count} {who} (Handles.attaches seat segs caught after tried) growth =
    answers_none segs (after_attaching who caught segs) (attaching_leaves who caught segs).asks
answers_armed {count} {who} (Handles.detaches seat segs told secondary none heard) growth = answers_none segs (after_leave who segs) refl

-- ALL HOLDS

-- what a hold makes of a value whose growth is of an armed ask
record MakesLater (hold : Hold SegsView) : Type 0 where
  pub later : HasLater hold.taken hold.given
  pub others : HasArmedGrowth hold.taken → (other : ℕ) → other ≢ hold.who → armed_ask hold.given other ≡ armed_ask hold.taken other
  pub answers : HasArmedGrowth hold.taken → AnswersOfArmed hold.taken hold.given

deed_later : (count who : ℕ) (deed : Deed Seat SegsView) → IsDeed count who deed → All MakesLater (holds_in who (deed ∷ []))
deed_later count who (Deed.Alone old new) did = All-nil MakesLater
deed_later count who (Deed.Holding old new taken given) did =
    All-cons MakesLater (record { who = who; taken = taken; given = given }) []
    (record { later = handles_behind did; others = others_armed did; answers = answers_armed did }) (All-nil MakesLater)

turns_later : (count : ℕ) (turns : List (Turn Seat SegsView)) → All (λ turn. IsDeed count turn.who turn.deed) turns
    → All MakesLater (holds_among turns)
turns_later count [] did = All-nil MakesLater
turns_later count (turn ∷ turns) did =
    All-append MakesLater (holds_in turn.who (turn.deed ∷ [])) (holds_among turns)
    (deed_later count turn.who turn.deed (All-head (λ (turn : Turn Seat SegsView). IsDeed count turn.who turn.deed) turn turns did))
    (turns_later count turns (All-tail (λ (turn : Turn Seat SegsView). IsDeed count turn.who turn.deed) turn turns did))

pub holds_go_on : HoldsGoOn
holds_go_on count first last steps holds came armed sound =
    let later : All MakesLater holds = subst (All MakesLater) came.held (turns_later count came.turns came.deeds) in
    λ k d within. record {
      sound = sound k d within;
      later = (later k d within).later;
      others = (later k d within).others (armed k d within);
      answers = (later k d within).answers (armed k d within);
    }
