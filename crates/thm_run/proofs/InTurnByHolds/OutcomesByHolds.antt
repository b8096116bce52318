-- Each grant and each refusal is of an ask that its participant made in its own holds: nobody is armed but by an ask of its own, and what
-- is logged beside an ask is of one with which its participant was armed. No frame and no mailbox is in sight.
use Rattle.std.proofs.Common.{◌≡◌, ◌⊎◌, ◌∙◌, ◌==◌, ℕ, suc, ◌+◌, ◌-◌, Bool, true, false, cond, List, [], ◌∷◌, ◌++◌, drop, length, Option, Some, None, Contains, get_or, inl, inr, refl, ap, sym, subst, arith, eq-eqb}
use Rattle.std.specs.List.{All, slice_get}
use Rattle.std.proofs.lemmas.Bool.{cases_eq}
use Rattle.std.proofs.lemmas.List.{drop_at}
use Rattle.std.proofs.lemmas.List.Elements.{All-append, All-cons, All-head, All-nil, All-tail, Contains-append_cases}
use Rattle.std.proofs.lemmas.Option.{same_Some, slice_get-get_or}
use Rattle.hp_base.specs.declared.row.Run.{Run}
use Rattle.hp_heap.proofs.AllocFacts.ChoiceLaw.{Contains-none}
use Rattle.hp_log.specs.declared.log_record.LogRecord.{LogRecord}
use Rattle.hp_segs.specs.Causes.{HasCause}
use Rattle.hp_segs.specs.LaterSteps.{armed_ask}
use Rattle.hp_segs.specs.SegsView.{SegsView, is_grant_or_refusal}
use Rattle.hp_segs.specs.declared.ask.Ask.{Ask}
use Rattle.hp_segs.specs.declared.outcome.AskLog.{AskLog}
use Rattle.hp_segs.specs.declared.outcome.Outcome.{Outcome}
use Rattle.hp_segs.specs.declared.outcome.Outcome.TheVariants.{Freed, Granted, Refused, Stale}
use Rattle.hp_serve.specs.Asking.{ask_of}
use Rattle.hp_serve.specs.declared.pages_asked.PagesAsked.{PagesAsked}
use Rattle.hp_proc.specs.Courses.{numbered_in}
use Rattle.hp_proc.specs.Doing.{Done}
use Rattle.hp_proc.specs.Doing.Done.{Asked, GaveUp}
use Rattle.hp_proc.specs.Outcomes.{IsOfATrace, IsOutcomeOf}
use Rattle.hp_weave.specs.Holds.{Chain, Hold, holds_of}
use Rattle.thm_run.proofs.GrownHeaps.GrantTurns.{read_among}
use Rattle.thm_run.proofs.GrownHeaps.UngrantedAdds.{caused_at}
use Rattle.thm_run.specs.OwnHolds.{DoesInHolds, GoesOn, OutcomesByHolds, StaysArmed}

-- WHAT IS ARMED

-- an ask was made: it is that of a place of what took numbers, which are numbered on from a number
record IsMadeFrom (who number : ℕ) (numbered : List Done) (ask : Ask) : Type 0 where
  pub place : ℕ
  pub asked : PagesAsked
  pub run : Option Run
  pub there : slice_get numbered place ≡ Some (Asked asked run)
  pub is : ask ≡ ask_of who (number + place) asked

-- a hold leaves its holder armed as it was, or with an ask that was made
abbrev ArmsSo : ℕ → ℕ → List Done → Hold SegsView → Type 0
ArmsSo who number numbered hold =
    StaysArmed who hold ⊎ ((ask : Ask) × (armed_ask hold.given who ≡ Some ask) × IsMadeFrom who number numbered ask)

made_next : (who number : ℕ) (done : Done) (numbered : List Done) (ask : Ask) → IsMadeFrom who (number + 1) numbered ask
    → IsMadeFrom who number (done ∷ numbered) ask
made_next who number done numbered ask made = record {
  place = suc made.place;
  asked = made.asked;
  run = made.run;
  there = made.there;
  is = made.is ∙ ap (λ number. ask_of who number made.asked) same;
}
  where
    same : number + 1 + made.place ≡ number + suc made.place
    same = omega arith

arms_next : (who number : ℕ) (done : Done) (numbered : List Done) (hold : Hold SegsView) → ArmsSo who (number + 1) numbered hold
    → ArmsSo who number (done ∷ numbered) hold
arms_next who number done numbered hold (inl stays) = inl stays
arms_next who number done numbered hold (inr (ask, is, made)) = inr (ask, is, made_next who number done numbered ask made)

all_next : (who number : ℕ) (done : Done) (numbered : List Done) (holds : List (Hold SegsView))
    → All (ArmsSo who (number + 1) numbered) holds → All (ArmsSo who number (done ∷ numbered)) holds
all_next who number done numbered holds all = λ k d within. arms_next who number done numbered (get_or holds k d) (all k d within)

all_stay : (who number : ℕ) (numbered : List Done) (holds : List (Hold SegsView)) → All (StaysArmed who) holds
    → All (ArmsSo who number numbered) holds
all_stay who number numbered holds all = λ k d within. inl (all k d within)

join_holds : {X : Type 0} (front : List X) (x : X) (rest : List X) → (front ++ x ∷ []) ++ rest ≡ front ++ x ∷ rest
join_holds [] x rest = refl
join_holds (y ∷ front) x rest = ap (λ rest. y ∷ rest) (join_holds front x rest)

arms_own : (who number : ℕ) (trace : List Done) (holds : List (Hold SegsView)) → DoesInHolds who number trace holds
    → All (ArmsSo who number (numbered_in trace)) holds
arms_own who _ _ _ (DoesInHolds.ends number) = All-nil (ArmsSo who number [])
arms_own who _ _ _ (DoesInHolds.passes number trace hold holds stays does) =
    All-cons (ArmsSo who number (numbered_in trace)) hold holds (inl stays) (arms_own who number trace holds does)
arms_own who _ _ _ (DoesInHolds.looks number trace hold holds stays does) =
    All-cons (ArmsSo who number (numbered_in trace)) hold holds (inl stays) (arms_own who number trace holds does)
arms_own who _ _ _ (DoesInHolds.asks number asked run trace arming between hearing holds is stays does) =
    let all : List Done = Asked asked run ∷ numbered_in trace in
    let here : number ≡ number + 0 = omega arith in
    All-cons (ArmsSo who number all) arming (between ++ hearing ∷ holds)
    (inr (
      ask_of who number asked,
      is.its,
      record {
        place = 0;
        asked = asked;
        run = run;
        there = refl;
        is = ap (λ number. ask_of who number asked) here;
      },
    ))
    (subst (All (ArmsSo who number all)) (join_holds between hearing holds)
    (All-append (ArmsSo who number all) (between ++ hearing ∷ []) holds (all_stay who number all (between ++ hearing ∷ []) stays)
    (all_next who number (Asked asked run) (numbered_in trace) holds (arms_own who (number + 1) trace holds does))))
arms_own who _ _ _ (DoesInHolds.gives_up number heap run trace holds does) =
    all_next who number (GaveUp heap run) (numbered_in trace) holds (arms_own who (number + 1) trace holds does)
arms_own who _ _ _ (DoesInHolds.calls number heap call answer trace holds does) = arms_own who number trace holds does
arms_own who _ _ _ (DoesInHolds.reads_names number names trace holds does) = arms_own who number trace holds does
arms_own who _ _ _ (DoesInHolds.reads_stats number heap counted trace holds does) = arms_own who number trace holds does
arms_own who _ _ _ (DoesInHolds.changes_names number change trace holds does) = arms_own who number trace holds does
arms_own who _ _ _ (DoesInHolds.sees_heap number heap history trace holds does) = arms_own who number trace holds does
arms_own who _ _ _ (DoesInHolds.plans_range number addr len page plan trace holds does) = arms_own who number trace holds does
arms_own who _ _ _ (DoesInHolds.maps_chunk number chunk ended trace holds does) = arms_own who number trace holds does
arms_own who _ _ _ (DoesInHolds.catches_up number to caught trace holds does) = arms_own who number trace holds does

-- what holds of each participant's holds holds of all
module _ (Q : ℕ → Hold SegsView → Type 0) where
  rest_own : (hold : Hold SegsView) (holds : List (Hold SegsView)) (mine : Bool) (who : ℕ)
      → All (Q who) (cond mine (hold ∷ holds_of who holds) (holds_of who holds)) → All (Q who) (holds_of who holds)
  rest_own hold holds true who all = All-tail (Q who) hold (holds_of who holds) all
  rest_own hold holds false who all = all

  each_hold : (holds : List (Hold SegsView)) → ((who : ℕ) → All (Q who) (holds_of who holds)) → All (λ hold. Q hold.who hold) holds
  each_hold [] each = All-nil (λ (hold : Hold SegsView). Q hold.who hold)
  each_hold (hold ∷ holds) each =
      let own : holds_of hold.who (hold ∷ holds) ≡ hold ∷ holds_of hold.who holds =
      ap (λ mine. cond mine (hold ∷ holds_of hold.who holds) (holds_of hold.who holds)) (eq-eqb hold.who hold.who refl) in
      All-cons (λ (hold : Hold SegsView). Q hold.who hold) hold holds
      (All-head (Q hold.who) hold (holds_of hold.who holds) (subst (All (Q hold.who)) own (each hold.who)))
      (each_hold holds (λ who. rest_own hold holds (hold.who == who) who (each who)))

-- WHAT IS LOGGED

module _ (did : ℕ → List Done) where
  abbrev IsMadeBy : ℕ → Ask → Type 0
  IsMadeBy who ask = IsMadeFrom who 1 (numbered_in (did who)) ask

  abbrev AreArmedMade : SegsView → Type 0
  AreArmedMade segs = (who : ℕ) (ask : Ask) → armed_ask segs who ≡ Some ask → IsMadeBy who ask

  abbrev AreKeptMade : SegsView → Type 0
  AreKeptMade segs = (entry : AskLog) (ask : Ask) → Contains segs.asks entry → entry.ask ≡ Some ask → IsMadeBy entry.from ask

  abbrev Arms : Hold SegsView → Type 0
  Arms hold = ArmsSo hold.who 1 (numbered_in (did hold.who)) hold

  arms_on : (hold : Hold SegsView) → GoesOn hold → Arms hold → AreArmedMade hold.taken → AreArmedMade hold.given
  arms_on hold goes arms was who ask is = elim (cases_eq who hold.who) [
    | inl own ↦ own_armed who ask is own arms
    | inr other ↦ was who ask (sym (goes.others who other) ∙ is)
  ]
    where
      own_armed : (who : ℕ) (ask : Ask) → armed_ask hold.given who ≡ Some ask → who ≡ hold.who → Arms hold → IsMadeBy who ask
      own_armed who ask is own (inl stays) =
          was who ask (ap (armed_ask hold.taken) own ∙ (sym stays ∙ (ap (armed_ask hold.given) (sym own) ∙ is)))
      own_armed who ask is own (inr (made_ask, armed, made)) =
          let same : made_ask ≡ ask = same_Some made_ask ask (sym armed ∙ (ap (armed_ask hold.given) (sym own) ∙ is)) in
          subst (λ who. IsMadeBy who ask) (sym own) (subst (IsMadeBy hold.who) same made)

  keeps_on : (hold : Hold SegsView) → GoesOn hold → AreArmedMade hold.taken → AreKeptMade hold.taken → AreKeptMade hold.given
  keeps_on hold goes armed was entry ask among is =
      elim (Contains-append_cases hold.taken.asks goes.later.others entry
      (subst (λ asks. Contains asks entry) goes.later.asks among)) [
        | inl early ↦ was entry ask early is
        | inr late ↦
            let behind : drop (length hold.taken.asks) hold.given.asks ≡ goes.later.others =
            ap (drop (length hold.taken.asks)) goes.later.asks
            ∙ drop_at hold.taken.asks goes.later.others (length hold.taken.asks) refl in
            armed entry.from ask
            (goes.answers entry ask (subst (λ asks. Contains asks entry) (sym behind) late) is)
      ]

  along : (holds : List (Hold SegsView)) (from last : SegsView) → Chain from holds last → All GoesOn holds → All Arms holds
      → AreArmedMade from → AreKeptMade from → AreKeptMade last
  along [] from last chain each arms armed kept = subst AreKeptMade (sym chain) kept
  along (hold ∷ holds) from last chain each arms armed kept =
      let goes = All-head GoesOn hold holds each in
      let so = All-head Arms hold holds arms in
      let armed_taken = subst AreArmedMade (sym chain.0) armed in
      along holds hold.given last chain.1 (All-tail GoesOn hold holds each) (All-tail Arms hold holds arms)
      (arms_on hold goes so armed_taken) (keeps_on hold goes armed_taken (subst AreKeptMade (sym chain.0) kept))

-- a grant and a refusal keep their ask, under its number
record KeepsAsk (entry : AskLog) : Type 0 where
  pub ask : Ask
  pub kept : entry.ask ≡ Some ask
  pub number : ask.number ≡ entry.number

keeps_ask : (segs : SegsView) (entry : AskLog) (outcome : Outcome) (log : List LogRecord) (before : List AskLog)
    → is_grant_or_refusal outcome ≡ true → HasCause segs.pools log before entry outcome → KeepsAsk entry
keeps_ask segs entry (Granted generation) log before shown (ask, run, kept, same, add) =
    record { ask = ask; kept = kept.kept; number = kept.which }
keeps_ask segs entry (Refused cause) log before shown (ask, kept, why) = record { ask = ask; kept = kept.kept; number = kept.which }
keeps_ask segs entry (Stale done) log before shown cause = cc
keeps_ask segs entry (Freed generation) log before shown cause = cc

is_of_ask : (log : List LogRecord) (outcome : Outcome) (asked : PagesAsked) (run : Option Run) → is_grant_or_refusal outcome ≡ true
    → IsOutcomeOf log outcome (Asked asked run)
is_of_ask log (Granted generation) asked run shown = tt
is_of_ask log (Refused cause) asked run shown = tt
is_of_ask log (Stale done) asked run shown = cc
is_of_ask log (Freed generation) asked run shown = cc

of_made : (did : ℕ → List Done) (log : List LogRecord) (entry : AskLog) → is_grant_or_refusal entry.outcome ≡ true → (keeps : KeepsAsk entry)
    → IsMadeFrom entry.from 1 (numbered_in (did entry.from)) keeps.ask → IsOfATrace log did entry
of_made did log entry shown keeps made =
    let number : entry.number ≡ 1 + made.place = sym keeps.number ∙ ap (λ (ask : Ask). ask.number) made.is in
    let place : made.place ≡ entry.number - 1 = omega (arith, number) in
    record {
      done = Asked made.asked made.run;
      some = omega (arith, number);
      its = subst (λ place. slice_get (numbered_in (did entry.from)) place ≡ Some (Asked made.asked made.run)) place made.there;
      kind = is_of_ask log entry.outcome made.asked made.run shown;
    }

pub outcomes_by_holds : OutcomesByHolds
outcomes_by_holds did first last holds all = λ k d within shown. traced (get_or last.asks k d) k (slice_get-get_or last.asks k d within) shown
  where
    arms : All (Arms did) holds
    arms = each_hold (λ who. ArmsSo who 1 (numbered_in (did who))) holds (λ who. arms_own who 1 (did who) (holds_of who holds) (all.does who))

    none_armed : AreArmedMade did first
    none_armed who ask is = absurd (never ask (sym (all.unarmed who) ∙ is))
      where
        never : (ask : Ask) → None ≡ Some ask → ⊥
        never ask same = cc

    none_kept : AreKeptMade did first
    none_kept entry ask among is = absurd (Contains-none entry (subst (λ asks. Contains asks entry) all.none among))

    made : AreKeptMade did last
    made = along did holds first last all.chain all.each arms none_armed none_kept

    traced : (entry : AskLog) (place : ℕ) → slice_get last.asks place ≡ Some entry → is_grant_or_refusal entry.outcome ≡ true
        → IsOfATrace last.log did entry
    traced entry place here shown =
        let caused = caused_at last.pools last.log [] last.asks place entry all.sound.asks.caused here in
        let keeps = keeps_ask last entry entry.outcome last.log caused.before shown caused.is.cause in
        of_made did last.log entry shown keeps (made entry keeps.ask (read_among last.asks place entry here) keeps.kept)
