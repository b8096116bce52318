-- What a turn of a wait makes fall, and how servings and turns join: the rule "Turns of a wait" of docs/PARTICIPANTS.md.
use Rattle.std.proofs.Common.{◌≡◌, ◌∙◌, ℕ, suc, ◌+◌, ◌*◌, ◌<◌, ◌≤◌, ◌⊎◌, ◌||◌, ◌&&◌, inl, inr, ⊎_elim, Bool, true, false, List, [], ◌∷◌, ◌++◌, Option, Some, None, refl, ap, sym, subst, arith}
use Rattle.std.specs.Prelude.{Result, Ok, Err, IfOk, OnErr, OnOk, nat_lt, unwrap_or}
use Rattle.std.proofs.lemmas.Bool.Decides.{nat_tests}
use Rattle.hp_core.specs.Core.{Core}
use Rattle.hp_hall.specs.Mail.{MailStep, Notes}
use Rattle.hp_hall.specs.Measures.{counted, moved_of, pause_measure}
use Rattle.hp_hall.specs.declared.note.Note.TheVariants.{Read, Yielded}
use Rattle.hp_serve.specs.Coordinating.{IsServed}
use Rattle.hp_serve.specs.Denials.{Denials}
use Rattle.hp_serve.specs.Falling.{held_sum, if_moved, least_measure, own_measure, served_of}
use Rattle.hp_serve.specs.Party.{Party, due_in}
use Rattle.hp_serve.specs.Waiting.{AreServings, AreTurns, AreTurnsOn, HaveServed, IsServedOut, IsSoonerOf, IsTurned, IsTurnedOn, IsWaited, PausesFor, WaitsOn, is_over}
use Rattle.hp_serve.proofs.Scaled.{own_measure_lower}

-- SERVINGS AND TURNS JOIN

pub no_servings : (denies : Denials) (count : ℕ) (party : Party) → AreServings denies count 0 party party []
unfolding AreServings
no_servings denies count party = (refl, refl)

module _ (count n : ℕ) (party mid after : Party) (first last : List MailStep) where
  servings_suc : {denies : Denials} → AreServings denies count n party mid first → IsServed denies count mid after last (Some true)
      → AreServings denies count (suc n) party after (first ++ last)
  unfolding AreServings
  servings_suc are one = (mid, first, last, are, one, refl)

  -- one serving more
  pub servings_more : {denies : Denials} → AreServings denies count n party mid first → IsServed denies count mid after last (Some true)
      → AreServings denies count (n + 1) party after (first ++ last)
  servings_more {denies} are one =
      let next : suc n ≡ n + 1 = omega arith in
      subst (λ m. AreServings denies count m party after (first ++ last)) next (servings_suc are one)

pub no_turns : (denies : Denials) (count until : ℕ) (heeds : Bool) (party : Party) → AreTurns denies count until heeds 0 party party []
unfolding AreTurns
no_turns denies count until heeds party = (refl, refl)

-- one turn more
pub turns_more : {denies : Denials}
    → (count until : ℕ) (heeds : Bool) (n : ℕ) (party mid after : Party) (first last : List MailStep) (now : ℕ) (moved : Bool)
    → AreTurns denies count until heeds n party mid first → WaitsOn heeds mid until now
    → IsTurned denies count until mid after last (Some moved)
    → AreTurns denies count until heeds (suc n) party after (first ++ (Notes (Read now) ∷ last))
unfolding AreTurns
turns_more count until heeds n party mid after first last now moved are waits one = (mid, first, last, now, moved, are, waits, one, refl)

pub no_turns_on : (denies : Denials) (count until : ℕ) (heeds : Bool) (party : Party) → AreTurnsOn denies count until heeds 0 party party []
unfolding AreTurnsOn
no_turns_on denies count until heeds party = (refl, refl)

-- so it is with turns that come to their end whoever stops
pub turns_on_more : {denies : Denials}
    → (count until : ℕ) (heeds : Bool) (n : ℕ) (party mid after : Party) (first last : List MailStep) (now : ℕ)
    → AreTurnsOn denies count until heeds n party mid first → WaitsOn heeds mid until now → IsTurnedOn denies count until mid after last
    → AreTurnsOn denies count until heeds (suc n) party after (first ++ (Notes (Read now) ∷ last))
unfolding AreTurnsOn
turns_on_more count until heeds n party mid after first last now are waits one = (mid, first, last, now, are, waits, one, refl)

-- ALL SERVE

module _ (count counted : ℕ) (same : counted ≡ count) (party after : Party) (own : List MailStep) (below above answer : Option Bool) where
  -- what one did itself, as many of them as there were before
  served_out : {denies : Denials} → (mine : Option Bool) → IsServedOut denies counted party after own mine
      → IsServedOut denies count party after own mine
  served_out {denies} mine served = subst (λ (count : ℕ). IsServedOut denies count party after own mine) same served

  -- it stopped itself
  pub own_stops : {denies : Denials} → (moved : Bool) → below ≡ Some moved → IsServedOut denies counted party after own None → answer ≡ None
      → HaveServed denies count party after (Notes (Yielded false below) ∷ own) answer
  own_stops moved below_is served is =
      HaveServed.stops moved own (served_out None served) (ap (λ moved. Notes (Yielded false moved) ∷ own) below_is) is

  -- one of those above did
  pub above_stop : {denies : Denials} → (moved mine : Bool) → below ≡ Some moved → IsServedOut denies counted party after own (Some mine)
      → above ≡ None → answer ≡ None
      → HaveServed denies count party after (Notes (Yielded false below) ∷ (own ++ Notes (Yielded true above) ∷ [])) answer
  above_stop moved mine below_is served above_is is =
      HaveServed.above_stops moved mine own (served_out (Some mine) served)
      (ap (λ moved. Notes (Yielded false moved) ∷ (own ++ Notes (Yielded true above) ∷ [])) below_is
      ∙ ap (λ other. Notes (Yielded false (Some moved)) ∷ (own ++ Notes (Yielded true other) ∷ [])) above_is) is

  -- nobody did
  pub all_served : {denies : Denials} → (moved mine other : Bool) → below ≡ Some moved
      → IsServedOut denies counted party after own (Some mine) → above ≡ Some other
      → answer ≡ Some (mine || (moved || other))
      → HaveServed denies count party after (Notes (Yielded false below) ∷ (own ++ Notes (Yielded true above) ∷ [])) answer
  all_served moved mine other below_is served above_is is =
      HaveServed.ends moved mine other own (served_out (Some mine) served)
      (ap (λ moved. Notes (Yielded false moved) ∷ (own ++ Notes (Yielded true above) ∷ [])) below_is
      ∙ ap (λ other. Notes (Yielded false (Some moved)) ∷ (own ++ Notes (Yielded true other) ∷ [])) above_is) is

-- THE PAUSE

-- what counts of the own round, beside its deadline
own_split : (scale : ℕ) (core : Option Core)
    → (rest : ℕ) × ((pending : ℕ → ℕ) → own_measure scale pending core ≡ rest + counted pending (due_in core))
own_split scale None = (0, λ pending. refl)
own_split scale (Some core) = (scale * least_measure core.phase + scale * held_sum core.held, λ pending. omega arith)

module _ (scale : ℕ) (late early : ℕ → ℕ) (lower : (deadline : ℕ) → late deadline ≤ early deadline) (core : Option Core)
    (old new uses reading until sooner : ℕ) (falls : new + late sooner + uses ≤ old + early sooner) where
  -- of the deadline that is waited for, and of its own round's
  pub pause_falls : (sooner ≡ until) ⊎ ((due_in core ≡ Some sooner) × (reading < sooner))
      → new + own_measure scale late core + late until + uses ≤ old + own_measure scale early core + early until
  pause_falls (inl same) =
      omega (arith, own_measure_lower scale late early lower core, ap late same, ap early same, falls)
  pause_falls (inr its_due) =
      let split = own_split scale core in
      omega (
        arith,
        split.1 late,
        split.1 early,
        ap (counted late) its_due.0,
        ap (counted early) its_due.0,
        lower until,
        falls,
      )

-- a pause is for a deadline that is still to come
pub sooner_pending : (pending : ℕ → ℕ → ℕ) (scale before behind reading until sooner : ℕ) (due : Option ℕ) → behind ≡ before
    → pending before until ≡ scale → ((deadline : ℕ) → reading < deadline → pending behind deadline ≡ scale)
    → IsSoonerOf reading until due sooner → pending behind sooner ≡ scale
sooner_pending pending scale before behind reading until sooner due still to_come read is =
    ⊎_elim
    (λ (same : sooner ≡ until). ap (pending behind) same ∙ ap (λ (at : ℕ). pending at until) still ∙ to_come)
    (λ (its_due : (due ≡ Some sooner) × (reading < sooner)). read sooner its_due.1)
    is.whose

-- WHAT A TURN USES UP

pub served_is : {E : Type 0} (result : Result Bool E) (moved : Bool) → result ≡ Ok moved → served_of result ≡ if_moved moved
served_is (Ok true) true is = refl
served_is (Ok true) false is = cc
served_is (Ok false) true is = cc
served_is (Ok false) false is = refl
served_is (Err refusal) moved is = cc

moved_is : {E : Type 0} (result : Result Bool E) (moved : Bool) → result ≡ Ok moved → moved_of result ≡ if_moved moved
moved_is (Ok true) true is = refl
moved_is (Ok true) false is = cc
moved_is (Ok false) true is = cc
moved_is (Ok false) false is = refl
moved_is (Err refusal) moved is = cc

-- what moved at all is of one of the three
pub any_moved : (scale : ℕ) (own below above moved : Bool) → moved ≡ (own || (below || above))
    → scale * if_moved moved ≤ scale * if_moved own + scale * if_moved below + scale * if_moved above
any_moved scale true below above moved is = omega (arith, ap (λ (b : Bool). scale * if_moved b) is)
any_moved scale false true above moved is = omega (arith, ap (λ (b : Bool). scale * if_moved b) is)
any_moved scale false false above moved is = omega (arith, ap (λ (b : Bool). scale * if_moved b) is)

-- what moved in a turn in which somebody stopped, by what each of the three answered
pub moved_on : (moved own below above : Bool) (mine under over : Option Bool) → moved ≡ (own || (below || above)) → own ≡ unwrap_or mine false
    → below ≡ unwrap_or under true → above ≡ unwrap_or over true
    → moved ≡ (unwrap_or mine false || (unwrap_or under true || unwrap_or over true))
moved_on moved own below above mine under over is own_is below_is above_is =
    is ∙ ap (λ (b : Bool). b || (below || above)) own_is ∙ ap (λ (b : Bool). unwrap_or mine false || (b || above)) below_is
    ∙ ap (λ (b : Bool). unwrap_or mine false || (unwrap_or under true || b)) above_is

-- whoever moved something pays for what the turn answers
pub all_pay : {E : Type 0} (scale : ℕ) (first second third all : Result Bool E) (below own above moved : Bool) → first ≡ Ok below → second ≡ Ok own
    → third ≡ Ok above → moved ≡ (own || (below || above)) → all ≡ Ok moved
    → scale * served_of all ≤ scale * moved_of first + scale * served_of second + scale * moved_of third
all_pay scale first second third all below own above moved first_is second_is third_is is all_is =
    omega (
      arith,
      any_moved scale own below above moved is,
      ap (λ (n : ℕ). scale * n) (served_is second own second_is),
      ap (λ (n : ℕ). scale * n) (moved_is first below first_is),
      ap (λ (n : ℕ). scale * n) (moved_is third above third_is),
      ap (λ (n : ℕ). scale * n) (served_is all moved all_is),
    )

-- what moved, or else the pause, uses up 1
pub paid : (scale : ℕ) (moved : Bool) → 1 ≤ pause_measure scale moved + scale * if_moved moved
paid scale true = omega arith
paid scale false = omega arith

-- so it is by an answer
pub turn_pays : {E : Type 0} (scale : ℕ) (result : Result Bool E) (moved : Bool) → result ≡ Ok moved
    → 1 ≤ pause_measure scale moved + scale * served_of result
turn_pays scale result moved is = omega (arith, paid scale moved, ap (λ (n : ℕ). scale * n) (served_is result moved is))

-- RESULTS

pub on_err : {T E : Type 0} (result : Result T E) (P : Type 0) → P → OnErr result P
on_err (Ok value) P holds = tt
on_err (Err refusal) P holds = holds

pub no_ok : {T E : Type 0} (result : Result T E) (refusal : E) (P : Type 0) → result ≡ Err refusal → OnOk result P
no_ok (Ok value) refusal P is = cc
no_ok (Err refused) refusal P is = tt

pub if_no_ok : {T E : Type 0} (result : Result T E) (refusal : E) (P : T → Type 0) → result ≡ Err refusal → IfOk result P
if_no_ok (Ok value) refusal P is = cc
if_no_ok (Err refused) refusal P is = tt

pub some_more : (n : ℕ) → true ≡ nat_lt 0 (n + 1)
some_more n = grind (arith, nat_tests)

pub moved_differs : {E : Type 0} (moved : Bool) (result : Result Bool E) → result ≡ Ok moved → moved ≡ true → result ≡ Ok false → ⊥
moved_differs true result is moved same = cc
moved_differs false result is moved same = cc

pub ok_is : {E : Type 0} (result : Result Bool E) (more other : Bool) → result ≡ Ok more → more ≡ other → result ≡ Ok other
ok_is result more other is same = is ∙ ap Ok same

-- an answer of the kind that another one is
abbrev pub answer_like : {E : Type 0} → Result Bool E → Bool → Result Bool E
answer_like other moved = Ok moved

pub served_if : {E : Type 0} (other : Result Bool E) (moved : Bool) → served_of (answer_like other moved) ≡ if_moved moved
served_if other true = refl
served_if other false = refl

-- what is counted where something moved is what the answer counts
pub weighs_so : {E : Type 0} (scale new old : ℕ) (other : Result Bool E) (moved : Bool) → new + scale * if_moved moved ≤ old
    → new + scale * served_of (answer_like other moved) ≤ old
weighs_so scale new old other moved falls = omega (arith, falls, ap (λ (n : ℕ). scale * n) (served_if other moved))

-- where nothing moved it did nothing itself
pub or_none : {E : Type 0} (result all : Result Bool E) (own others moved : Bool) → result ≡ Ok own → all ≡ Ok moved → moved ≡ (own || others)
    → all ≡ Ok false → result ≡ Ok false
or_none result all false others moved is all_is moved_is none = is
or_none result all true others moved is all_is moved_is none =
    absurd (moved_differs moved all all_is moved_is none)

-- a pause at a clock that has stood
pub pause_since : (IsToCome : ℕ → ℕ → Type 0) (until : ℕ) (due : Option ℕ) (start mid behind : ℕ) → mid ≡ start
    → PausesFor (IsToCome mid) until due mid behind → PausesFor (IsToCome start) until due start behind
pause_since IsToCome until due start mid behind still paused =
    subst (λ (at : ℕ). PausesFor (IsToCome at) until due at behind) still paused

-- a turn leaves the clock as it was, or no further on than the deadline that is waited for
pub turned_clock : (IsToCome : ℕ → Type 0) (until : ℕ) (due : Option ℕ) (start mid behind : ℕ) → PausesFor IsToCome until due mid behind
    → (mid ≡ start) ⊎ (mid ≤ until) → (behind ≡ start) ⊎ (behind ≤ until)
turned_clock IsToCome until due start mid behind paused before =
    ⊎_elim
    (λ (same : behind ≡ mid). subst (λ (at : ℕ). (at ≡ start) ⊎ (at ≤ until)) (sym same) before)
    (λ (below : behind ≤ paused.sooner).
    let within = paused.is_sooner.within in
    inr (omega (arith, below, within)))
    paused.goes

-- so does what leaves the clock standing
pub clock_still : (until start mid behind : ℕ) → behind ≡ mid → (mid ≡ start) ⊎ (mid ≤ until) → (behind ≡ start) ⊎ (behind ≤ until)
clock_still until start mid behind still before = subst (λ (at : ℕ). (at ≡ start) ⊎ (at ≤ until)) (sym still) before

unheeded : (heeds answered : Bool) → heeds ≡ false → (heeds && answered) ≡ true → ⊥
unheeded true answered is over = cc
unheeded false answered is over = cc

-- who heeds no answer waits for the deadline
pub past_deadline : (heeds : Bool) (party : Party) (until reading : ℕ) → heeds ≡ false → (is_over heeds party ≡ true) ⊎ (until ≤ reading)
    → until ≤ reading
past_deadline heeds party until reading unheeding over =
    ⊎_elim
    (λ (answered : is_over heeds party ≡ true). absurd (unheeded heeds party.answered unheeding answered))
    (λ (past : until ≤ reading). past)
    over

-- and then a reading has reached it
pub waited_past : {denies : Denials} → (count until : ℕ) (party after : Party) (steps : List MailStep) (now : ℕ)
    → IsWaited denies count until false party after steps (Some now) → until ≤ now
waited_past count until party after steps now (IsWaited.ends turns read first are ended did is) =
    let past = past_deadline false after until read refl ended in
    let same : read ≡ now = cc in
    subst (λ (at : ℕ). until ≤ at) same past
waited_past count until party after steps now (IsWaited.stops turns read mid first last are waits one did is) = cc
