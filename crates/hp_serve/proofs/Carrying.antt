-- What participant 0 carries out for its coordinator, put together of its parts: the rule "Coordinating" of docs/PARTICIPANTS.md.
use Rattle.std.proofs.Common.{◌≡◌, ◌∙◌, ℕ, ◌+◌, ◌*◌, ◌<◌, ◌≤◌, Bool, true, false, List, [], ◌∷◌, ◌++◌, Option, Some, None, refl, ap, sym, subst, append_assoc, arith}
use Rattle.std.specs.Prelude.{OnOk, Result, Ok, Err}
use Rattle.std.specs.Result.{result_ok}
use Rattle.hp_core.specs.Core.{Core}
use Rattle.hp_core.specs.declared.event.CoreEvent.{CoreEvent}
use Rattle.hp_core.specs.declared.out.Out.{Out}
use Rattle.hp_hall.specs.Mail.{MailStep}
use Rattle.hp_serve.specs.Coordinating.{Hands, IsCarried, IsHandled, IsMapped, IsSettled, MustMap, with_core}
use Rattle.hp_serve.specs.Denials.{Denials}
use Rattle.hp_serve.specs.Falling.{CoreFalls, Falls, IsDue, IsDueAt, brought, held_sum, least_measure, maps_measure, out_measure, own_measure}
use Rattle.hp_serve.specs.Party.{IsSameParty, Party}
use Rattle.hp_serve.specs.Posting.{IsPosted, IsSpoken}
use Rattle.hp_serve.proofs.Handed.{handed_spoken}
use Rattle.hp_serve.proofs.Scaled.{carried_less, handed_due, handed_falls, map_brings, scaled, scaled_used}

-- whoever carries on from where participant 0 has come to, has carried all from its beginning on
abbrev pub LeadsOn : ℕ → Party → Out → List MailStep → Party → Out → Type 0
LeadsOn count party answer steps now next =
    (path : List Party) (after : Party) (more : List MailStep) (goes : Bool) → IsCarried count path now after next more goes
    → (whole : List Party) × IsCarried count whole party after answer (steps ++ more) goes

pub leads_here : (count : ℕ) (party : Party) (answer : Out) → LeadsOn count party answer [] party answer
leads_here count party answer = λ path after more goes is. (path, is)

-- it has caught up once more
pub leads_more : (count : ℕ) (party now mid : Party) (answer next further : Out) (steps first : List MailStep)
    → LeadsOn count party answer steps now next → MustMap next → IsMapped now mid first (Some further)
    → LeadsOn count party answer (steps ++ first) mid further
leads_more count party now mid answer next further steps first leads must mapped = λ path after more goes is.
    let whole = leads (mid ∷ path) after (first ++ more) goes (further, first, more, refl, must, mapped, is) in
    (whole.0, subst (λ all. IsCarried count whole.0 party after answer all goes) (sym (append_assoc steps first more)) whole.1)

-- what is answered at last is posted
pub leads_posted : (count : ℕ) (party now after : Party) (answer next : Out) (steps more : List MailStep)
    → LeadsOn count party answer steps now next → IsPosted count now after next more
    → (whole : List Party) × IsCarried count whole party after answer (steps ++ more) true
leads_posted count party now after answer next steps more leads posted = leads [] after more true (IsSettled.posts posted refl)

-- or it could not catch up, and stops
pub leads_stopped : (count : ℕ) (party now after : Party) (answer next : Out) (steps more : List MailStep)
    → LeadsOn count party answer steps now next → MustMap next → IsMapped now after more None
    → (whole : List Party) × IsCarried count whole party after answer (steps ++ more) false
leads_stopped count party now after answer next steps more leads must mapped = leads [] after more false (IsSettled.stops must mapped refl)

-- what is under way and held, as each catching up makes it less
abbrev pub under_way : Option Core → ℕ
under_way None = 0
under_way (Some core) = least_measure core.phase + held_sum core.held

pub less_under_way : (old new : Option Core) (before answer : Out) → MustMap before → CoreFalls 0 (maps_measure answer) old new answer
    → under_way new + maps_measure answer < under_way old + maps_measure before
less_under_way old new before answer must is =
    let told = map_brings before must in
    let less = carried_less 0 is.before is.behind answer is.falls in
    omega (arith, ap under_way is.old_is, ap under_way is.new_is, told.1, less)

pub same_party : (party : Party) → IsSameParty party party
same_party party = record { me = refl; socket = refl; plan = refl; deadline = refl }

pub same_then : (first second third : Party) → IsSameParty first second → IsSameParty second third → IsSameParty first third
same_then first second third here there = record {
  me = there.me ∙ here.me;
  socket = there.socket ∙ here.socket;
  plan = there.plan ∙ here.plan;
  deadline = there.deadline ∙ here.deadline;
}

-- an event that was handed over, and whose answer was carried out, is handled
pub handled_on : {denies : Denials}
    → (count counted : ℕ) (event : CoreEvent) (party mid after : Party) (core next : Core) (answer : Out) (path : List Party)
    (first more : List MailStep) (goes : Bool) → counted ≡ count → party.core ≡ Some core → mid ≡ with_core next party
    → Hands denies event core next first (Some answer) → IsCarried counted path mid after answer more goes
    → IsHandled denies count event party after (first ++ more) goes
handled_on count counted event party mid after core next answer path first more goes same core_is mid_is hands carried =
    IsHandled.carries core next answer path first more core_is hands
    (subst (λ n. IsCarried n path (with_core next party) after answer more goes) same
    (subst (λ mid. IsCarried counted path mid after answer more goes) mid_is carried)) refl

pub handled_stop : {denies : Denials} → (count : ℕ) (event : CoreEvent) (party after : Party) (core next : Core) (steps : List MailStep)
    → party.core ≡ Some core
    → after ≡ with_core next party → Hands denies event core next steps None → IsHandled denies count event party after steps false
handled_stop count event party after core next steps core_is after_is hands = IsHandled.stops core next core_is hands after_is refl

module _ {denies : Denials} (scale : ℕ) (pending : ℕ → ℕ → ℕ) (most : (at deadline : ℕ) → pending at deadline ≤ scale)
    (before behind : ℕ) (still : behind ≡ before) (event : CoreEvent) (core next : Core) (steps : List MailStep) (answer : Out)
    (hands : Hands denies event core next steps (Some answer))
    (old new : Option Core) (old_is : old ≡ Some core) (new_is : new ≡ Some next) where
  -- what an event brings pays for what its step leaves and answers
  pub hands_weigh : own_measure scale (pending behind) new + scale * out_measure answer ≤ own_measure scale (pending before) old + scale * brought event
  hands_weigh =
      let falls : Falls event core next answer = handed_falls event core next hands.taken hands.more answer hands.is_handed in
      omega (
        arith,
        ap (own_measure scale (pending behind)) new_is,
        ap (own_measure scale (pending before)) old_is,
        scaled scale pending most before behind still (brought event) _ core next answer falls,
      )

  -- a poll that is due uses up 1 besides
  pub hands_due : IsDue old event
      → own_measure scale (pending behind) new + scale * (out_measure answer + 1) ≤ own_measure scale (pending before) old
  hands_due due =
      let at : IsDueAt core event = subst (λ core. IsDue core event) old_is due in
      omega (
        arith,
        ap (own_measure scale (pending behind)) new_is,
        ap (own_measure scale (pending before)) old_is,
        scaled_used scale pending most before behind still 0 1 core next answer
            (handed_due event core next hands.taken hands.more answer at hands.is_handed),
      )

-- what it answers is among the values of frames
pub hands_spoken : {denies : Denials} → (event : CoreEvent) (core next : Core) (steps : List MailStep) (answer : Out)
    → Hands denies event core next steps (Some answer)
    → IsSpoken answer
hands_spoken event core next steps answer hands = handed_spoken event core next hands.taken hands.more answer hands.is_handed

pub on_ok : {T E : Type 0} (result : Result T E) (P : Type 0) → P → OnOk result P
on_ok (Ok value) P holds = holds
on_ok (Err refusal) P holds = tt

pub on_ok_then : {T E : Type 0} (result : Result T E) (P Q : Type 0) → (P → Q) → OnOk result P → OnOk result Q
on_ok_then (Ok value) P Q on holds = on holds
on_ok_then (Err refusal) P Q on holds = tt

-- what a poll that is due uses up, where the clock stands and little was done before
pub due_before : {T E : Type 0} (result : Result T E) (scale : ℕ) (pending : ℕ → ℕ → ℕ) (start mid : ℕ) (core : Option Core)
    (old between behind own : ℕ) → mid ≡ start → between ≤ old
    → OnOk result (behind + own + scale * 1 ≤ between + own_measure scale (pending mid) core + scale * 0)
    → OnOk result (behind + own + scale * 1 ≤ old + own_measure scale (pending start) core)
due_before (Ok value) scale pending start mid core old between behind own still lighter falls =
    omega (arith, ap (λ at. own_measure scale (pending at) core) still, lighter, falls)
due_before (Err refusal) scale pending start mid core old between behind own still lighter falls = tt

-- what answered that something was done did not answer that nothing was
pub done_differs : {E : Type 0} (result : Result Bool E) → result_ok result ≡ Some true → result ≡ Ok false → ⊥
done_differs result done same = differs (sym done ∙ ap result_ok same)
  where
    differs : Some true ≡ Some false → ⊥
    differs equal = cc

pub stop_differs : {E : Type 0} (result : Result Bool E) → result_ok result ≡ None → result ≡ Ok false → ⊥
stop_differs result done same = differs done (ap result_ok same)
  where
    differs : {none : Option Bool} → none ≡ None → none ≡ Some false → ⊥
    differs is equal = cc
