-- A participant that holds no slot, or one, in a hall.
use Rattle.std.proofs.Common.{◌≢◌, ◌∙◌, ℕ, ◌<◌, ◌≤◌, ap, inl, inr, sym, subst, arith}
use Rattle.std.proofs.lemmas.Bool.{cases_eq}
use Rattle.hp_base.specs.declared.limits.TheConstants.{MAX_HEAPS}
use Rattle.hp_hall.specs.HallState.{HallState, IsLater, MayServe, SlotsStay, SlotsStayBut}
use Rattle.hp_proc.specs.LineInHall.{AreFreeBut, IsFreeAt, IsIdleIn, IsReadyIn, MayChangeRoster}
use Rattle.hp_proc.specs.ParticipantView.{ParticipantView}
use Rattle.hp_serve.specs.InHall.{CanServe, IsTiedIn, StaysIn}
use Rattle.hp_serve.specs.Party.{Party}
use Rattle.hp_serve.proofs.SegmentSlots.{may_hold}

-- who holds no slot may serve, and goes on holding none
pub idle_may : {me : ℕ} {party : Party} {a : HallState} → IsIdleIn me party a → MayServe me a
idle_may idle = record { serves = idle.serves; declared = idle.declared; free = idle.free MAX_HEAPS; home = idle.home MAX_HEAPS (omega arith) }

pub idle_can : {me : ℕ} {party : Party} {a : HallState} → IsIdleIn me party a → CanServe me party a
idle_can idle = record { may = idle_may idle; tied = idle.tied }

-- who is ready for a line may attach or detach
pub may_change : {me : ℕ} {doer : ParticipantView} {a : HallState} → IsReadyIn me doer a → MayChangeRoster me doer a
may_change ready = record { may = may_hold (idle_may ready.idle); tied = ready.idle.tied; attached = ready.attached }

pub idle_still : {me : ℕ} {old new : Party} {a b : HallState} → SlotsStay a b → IsLater a b → IsTiedIn me new b → IsIdleIn me old a
    → IsIdleIn me new b
idle_still {me} slots later tied idle = record {
  serves = later.serves me idle.serves;
  declared = omega (arith, later.count, idle.declared);
  free = λ number. slots.taken number ∙ idle.free number;
  home = λ number few. slots.home number (idle.home number few);
  tied = tied;
}

pub idle_in : {me : ℕ} {old new : Party} {a b : HallState} → StaysIn me old new a b → IsIdleIn me old a → IsIdleIn me new b
idle_in here idle = idle_still here.waits.slots here.waits.later here.tied idle

-- it holds that slot at most, after a call that leaves the others
pub free_but : {me slot : ℕ} {party : Party} {a b : HallState} → SlotsStayBut slot a b → IsIdleIn me party a → AreFreeBut slot b
free_but slots idle = record {
  taken = λ number apart. slots.taken number apart ∙ idle.free number;
  home = λ number few apart. slots.home number apart (idle.home number few);
}

pub free_at : {me slot : ℕ} {party : Party} {a : HallState} → slot ≤ MAX_HEAPS → IsIdleIn me party a → IsFreeAt slot a
free_at {me} {slot} few idle = record { taken = idle.free slot; home = idle.home slot (omega (arith, few)) }

-- who holds one heap may serve
pub may_but : {me slot : ℕ} {party : Party} {a b : HallState} → slot < MAX_HEAPS → IsLater a b → SlotsStayBut slot a b → IsIdleIn me party a
    → MayServe me b
may_but {me} {slot} few later slots idle =
    let apart : MAX_HEAPS ≢ slot = λ same. omega (arith, few, same) in
    record {
      serves = later.serves me idle.serves;
      declared = omega (arith, later.count, idle.declared);
      free = slots.taken MAX_HEAPS apart ∙ idle.free MAX_HEAPS;
      home = slots.home MAX_HEAPS apart (idle.home MAX_HEAPS (omega arith));
    }

-- who held one slot at most, and holds that no longer, holds none
pub idle_again : {me slot : ℕ} {party : Party} {a : HallState} → a.serves me → me < a.count → IsTiedIn me party a → AreFreeBut slot a
    → IsFreeAt slot a → IsIdleIn me party a
idle_again {me} {slot} {party} {a} serves declared tied others here = record {
  serves = serves;
  declared = declared;
  free = λ number. elim (cases_eq number slot) [
    | inl is ↦ ap a.taken is ∙ here.taken
    | inr apart ↦ others.taken number apart
  ];
  home = λ number few. elim (cases_eq number slot) [
    | inl is ↦ subst a.may_take (sym is) here.home
    | inr apart ↦ others.home number few apart
  ];
  tied = tied;
}
