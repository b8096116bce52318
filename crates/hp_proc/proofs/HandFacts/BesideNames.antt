-- A participant that may have the names in hand: what it does beside them leaves them, and what it knows for them.
use Rattle.std.proofs.Common.{◌≡◌, ◌≢◌, ◌∙◌, ℕ, ◌<◌, ◌≤◌, eqb, cond, List, [], ◌∷◌, Bool, true, false, Option, Some, None, refl, ap, sym, subst, ⊎_elim, inl, inr, arith}
use Rattle.std.specs.Option.{option_map}
use Rattle.std.proofs.lemmas.Bool.{cases_eq, cond-false, cond-true}
use Rattle.std.proofs.lemmas.Bool.Decides.{eqb_tells}
use Rattle.std.proofs.lemmas.List.Sums.{fold-append}
use Rattle.hp_base.specs.declared.limits.TheConstants.{MAX_HEAPS}
use Rattle.hp_hall.specs.HallState.{Did, HallState, MayServe, SlotsStay, SlotsStayBut, PartsStay}
use Rattle.hp_hall.specs.Holding.{AgreeWith, AreApart, HeapPart, IsAsPart, IsPartTaken, part_ended}
use Rattle.hp_hall.specs.Mail.{MailStep, Gives, Notes, Takes}
use Rattle.hp_hall.specs.Naming.{Naming, naming_of}
use Rattle.hp_hall.specs.Telling.{has_names, names_after}
use Rattle.hp_hall.specs.declared.kept.Kept.TheVariants.{Heap}
use Rattle.hp_hall.specs.declared.note.Note.TheVariants.{Published}
use Rattle.hp_hall.specs.declared.slot.TheConstants.{NAMES_SLOT}
use Rattle.hp_heap.specs.History.{HeapView}
use Rattle.hp_stats.specs.StatViews.{PenView}
use Rattle.hp_stats.specs.declared.stat_pair.StatPair.{StatPair}
use Rattle.hp_zone.specs.declared.names.Names.{Names as NamesView}
use Rattle.hp_proc.specs.Contexts.{Context}
use Rattle.hp_proc.specs.Heaps.{sockets_of}
use Rattle.hp_proc.specs.LineInHall.{AreFreeBesideNames, HasCalled, HasCalledBeside, IsBesideTheNames, IsFreeAt, IsReadyBut, IsReadyIn, KeepsHeld, KnowsAsBefore, MayGiveBeside, NamesStay}
use Rattle.hp_proc.specs.NamesInHand.{KeepsAgreed, with_naming}
use Rattle.hp_proc.specs.ParticipantView.{ParticipantView}
use Rattle.hp_serve.specs.InHall.{CanServe, StaysIn, marked_in}
use Rattle.hp_proc.proofs.HandFacts.HandGiven.{ready_still}
use Rattle.hp_proc.proofs.HandFacts.HandMarks.{noted_same}

-- who is ready but for the names may serve
pub beside_may : {me : ℕ} {doer : ParticipantView} {a : HallState} → IsReadyBut NAMES_SLOT me doer a → MayServe me a
beside_may ready = record {
  serves = ready.serves;
  declared = ready.declared;
  free = ready.free.taken MAX_HEAPS (λ same. omega (arith, same));
  home = ready.free.home MAX_HEAPS (omega arith) (λ same. omega (arith, same));
}

pub beside_can : {me : ℕ} {doer : ParticipantView} {a : HallState} → IsReadyBut NAMES_SLOT me doer a → CanServe me doer.party a
beside_can ready = record { may = beside_may ready; tied = ready.tied }

-- and is so after a wait
pub beside_in : {me : ℕ} (old new : ParticipantView) {a b : HallState} → StaysIn me old.party new.party a b → new.context ≡ old.context
    → IsReadyBut NAMES_SLOT me old a → IsReadyBut NAMES_SLOT me new b
beside_in {me} old new {a} {b} stays knew ready =
    let others = stays.waits.later.heard me in
    record {
      serves = stays.waits.later.serves me ready.serves;
      declared = omega (arith, stays.waits.later.count, ready.declared);
      free = record {
        taken = λ number apart. stays.waits.slots.taken number ∙ ready.free.taken number apart;
        home = λ number few apart. stays.waits.slots.home number (ready.free.home number few apart);
      };
      tied = stays.tied;
      ready = ready_still old new (a.part me) (b.part me) (a.seen me) (b.seen me) (a.heard me) (b.heard me) others.0 stays.same knew
          stays.waits.parts.part others.1 ready.ready;
      attached = stays.waits.parts.joined ∙ (ready.attached ∙ sym (ap (λ (context : Context). context.standing.attached) knew));
      named = (stays.waits.later.named me).sockets ∙ (ready.named ∙ sym (ap (λ (context : Context). sockets_of context.pools) knew));
      chunks = λ index.
          noted_same index (marked_in me a index) (marked_in me b index) old.context new.context
          (ap (λ (part : HeapPart). part.marked) (stays.waits.parts.part index)) knew (ready.chunks index);
    }

-- who is ready is so but for the names, and is ready where these are home
pub but_home : {me : ℕ} {doer : ParticipantView} {a : HallState} → IsReadyIn me doer a → IsReadyBut NAMES_SLOT me doer a
but_home ready = record {
  serves = ready.idle.serves;
  declared = ready.idle.declared;
  free = record { taken = λ number apart. ready.idle.free number; home = λ number few apart. ready.idle.home number few };
  tied = ready.idle.tied;
  ready = ready.ready;
  attached = ready.attached;
  named = ready.named;
  chunks = ready.chunks;
}

pub home_again : {me : ℕ} {doer : ParticipantView} {a : HallState} → IsReadyBut NAMES_SLOT me doer a → IsFreeAt NAMES_SLOT a → IsReadyIn me doer a
home_again {me} {doer} {a} ready at = record {
  idle = record {
    serves = ready.serves;
    declared = ready.declared;
    free = λ number.
        ⊎_elim (λ (is : number ≡ NAMES_SLOT). ap a.taken is ∙ at.taken) (λ (apart : number ≢ NAMES_SLOT). ready.free.taken number apart)
        (cases_eq number NAMES_SLOT);
    home = λ number few.
        ⊎_elim (λ (is : number ≡ NAMES_SLOT). subst a.may_take (sym is) at.home)
        (λ (apart : number ≢ NAMES_SLOT). ready.free.home number few apart) (cases_eq number NAMES_SLOT);
    tied = ready.tied;
  };
  ready = ready.ready;
  attached = ready.attached;
  named = ready.named;
  chunks = ready.chunks;
}

-- so it is with what it did beside them, where they were home
pub called_home : {me : ℕ} {old new : ParticipantView} {a b : HallState} → IsReadyIn me old a → HasCalledBeside me old new a b
    → HasCalled me old new b
called_home ready called = record {
  again = record {
    same = called.same;
    ready = home_again called.but (record {
      taken = called.names.slot.taken ∙ ready.idle.free NAMES_SLOT;
      home = called.names.slot.home (ready.idle.home NAMES_SLOT (omega arith));
    });
  };
  context = called.context;
}

-- THE NAMES' SLOT

pub names_same : (me : ℕ) (a : HallState) → IsBesideTheNames me a a
names_same me a = record { slot = record { taken = refl; home = λ may. may }; told = refl }

pub names_then : {me : ℕ} {a b c : HallState} → IsBesideTheNames me a b → IsBesideTheNames me b c → IsBesideTheNames me a c
names_then here next = record {
  slot = record { taken = next.slot.taken ∙ here.slot.taken; home = λ may. next.slot.home (here.slot.home may) };
  told = next.told ∙ here.told;
}

-- who may give a heap back beside the names may do so after that
pub gives_beside : {me : ℕ} {a b : HallState} → IsBesideTheNames me a b → MayGiveBeside me a → MayGiveBeside me b
gives_beside {me} {a} {b} names beside =
    ⊎_elim (λ (out : a.taken NAMES_SLOT ≡ None). inl (names.slot.taken ∙ out)) (λ (has : has_names (a.done me) ≡ true). inr (names.told ∙ has))
    beside

pub names_stay : {me : ℕ} {a b : HallState} → SlotsStay a b → has_names (b.done me) ≡ has_names (a.done me) → IsBesideTheNames me a b
names_stay slots told = record { slot = record { taken = slots.taken NAMES_SLOT; home = slots.home NAMES_SLOT }; told = told }

pub names_but : {me slot : ℕ} {a b : HallState} → slot < MAX_HEAPS → SlotsStayBut slot a b → has_names (b.done me) ≡ has_names (a.done me)
    → IsBesideTheNames me a b
names_but {me} {slot} few slots told =
    let apart : NAMES_SLOT ≢ slot = λ same. omega (arith, few, same) in
    record { slot = record { taken = slots.taken NAMES_SLOT apart; home = slots.home NAMES_SLOT apart }; told = told }

pub names_kept : {me : ℕ} {first last : ParticipantView} {before behind : HeapView} {a b : HallState} → KeepsHeld me first last before behind a b
    → IsBesideTheNames me a b
names_kept keeps = names_stay keeps.remains.slots keeps.knows.told

-- a heap that is taken or given, and what is published of it, leaves the names in hand, or not in hand
pub told_taken : {me slot : ℕ} {heap : HeapView} {pen : PenView} {a b : HallState} → Did me (Takes slot (Heap heap pen) ∷ []) a b
    → has_names (b.done me) ≡ has_names (a.done me)
told_taken {me} {slot} {heap} {pen} {a} {b} did =
    ap has_names did.made ∙ fold-append names_after false (a.done me) (Takes slot (Heap heap pen) ∷ [])

pub told_given : {me slot index : ℕ} {pair : StatPair} {heap : HeapView} {pen : PenView} {a b : HallState}
    → Did me (Notes (Published index pair) ∷ Gives slot (Heap heap pen) ∷ []) a b → has_names (b.done me) ≡ has_names (a.done me)
told_given {me} {slot} {index} {pair} {heap} {pen} {a} {b} did =
    ap has_names did.made ∙ fold-append names_after false (a.done me) (Notes (Published index pair) ∷ Gives slot (Heap heap pen) ∷ [])

-- the other slots are free while a heap is in hand
pub but_kept : {slot index me : ℕ} {first last : ParticipantView} {before behind : HeapView} {old a b : HallState} → index ≡ slot
    → AreFreeBesideNames slot me old a → KeepsHeld me first last before behind a b → AreFreeBesideNames index me old b
but_kept {slot} {index} {me} {first} {last} {before} {behind} {old} {a} {b} same free keeps =
    subst (λ (slot : ℕ). AreFreeBesideNames slot me old b) (sym same)
    (record {
      taken = λ number apart away. keeps.remains.slots.taken number ∙ free.taken number apart away;
      home = λ number few apart. keeps.remains.slots.home number (free.home number few apart);
      names = names_then free.names (names_kept keeps);
    })

-- WHAT IT KNOWS FOR THEM

pub knows_same : (me : ℕ) (a : HallState) → KnowsAsBefore me a a
knows_same me a = record { naming = λ heap. refl; claims = λ heap. refl; told = refl }

pub knows_then : {me : ℕ} {a b c : HallState} → KnowsAsBefore me a b → KnowsAsBefore me b c → KnowsAsBefore me a c
knows_then here next = record {
  naming = λ heap. next.naming heap ∙ here.naming heap;
  claims = λ heap. next.claims heap ∙ here.claims heap;
  told = next.told ∙ here.told;
}

pub knows_parts : {me : ℕ} {a b : HallState} → ((heap : ℕ) → b.part me heap ≡ a.part me heap) → has_names (b.done me) ≡ has_names (a.done me)
    → KnowsAsBefore me a b
knows_parts parts told = record {
  naming = λ heap. ap (λ (part : HeapPart). part.naming) (parts heap);
  claims = λ heap. ap (λ (part : HeapPart). part.claims) (parts heap);
  told = told;
}

-- names that agreed with what it knew agree with what it knows, where that is the same for them
pub agree_alike : {names : NamesView} (old new : ℕ → HeapPart) → ((heap : ℕ) → (new heap).naming ≡ (old heap).naming)
    → ((heap : ℕ) → (new heap).claims ≡ (old heap).claims) → AgreeWith old names → AgreeWith new names
agree_alike old new naming claims agree = record {
  namings = agree.namings;
  claims = agree.claims;
  known = λ heap few. naming heap ∙ agree.known heap few;
  claimed = λ heap. claims heap ∙ agree.claimed heap;
  agreed = agree.agreed;
}

module _ (heap : HeapView) (parts : ℕ → HeapPart) (index : ℕ) where
  abbrev as_now : HeapPart
  as_now = record (parts index) { naming = option_map (λ (naming : Naming). naming_of heap.plain) (parts index).naming }

  -- what they speak of, of the heap in hand, is as that is by now, and of others as it was given back last
  pub naming_here : index ≡ heap.plain.index
      → (with_naming heap parts index).naming ≡ option_map (λ (naming : Naming). naming_of heap.plain) (parts index).naming
  naming_here same =
      ap (λ (part : HeapPart). part.naming) (cond-true (eqb index heap.plain.index) as_now (parts index) (eqb_same same))
    where
      eqb_same : index ≡ heap.plain.index → eqb index heap.plain.index ≡ true
      eqb_same same = ⊎_elim (λ here. here.0) (λ there. absurd (there.1 same)) (eqb_tells index heap.plain.index)

  pub naming_apart : eqb index heap.plain.index ≡ false → with_naming heap parts index ≡ parts index
  naming_apart apart = cond-false (eqb index heap.plain.index) as_now (parts index) apart

  claims_by : (b : Bool) (part other : HeapPart) → other.claims ≡ part.claims → (cond b other part).claims ≡ part.claims
  claims_by true part other same = same
  claims_by false part other same = refl

  pub naming_claims : (with_naming heap parts index).claims ≡ (parts index).claims
  naming_claims = claims_by (eqb index heap.plain.index) (parts index) as_now refl

-- so do names with a heap in hand of which they speak alike
pub naming_alike : (before behind : HeapView) (old new : ℕ → HeapPart) → behind.plain.index ≡ before.plain.index
    → naming_of behind.plain ≡ naming_of before.plain → ((heap : ℕ) → (new heap).naming ≡ (old heap).naming) → (index : ℕ)
    → (with_naming behind new index).naming ≡ (with_naming before old index).naming
naming_alike before behind old new same says naming index = ⊎_elim
    (λ its.
    naming_here behind new index its.1
    ∙ (ap (option_map (λ (naming : Naming). naming_of behind.plain)) (naming index)
    ∙ (ap (λ (said : Naming). option_map (λ (naming : Naming). said) (old index).naming) says
    ∙ sym (naming_here before old index (its.1 ∙ same)))))
    (λ other.
    ap (λ (part : HeapPart). part.naming) (naming_apart behind new index other.0)
    ∙ (naming index
    ∙ sym (ap (λ (part : HeapPart). part.naming) (naming_apart before old index (sym (ap (eqb index) same) ∙ other.0)))))
    (eqb_tells index behind.plain.index)

pub held_agrees : {names : NamesView} (before behind : HeapView) (old new : ℕ → HeapPart) → behind.plain.index ≡ before.plain.index
    → naming_of behind.plain ≡ naming_of before.plain → ((heap : ℕ) → (new heap).naming ≡ (old heap).naming)
    → ((heap : ℕ) → (new heap).claims ≡ (old heap).claims) → AgreeWith (with_naming before old) names → AgreeWith (with_naming behind new) names
held_agrees before behind old new same says naming claims =
    agree_alike (with_naming before old) (with_naming behind new) (naming_alike before behind old new same says naming)
    (λ index. naming_claims behind new index ∙ (claims index ∙ sym (naming_claims before old index)))

-- names that agreed agree with a heap that was taken
module _ (heap : HeapView) (old new : ℕ → HeapPart) (few : heap.plain.index < MAX_HEAPS)
    (here : IsPartTaken (old heap.plain.index) (new heap.plain.index)) (apart : AreApart heap.plain.index old new)
    (stands : IsAsPart (new heap.plain.index) heap) (names : NamesView) (agree : AgreeWith old names) where
  took_known : (with_naming heap new heap.plain.index).naming ≡ Some (agree.namings heap.plain.index)
  took_known =
      let known : (new heap.plain.index).naming ≡ Some (agree.namings heap.plain.index) = here.naming ∙ agree.known heap.plain.index few in
      naming_here heap new heap.plain.index refl
      ∙ (ap (option_map (λ (naming : Naming). naming_of heap.plain)) known ∙ ap Some (stands.named (agree.namings heap.plain.index) known))

  pub took_agrees : AgreeWith (with_naming heap new) names
  took_agrees = record {
    namings = agree.namings;
    claims = agree.claims;
    known = λ index within.
        ⊎_elim (λ its. subst (λ (at : ℕ). (with_naming heap new at).naming ≡ Some (agree.namings at)) (sym its.1) took_known)
        (λ other. ap (λ (part : HeapPart). part.naming) (naming_apart heap new index other.0 ∙ apart index other.1) ∙ agree.known index within)
        (eqb_tells index heap.plain.index);
    claimed = λ index.
        naming_claims heap new index
        ∙ (⊎_elim
        (λ its. subst (λ (at : ℕ). (new at).claims ≡ (old at).claims) (sym its.1) here.claims)
        (λ other. ap (λ (part : HeapPart). part.claims) (apart index other.1)) (eqb_tells index heap.plain.index)
        ∙ agree.claimed index);
    agreed = agree.agreed;
  }

-- and with one that was given back
pub given_agrees : (who : ℕ) (heap : HeapView) (old new : ℕ → HeapPart) → new heap.plain.index ≡ part_ended who heap (old heap.plain.index)
    → AreApart heap.plain.index old new → (names : NamesView) → AgreeWith (with_naming heap old) names → AgreeWith new names
given_agrees who heap old new here apart names =
    agree_alike (with_naming heap old) new
    (λ index. ⊎_elim
    (λ its.
    subst (λ (at : ℕ). (new at).naming ≡ (with_naming heap old at).naming) (sym its.1)
    (ap (λ (part : HeapPart). part.naming) here ∙ sym (naming_here heap old heap.plain.index refl)))
    (λ other. ap (λ (part : HeapPart). part.naming) (apart index other.1 ∙ sym (naming_apart heap old index other.0)))
    (eqb_tells index heap.plain.index))
    (λ index. ⊎_elim
    (λ its.
    subst (λ (at : ℕ). (new at).claims ≡ (with_naming heap old at).claims) (sym its.1)
    (ap (λ (part : HeapPart). part.claims) here ∙ sym (naming_claims heap old heap.plain.index)))
    (λ other. ap (λ (part : HeapPart). part.claims) (apart index other.1 ∙ sym (naming_apart heap old index other.0)))
    (eqb_tells index heap.plain.index))
