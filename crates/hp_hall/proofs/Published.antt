-- A heap whose pair its holder has published may be given, where it might but for that.
use Rattle.std.proofs.Common.{◌≡◌, ◌≢◌, ℕ, false, List, [], ◌∷◌, length, Option, Some, None, refl, sym, ap, subst, ◌∙◌, ⊎_elim, arith}
use Rattle.std.specs.List.{range_with_len}
use Rattle.std.specs.Option.{IsSome}
use Rattle.std.proofs.lemmas.Bool.{cases_eq}
use Rattle.std.proofs.lemmas.List.Sums.{fold-append, sum_by-le-sum_by}
use Rattle.hp_heap.specs.History.{HeapView, IsSound}
use Rattle.hp_segs.specs.Standing.{Holding}
use Rattle.hp_segs.specs.declared.outcome.AskLog.{AskLog}
use Rattle.hp_hall.specs.declared.kept.Kept.{Kept}
use Rattle.hp_hall.specs.declared.kept.Kept.TheVariants.{Heap}
use Rattle.hp_hall.specs.declared.note.Note.TheVariants.{Published}
use Rattle.hp_hall.specs.declared.slot.TheConstants.{SLOTS}
use Rattle.hp_hall.specs.Asks.{IsKnownSettled}
use Rattle.hp_hall.specs.Giving.{GivesHeap, IsGiveOf, IsNumbered, Knows, entries_made}
use Rattle.hp_hall.specs.HallCalls.{GivesOnceTold, HasPublished, MayPublish}
use Rattle.hp_hall.specs.HallState.{HallState, known_to}
use Rattle.hp_hall.specs.HeapPairs.{pair_of}
use Rattle.hp_hall.specs.Holding.{HeapPart, IsHeldWith}
use Rattle.hp_hall.specs.Mail.{Notes}
use Rattle.hp_hall.specs.Telling.{has_names, names_after}
use Rattle.hp_hall.specs.Views.{HeldHeap}
use Rattle.hp_hall.proofs.Gives.{gives_published}
use Rattle.hp_hall.proofs.HeldPairs.{keeps_published}

is_held : (heap : HeapView) (holding : Option Holding) → IsHeldWith heap holding → IsSome holding
is_held heap None held = absurd held
is_held heap (Some holding) held = refl

-- what may be given once it is told may be told
pub may_publish : (knows : Knows) (index : ℕ) (given : HeldHeap) → GivesOnceTold knows index given
    → MayPublish knows index (Heap given.heap given.pen)
may_publish knows index given once = record {
  taken = once.taken;
  out = once.out;
  held = subst (λ (k : ℕ). IsSome (knows.part k).holding) once.index_is
      (is_held given.heap (knows.part given.heap.plain.index).holding once.gives.held);
  index_is = once.index_is;
  serves = once.gives.serves;
  more = once.gives.own;
  history = once.gives.history;
  told = once.told;
  pen_is = once.pen_is;
}

module _ (me index : ℕ) (given : HeldHeap) (after : Kept) (old new : HallState) (sound : IsSound given.heap)
    (once : GivesOnceTold (known_to me old) index given) (is : HasPublished me index (Heap given.heap given.pen) after old new) where
  -- what was told apart, parts are as they were
  part_still : {A : Type 0} (f : HeapPart → A) → f (new.part me index) ≡ f (old.part me index) → (heap : ℕ)
      → f (new.part me heap) ≡ f (old.part me heap)
  part_still f here heap =
      ⊎_elim
      (λ (same : heap ≡ index). ap (λ (k : ℕ). f (new.part me k)) same ∙ here ∙ sym (ap (λ (k : ℕ). f (old.part me k)) same))
      (λ (apart : heap ≢ index). ap f (is.apart heap apart))
      (cases_eq heap index)

  entries : (heap : ℕ) → (new.part me heap).entries ≡ (old.part me heap).entries
  entries = part_still (λ part. part.entries) (ap (λ (part : HeapPart). part.entries) is.told)

  holding : (heap : ℕ) → (new.part me heap).holding ≡ (old.part me heap).holding
  holding = part_still (λ part. part.holding) (ap (λ (part : HeapPart). part.holding) is.told)

  armed : (heap : ℕ) → (new.part me heap).armed ≡ (old.part me heap).armed
  armed = part_still (λ part. part.armed) (ap (λ (part : HeapPart). part.armed) is.told)

  made : entries_made (new.part me) ≡ entries_made (old.part me)
  made =
      let up =
      sum_by-le-sum_by (λ (heap : ℕ). length (old.part me heap).entries) (λ (heap : ℕ). length (new.part me heap).entries) (range_with_len 0 SLOTS)
      (λ heap. omega (arith, ap length (entries heap))) in
      let down =
      sum_by-le-sum_by (λ (heap : ℕ). length (new.part me heap).entries) (λ (heap : ℕ). length (old.part me heap).entries) (range_with_len 0 SLOTS)
      (λ heap. omega (arith, ap length (entries heap))) in
      omega (arith, up, down)

  claims : (heap : ℕ) → (new.part me heap).claims ≡ (old.part me heap).claims
  claims = part_still (λ part. part.claims) (ap (λ (part : HeapPart). part.claims) is.told)

  -- and who had the names in hand has them, and nobody else
  hands : has_names (old.done me) ≡ has_names (new.done me)
  hands = sym (ap has_names is.did.made ∙ fold-append names_after false (old.done me) (Notes (Published index (pair_of given.heap)) ∷ []))

  gives : GivesHeap (known_to me new) once.taken.heap given.heap
  gives = record {
    index = once.gives.index;
    serves = once.gives.serves;
    own = once.gives.own;
    history = once.gives.history;
    numbered = subst (λ (n : ℕ). IsNumbered me n once.gives.own) (sym made) once.gives.numbered;
    held = subst (IsHeldWith given.heap) (sym (holding given.heap.plain.index)) once.gives.held;
    settled = λ ask armed_new its.
        subst (λ (heard : List AskLog). IsKnownSettled heard (new.part me given.heap.plain.index).holding ask) (sym is.heard)
        (subst (λ (h : Option Holding). IsKnownSettled (old.heard me) h ask) (sym (holding given.heap.plain.index))
        (once.gives.settled ask (sym (armed given.heap.plain.index) ∙ armed_new) its));
    named = λ none. once.gives.named (hands ∙ none);
    claimed = λ has known chunk its. once.gives.claimed (hands ∙ has) known chunk (sym (claims given.heap.plain.index) ∙ its);
    marks = once.gives.marks;
  }

  told : (new.part me given.heap.plain.index).told ≡ Some (pair_of given.heap)
  told = ap (λ (k : ℕ). (new.part me k).told) once.index_is ∙ ap (λ (part : HeapPart). part.told) is.told

  pub gives_after : IsGiveOf (known_to me new) index after
  gives_after =
      subst (IsGiveOf (known_to me new) index) (sym is.kept_after.kept)
      (gives_published (known_to me new) index once.taken (record { heap = given.heap; pen = is.kept_after.pen_after })
      (is.slots.taken index ∙ once.out) gives told
      (keeps_published once.taken.pen given.pen is.kept_after.pen_after given.heap sound.stands once.pen_is is.kept_after.goes))
