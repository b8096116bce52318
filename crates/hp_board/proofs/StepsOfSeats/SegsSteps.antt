-- Words, lag and agreement are kept by each kind of step.
use Rattle.std.proofs.Common.{◌⊎◌, ◌≡◌, ◌≢◌, ◌∙◌, ℕ, ◌<◌, ◌≤◌, true, List, length, set, slice_index, refl, sym, ap, subst, arith, get_or-set_other}
use mathlib.Core.Logic.{dite}
use native.Mathlib.Decide.{ℕ_discrete}
use Rattle.hp_base.specs.declared.limits.TheConstants.{MAX_HEAPS, MAX_PARTICIPANTS}
use Rattle.hp_hall.specs.declared.kept.Kept.{Kept}
use Rattle.hp_hall.specs.declared.kept.Kept.TheVariants.{Heap, Names, Segments}
use Rattle.hp_zone.specs.declared.names.Names.{Names as NamesView}
use Rattle.hp_board.specs.declared.words.TheConstants.{SLOTS}
use Rattle.hp_segs.specs.SegsView.{SegsView}
use Rattle.hp_board.specs.declared.opening.Opening.{Opening}
use Rattle.hp_board.specs.declared.view.Mine.{Mine}
use Rattle.hp_board.specs.Agreement.{IsDeclaredRoster}
use Rattle.hp_hall.specs.Giving.{GivesSegments, GivesTheNames, giver_of}
use Rattle.hp_hall.specs.Views.{HeldHeap}
use Rattle.hp_board.specs.Giving.{GivesAt, GivesHeldAt}
use Rattle.hp_board.specs.Knowing.{knows_of}
use Rattle.hp_board.specs.KeptValues.{IsKeptAt}
use Rattle.hp_board.specs.Lag.{IsLagging}
use Rattle.hp_board.specs.Left.{IsLeft}
use Rattle.hp_board.specs.SegsKept.{AreSegs}
use Rattle.hp_board.specs.Views.{Learned, after_acking, after_give, after_load, after_look, after_take, after_telling, after_unmapping, holds_segments, noted_of}
use Rattle.hp_board.specs.Words.{IsTold, ack_word, done_word, number_by}
use Rattle.hp_board.proofs.StepsOfSeats.AgreedSteps.{agreed_other, agreed_own, agreed_rises}
use Rattle.hp_board.proofs.StepsOfSeats.LagSteps.{lag_ack, lag_give, lag_give_heap, lag_give_names, lag_load, lag_other, lag_partial, lag_same, lag_take}
use Rattle.hp_board.proofs.OwnershipFacts.GivenLeaves.{form_gives, given_left}
use Rattle.hp_board.proofs.OwnershipFacts.GivenTaken.{by_gives}
use Rattle.hp_board.proofs.TakenIn.{HasTakenIn, are_taken, member_taken}
use Rattle.hp_board.proofs.Updates.{with_at, with_at-here, with_at-else, each}
use Rattle.hp_board.proofs.StepsOfSeats.WordSteps.{told_load, told_lock, told_other, told_own, told_same}

module _ (opening : Opening) (words : List ℕ) (kept : ℕ → Kept) (mine : ℕ → Mine) (old : AreSegs opening.participants words kept mine)
    (part : Mine) (known : part ≡ mine part.who) (declared : part.who < opening.participants) where
  told_part : IsTold opening.participants words part.who part
  told_part = subst (IsTold opening.participants words part.who) (sym known) (old.told part.who declared)

  pub lag_part : IsLagging old.segs part.who part
  lag_part = subst (IsLagging old.segs part.who) (sym known) (old.lagging part.who declared)

  pub agreed_part : HasTakenIn old.segs part.who part
  agreed_part = subst (HasTakenIn old.segs part.who) (sym known) (member_taken opening.participants words kept mine old part.who declared)

  -- words change, and one view; the segment value stays
  stays : (words' : List ℕ) (kept' : ℕ → Kept) (new : Mine) → kept' MAX_HEAPS ≡ Segments old.segs → IsTold opening.participants words' part.who new → IsLagging old.segs part.who new → part.number ≤ new.number
      → ((who : ℕ) → who ≢ part.who → who < opening.participants → IsTold opening.participants words' who (mine who))
      → AreSegs opening.participants words' kept' (with_at part.who new mine)
  stays words' kept' new there told lag rises others =
      let all-told : (w : ℕ) → w < opening.participants → IsTold opening.participants words' w (with_at part.who new mine w) =
      each (λ w m. w < opening.participants → IsTold opening.participants words' w m) part.who new mine (λ _. told) others in
      record {
        segs = old.segs;
        there = there;
        told = all-told;
        lagging = each (λ w m. w < opening.participants → IsLagging old.segs w m) part.who new mine (λ _. lag) (λ w apart. old.lagging w);
        agreed = are_taken opening.participants words' (with_at part.who new mine) old.segs all-told
            (each (λ w m. w < opening.participants → HasTakenIn old.segs w m) part.who new mine
            (λ _. agreed_rises old.segs part.who part new rises agreed_part) (λ w apart. member_taken opening.participants words kept mine old w)) old.roster;
        roster = old.roster;
      }

  -- a held word was found
  pub segs_look : (slot word : ℕ) → AreSegs opening.participants words kept (with_at part.who (after_look slot word part) mine)
  segs_look slot word =
      stays words kept (after_look slot word part) old.there (told_same opening.participants words part.who part (after_look slot word part) refl refl refl told_part)
      (lag_same old.segs part.who part lag_part (after_look slot word part) refl refl refl refl refl refl refl) (omega arith) (λ w apart. old.told w)

  -- a step that changes nothing of it
  pub segs_same : (new : Mine) → new.who ≡ part.who → new.number ≡ part.number → new.noted ≡ part.noted → new.unmapped ≡ part.unmapped → new.log ≡ part.log → new.heard ≡ part.heard
      → new.joined ≡ part.joined → new.joining ≡ part.joining → new.held ≡ part.held → AreSegs opening.participants words kept (with_at part.who new mine)
  segs_same new who number noted unmapped log heard joined joining held =
      stays words kept new old.there (told_same opening.participants words part.who part new who number noted told_part)
      (lag_same old.segs part.who part lag_part new number unmapped log heard joined joining (ap (λ l. Rattle.hp_board.specs.Views.value_of MAX_HEAPS l) held))
      (omega (arith, number)) (λ w apart. old.told w)

  -- lines are told to be done, which no acknowledgement word has
  pub segs_tell : (lines : ℕ) → opening.participants ≤ MAX_PARTICIPANTS → AreSegs opening.participants (set words (done_word part.who) lines) kept (with_at part.who (after_telling lines part) mine)
  segs_tell lines few =
      let same : (w : ℕ) → w < opening.participants → number_by (set words (done_word part.who) lines) w ≡ number_by words w =
      λ w may. get_or-set_other words (done_word part.who) (ack_word w) lines 0 (λ is. omega (arith, is, may, few)) in
      let told : (w : ℕ) (m : Mine) → w < opening.participants → IsTold opening.participants words w m → IsTold opening.participants (set words (done_word part.who) lines) w m =
      λ w m may was. record {
        its = was.its;
        own = same w may ∙ was.own;
        noted = λ other low. let known = was.noted other low in let is = same other low in omega (arith, known, is);
      } in
      stays (set words (done_word part.who) lines) kept (after_telling lines part) old.there
      (told part.who (after_telling lines part) declared (told_same opening.participants words part.who part (after_telling lines part) refl refl refl told_part))
      (lag_same old.segs part.who part lag_part (after_telling lines part) refl refl refl refl refl refl refl) (omega arith)
      (λ w apart may. told w (mine w) may (old.told w may))

  -- a slot is taken
  pub segs_take : (slot word : ℕ) (learned : Learned) → slot < SLOTS → IsKeptAt opening slot (kept slot) → AreSegs opening.participants (set words slot word) kept (with_at part.who (after_take slot (kept slot) learned part) mine)
  segs_take slot word learned inside at =
      stays (set words slot word) kept (after_take slot (kept slot) learned part) old.there
      (told_lock opening.participants words slot word part.who (after_take slot (kept slot) learned part) inside
      (told_same opening.participants words part.who part (after_take slot (kept slot) learned part) refl refl refl told_part))
      (lag_take old.segs part.who part lag_part opening slot (kept slot) learned at (λ same. ap kept same ∙ old.there)) (omega arith)
      (λ w apart low. told_lock opening.participants words slot word w (mine w) inside (old.told w low))

  -- what a give leaves, once the slot's value is known
  abbrev GoesOn : ℕ → Kept → Kept → Type 0
  GoesOn slot taken given = slot < SLOTS → kept slot ≡ taken → IsKeptAt opening slot taken → IsKeptAt opening slot given
      → AreSegs opening.participants (set words slot 0) (with_at slot given kept) (with_at part.who (after_give slot given part) mine)

  -- a heap is given
  heap_given : (slot : ℕ) (taken given : HeldHeap) → GivesHeldAt (knows_of part) taken given → GoesOn slot (Heap taken.heap taken.pen) (Heap given.heap given.pen)
  heap_given slot taken given gives inside is at at' =
      let below = at.heap.below in
      stays (set words slot 0) (with_at slot (Heap given.heap given.pen) kept) (after_give slot (Heap given.heap given.pen) part)
      (with_at-else slot (Heap given.heap given.pen) kept MAX_HEAPS (λ same. omega (arith, below, same)) ∙ old.there)
      (told_lock opening.participants words slot 0 part.who (after_give slot (Heap given.heap given.pen) part) inside
      (told_same opening.participants words part.who part (after_give slot (Heap given.heap given.pen) part) refl refl refl told_part))
      (lag_give_heap old.segs part.who part lag_part slot given.heap given.pen below) (omega arith)
      (λ w apart low. told_lock opening.participants words slot 0 w (mine w) inside (old.told w low))

  -- the segment value is given
  segs_given : (slot : ℕ) (taken given : SegsView) → GivesSegments (knows_of part) taken given → GoesOn slot (Segments taken) (Segments given)
  segs_given slot taken given gives inside is at at' =
      let same : Segments taken ≡ Segments old.segs = sym is ∙ (ap kept at.last ∙ old.there) in
      let segs_is : taken ≡ old.segs = cc in
      let giver = giver_of (knows_of part) in
      let left : IsLeft giver old.segs given = subst (λ (s : SegsView). IsLeft giver s given) segs_is (given_left giver taken given at.sound (form_gives (knows_of part) taken given gives.form)) in
      let all-told : (w : ℕ) → w < opening.participants → IsTold opening.participants (set words slot 0) w (with_at part.who (after_give slot (Segments given) part) mine w) =
      each (λ w m. w < opening.participants → IsTold opening.participants (set words slot 0) w m) part.who (after_give slot (Segments given) part) mine
      (λ _. told_lock opening.participants words slot 0 part.who (after_give slot (Segments given) part) inside
      (told_same opening.participants words part.who part (after_give slot (Segments given) part) refl refl refl told_part))
      (λ w apart low. told_lock opening.participants words slot 0 w (mine w) inside (old.told w low)) in
      let roster : IsDeclaredRoster opening.participants given =
      λ who its.
      dite (ℕ_discrete who part.who)
      (λ self. subst (λ (n : ℕ). n < opening.participants) (sym self) declared)
      (λ apart. old.roster who (sym (left.others who apart) ∙ its)) in
      record {
        segs = given;
        there = ap (with_at slot (Segments given) kept) (sym at.last) ∙ with_at-here slot (Segments given) kept;
        told = all-told;
        lagging = each (λ w m. w < opening.participants → IsLagging given w m) part.who (after_give slot (Segments given) part) mine
            (λ _. lag_give old.segs part.who part lag_part slot (giver_of (knows_of part)) given refl left)
            (λ w apart low. lag_other (giver_of (knows_of part)) old.segs given w (mine w) left apart (old.lagging w low));
        agreed = are_taken opening.participants (set words slot 0) (with_at part.who (after_give slot (Segments given) part) mine) given all-told
            (each (λ w m. w < opening.participants → HasTakenIn given w m) part.who (after_give slot (Segments given) part) mine
            (λ _. agreed_own opening.participants words part old.segs given left at'.sound agreed_part (after_give slot (Segments given) part) refl)
            (λ w apart low. agreed_other opening.participants words part old.segs given left w (mine w) low apart told_part.noted (old.told w low)
            (member_taken opening.participants words kept mine old w low))) roster;
        roster = roster;
      }

  -- names are given
  names_given : (slot : ℕ) (taken given : NamesView) → GivesTheNames (knows_of part) taken given → GoesOn slot (Names taken) (Names given)
  names_given slot taken given gives inside is at at' =
      let last = at.last in
      stays (set words slot 0) (with_at slot (Names given) kept) (after_give slot (Names given) part)
      (with_at-else slot (Names given) kept MAX_HEAPS (λ same. omega (arith, last, same)) ∙ old.there)
      (told_lock opening.participants words slot 0 part.who (after_give slot (Names given) part) inside
      (told_same opening.participants words part.who part (after_give slot (Names given) part) refl refl refl told_part))
      (lag_give_names old.segs part.who part lag_part slot given last) (omega arith)
      (λ w apart low. told_lock opening.participants words slot 0 w (mine w) inside (old.told w low))

  -- a slot is given
  pub segs_give : (slot : ℕ) (taken given : Kept) → GivesAt (knows_of part) taken given → GoesOn slot taken given
  segs_give slot = by_gives (knows_of part) (GoesOn slot) (heap_given slot) (segs_given slot) (names_given slot)

  -- records are acknowledged
  pub segs_ack : (number : ℕ) → ack_word part.who < length words → (part.joined ≡ true) ⊎ (holds_segments part ≡ true) → part.number ≤ number → number ≤ length part.log
      → AreSegs opening.participants (set words (ack_word part.who) number) kept (with_at part.who (after_acking number part) mine)
  segs_ack number inside hand rises seen =
      let word = told_part.own in
      stays (set words (ack_word part.who) number) kept (after_acking number part) old.there
      (told_own opening.participants words part.who number inside (omega (arith, word, rises)) part told_part)
      (lag_ack old.segs part.who part lag_part number hand seen) rises
      (λ w apart low. told_other opening.participants words part.who number inside (omega (arith, word, rises)) w (mine w) apart (old.told w low))

  -- rows are unmapped
  pub segs_partial : AreSegs opening.participants words kept (with_at part.who (after_unmapping part) mine)
  segs_partial =
      stays words kept (after_unmapping part) old.there (told_same opening.participants words part.who part (after_unmapping part) refl refl refl told_part)
      (lag_partial old.segs part.who part lag_part) (omega arith) (λ w apart. old.told w)

  -- a number is loaded
  pub segs_load : (from : ℕ) → AreSegs opening.participants words kept (with_at part.who (after_load from (slice_index words (ack_word from)) part) mine)
  segs_load from =
      stays words kept (after_load from (slice_index words (ack_word from)) part) old.there (told_load opening.participants words part.who from part told_part)
      (lag_load old.segs part.who part lag_part from (slice_index words (ack_word from))) (omega arith) (λ w apart. old.told w)

  pub load_rises : (from : ℕ) → from < opening.participants → noted_of from part ≤ slice_index words (ack_word from)
  load_rises from low = told_part.noted from low
