-- Lines that are done, and what is known of them, are kept by each kind of step.
use Rattle.std.proofs.Common.{◌≡◌, ◌≢◌, ◌∙◌, inl, inr, ⊎_elim, ℕ, ◌<◌, ◌≤◌, ◌^◌, List, ◌++◌, length, drop, sym, ap, subst, arith}
use Rattle.std.specs.List.{All, Contains}
use Rattle.std.proofs.lemmas.List.{drop-append-le}
use Rattle.std.proofs.lemmas.List.Elements.{All-contains, All-weaker, Contains-append_cases}
use mathlib.Core.Logic.{dite}
use native.Mathlib.Decide.{ℕ_discrete}
use Rattle.hp_heap.specs.declared.entry.Entry.{Entry}
use Rattle.hp_hall.specs.Values.{history_of}
use Rattle.hp_hall.specs.declared.kept.Kept.{Kept}
use Rattle.hp_board.specs.Lines.{AreLines, HoldsLines, IsAwaited, IsMarkOf}
use Rattle.hp_board.specs.Views.{BeginsWith, lines_known, lines_told}
use Rattle.hp_board.specs.Words.{lines_by}
use Rattle.hp_board.specs.declared.opening.Opening.{Opening}
use Rattle.hp_board.specs.declared.view.Awaited.{Awaited}
use Rattle.hp_board.specs.declared.view.LinesDone.{LinesDone}
use Rattle.hp_board.specs.declared.view.Mine.{Mine}
use Rattle.hp_board.specs.declared.view.Move.{Move}
use Rattle.hp_board.specs.declared.view.Move.TheVariants.{Took}
use Rattle.hp_board.specs.declared.words.TheConstants.{SLOTS}
use Rattle.hp_board.proofs.LinesKept.{GoesOn, awaited_on, goes_same, mark_on}
use Rattle.hp_board.proofs.Updates.{with_at, each}

-- the histories of the slots
abbrev pub histories : (ℕ → Kept) → ℕ → List Entry
histories kept slot = history_of (kept slot)

-- how often a participant looked up, and moved, by then
abbrev pub IsWithin : Mine → ℕ × Awaited → Type 0
IsWithin mine pair = (pair.1.entries ≤ length mine.made) × (pair.1.moves ≤ length mine.moves)

module _ (opening : Opening) (words : List ℕ) (kept : ℕ → Kept) (mine : ℕ → Mine) (old : AreLines opening words kept mine)
    (part : Mine) (known : part ≡ mine part.who) (declared : part.who < opening.participants) where
  told_part : lines_by words part.who ≡ lines_told part
  told_part = old.told part.who declared ∙ ap lines_told (sym known)

  marks_part : All (IsMarkOf part) part.done
  marks_part = subst (λ (m : Mine). All (IsMarkOf m) m.done) (sym known) (old.marks part.who declared)

  within_part : All (IsWithin part) part.awaited
  within_part = subst (λ (m : Mine). All (IsWithin m) m.awaited) (sym known) (old.within part.who declared)

  some_part : 0 < length part.done
  some_part = subst (λ (m : Mine). 0 < length m.done) (sym known) (old.some part.who declared)

  pub known_part : (other : ℕ) → other < opening.participants → lines_known other part ≤ lines_by words other
  known_part other may = subst (λ (m : Mine). lines_known other m ≤ lines_by words other) (sym known) (old.known part.who other declared may)

  awaited_part : (other : ℕ) (awaited : Awaited) → other < opening.participants → Contains part.awaited (other, awaited) → IsAwaited (histories kept) part (mine other) awaited
  awaited_part other awaited may has =
      subst (λ (m : Mine). IsAwaited (histories kept) m (mine other) awaited) (sym known)
      (old.awaited part.who other awaited declared may (subst (λ (m : Mine). Contains m.awaited (other, awaited)) known has))

  pub mark_of : (other : ℕ) (mark : LinesDone) → other < opening.participants → Contains (mine other).done mark → IsMarkOf (mine other) mark
  mark_of other mark may has = All-contains (IsMarkOf (mine other)) (mine other).done mark (old.marks other may) has

  module _ (new : Mine) (goes : GoesOn part new) where
    goes_at : (w : ℕ) → GoesOn (mine w) (with_at part.who new mine w)
    goes_at = each (λ w m. GoesOn (mine w) m) part.who new mine (subst (λ (m : Mine). GoesOn m new) known goes) (λ w apart. goes_same (mine w))

    module _ (words' : List ℕ) (kept' : ℕ → Kept) (grows : (slot : ℕ) → slot < SLOTS → BeginsWith (history_of (kept' slot)) (history_of (kept slot)))
        (rest : (w : ℕ) → w ≢ part.who → w < opening.participants → lines_by words' w ≡ lines_by words w) (told : lines_by words' part.who ≡ lines_told new)
        (rises : lines_told part ≤ lines_told new) where
      words_rise : (w : ℕ) → w < opening.participants → lines_by words w ≤ lines_by words' w
      words_rise w may =
          dite (ℕ_discrete w part.who)
          (λ same. subst (λ (k : ℕ). lines_by words k ≤ lines_by words' k) (sym same) (let was = told_part in omega (arith, was, told, rises)))
          (λ apart. let is = rest w apart may in omega (arith, is))

      -- another's look-ups
      awaited_else : (w other : ℕ) (awaited : Awaited) → w < opening.participants → other < opening.participants → Contains (mine w).awaited (other, awaited)
          → IsAwaited (histories kept') (mine w) (with_at part.who new mine other) awaited
      awaited_else w other awaited may may' has =
          let is = old.awaited w other awaited may may' has in
          awaited_on (histories kept) (histories kept') grows (mine w) (mine w) (mine other) (with_at part.who new mine other) (goes_same (mine w)) (goes_at other) awaited is
          (All-contains (IsWithin (mine w)) (mine w).awaited (other, awaited) (old.within w may) has).0 (mark_of other is.mark may' is.told) (λ slot value taken. inl taken)

      -- one view changes
      pub lines_step : lines_by words' part.who < 2 ^ 32 → ((other : ℕ) → other < opening.participants → lines_known other new ≤ lines_by words' other)
          → 0 < length new.done → All (IsMarkOf new) new.done → All (IsWithin new) new.awaited
          → ((other : ℕ) (awaited : Awaited) → other < opening.participants → Contains new.awaited (other, awaited)
          → IsAwaited (histories kept') new (with_at part.who new mine other) awaited) → AreLines opening words' kept' (with_at part.who new mine)
      lines_step few knows some marks within awaits = record {
        told = each (λ w m. w < opening.participants → lines_by words' w ≡ lines_told m) part.who new mine (λ _. told) (λ w apart may. rest w apart may ∙ old.told w may);
        few = λ w may.
            dite (ℕ_discrete w part.who)
            (λ same. subst (λ (k : ℕ). lines_by words' k < 2 ^ 32) (sym same) few)
            (λ apart. subst (λ (n : ℕ). n < 2 ^ 32) (sym (rest w apart may)) (old.few w may));
        known = λ who other.
            each (λ w m. w < opening.participants → other < opening.participants → lines_known other m ≤ lines_by words' other) part.who new mine
            (λ _ may'. knows other may')
            (λ w apart may may'. let low = old.known w other may may' in let up = words_rise other may' in omega (arith, low, up)) who;
        some = each (λ w m. w < opening.participants → 0 < length m.done) part.who new mine (λ _. some) (λ w apart. old.some w);
        marks = each (λ w m. w < opening.participants → All (IsMarkOf m) m.done) part.who new mine (λ _. marks) (λ w apart. old.marks w);
        within = each (λ w m. w < opening.participants → All (IsWithin m) m.awaited) part.who new mine (λ _. within) (λ w apart. old.within w);
        awaited = λ who other awaited.
            each (λ w m. w < opening.participants → other < opening.participants → Contains m.awaited (other, awaited)
            → IsAwaited (histories kept') m (with_at part.who new mine other) awaited) part.who new mine
            (λ _ may' has. awaits other awaited may' has) (λ w apart may may' has. awaited_else w other awaited may may' has) who;
      }

      -- what it had looked up stands on, where what it takes holds what others had done
      pub awaits_on : (moves : List Move) → new.moves ≡ part.moves ++ moves
          → ((other : ℕ) (mark : LinesDone) (slot : ℕ) (value : Kept) → other < opening.participants → IsMarkOf (mine other) mark → Contains moves (Took slot value)
          → HoldsLines slot (mine other) mark value)
          → (other : ℕ) (awaited : Awaited) → other < opening.participants → Contains part.awaited (other, awaited)
          → IsAwaited (histories kept') new (with_at part.who new mine other) awaited
      awaits_on moves moved took other awaited may' has =
          let is = awaited_part other awaited may' has in
          let bounds = All-contains (IsWithin part) part.awaited (other, awaited) within_part has in
          let mark = mark_of other is.mark may' is.told in
          awaited_on (histories kept) (histories kept') grows part new (mine other) (with_at part.who new mine other) goes (goes_at other) awaited is bounds.0 mark
          (λ slot value taken.
          ⊎_elim (λ was. inl was) (λ now. inr (took other is.mark slot value may' mark now))
          (Contains-append_cases (drop awaited.moves part.moves) moves (Took slot value)
          (subst (λ (l : List Move). Contains l (Took slot value)) (ap (drop awaited.moves) moved ∙ drop-append-le awaited.moves part.moves moves bounds.1) taken)))

      -- it tells nothing of lines and looks none up
      pub lines_kept : ((w : ℕ) → w < opening.participants → lines_by words' w ≡ lines_by words w) → new.done ≡ part.done → new.awaited ≡ part.awaited
          → (moves : List Move) → new.moves ≡ part.moves ++ moves
          → ((other : ℕ) (mark : LinesDone) (slot : ℕ) (value : Kept) → other < opening.participants → IsMarkOf (mine other) mark → Contains moves (Took slot value)
          → HoldsLines slot (mine other) mark value) → ((other : ℕ) → lines_known other new ≡ lines_known other part) → AreLines opening words' kept' (with_at part.who new mine)
      lines_kept still done awaited moves moved took knows =
          lines_step
          (subst (λ (n : ℕ). n < 2 ^ 32) (sym (still part.who declared)) (old.few part.who declared))
          (λ other may. let same = knows other in let low = known_part other may in let up = words_rise other may in omega (arith, same, low, up))
          (let some = some_part in let long = ap length done in omega (arith, some, long))
          (subst (All (IsMarkOf new)) (sym done) (All-weaker (IsMarkOf part) (IsMarkOf new) (λ mark is. mark_on part new goes rises mark is) part.done marks_part))
          (subst (All (IsWithin new)) (sym awaited)
          (All-weaker (IsWithin part) (IsWithin new)
          (λ pair is.
          let low = is.0 in
          let high = is.1 in
          let long = Rattle.hp_board.proofs.Fronts.front_length new.made part.made goes.made in
          let wide = Rattle.hp_board.proofs.Fronts.front_length new.moves part.moves (moves, moved) in
          (omega (arith, low, long), omega (arith, high, wide))) part.awaited within_part))
          (λ other one may has. awaits_on moves moved took other one may (subst (λ (l : List (ℕ × Awaited)). Contains l (other, one)) awaited has))
