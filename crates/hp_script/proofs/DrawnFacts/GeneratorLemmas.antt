-- What holds of the lines that the generator draws, along the labels that are live.
use Rattle.std.proofs.Common.{◌≡◌, ℕ, zero, suc, ◌+◌, ◌<◌, ◌≤◌, Bool, true, false, List, [], ◌∷◌, length, get_or, take, drop, refl, cond, ◌⊎◌, inl, inr, arith}
use Rattle.std.specs.Prelude.{Some, All, ⊤, nat_lt}
use Rattle.std.specs.List.{remove, AllByRecursion}
use Rattle.std.proofs.lemmas.Bool.Decides.{nat_tests}
use Rattle.std.proofs.lemmas.List.Elements.{All-push, All-append, All-take, All-drop}
use Rattle.hp_script.specs.DrawnWords.Draws.{next_state, drawn}
use Rattle.hp_script.specs.DrawnWords.Generator.{Drawing, Turn, drawn_size, drawn_place, allocates, frees, resizes, behind_draw, is_allocating, turn_by, drawn_turn, behind_line, drawn_lines}
use Rattle.hp_script.specs.declared.drawn_line.DrawnAct.{DrawnAct}
use Rattle.hp_script.specs.declared.drawn_line.DrawnAct.TheVariants.{Alloc, Free, Resize}
use Rattle.hp_script.specs.declared.drawn_line.DrawnLine.{DrawnLine}
use Rattle.hp_script.proofs.DrawnFacts.DrawLemmas.{drawn_below}
use Rattle.hp_script.proofs.DrawnFacts.DrawnLemmas.{FitsAct, FitsLine, label_drawn}

-- the labels of an act: an allocation's is the number of its line, and another's is live
abbrev pub IsActOver : (ℕ → Type 0) → ℕ → DrawnAct → Type 0
IsActOver L number (Alloc label size socket) = (label ≡ number) × (size < 100000) × (socket < 2)
IsActOver L number (Free label) = L label
IsActOver L number (Resize label size) = L label × (size < 100000)

-- what a turn leaves live is as good as what was live, and the label of an allocation
record IsTurn (L : ℕ → Type 0) (number : ℕ) (turn : Turn) : Type 0 where
  act : IsActOver L number turn.act
  left : (label_drawn turn.act ≡ Some number → L number) → All L turn.left.live

module _ (L : ℕ → Type 0) where
  All-remove : (live : List ℕ) (place : ℕ) → All L live → All L (remove live place)
  All-remove live place all = All-append L (take place live) (drop (suc place) live) (All-take L place live all) (All-drop L (suc place) live all)

  -- the label that is drawn is live
  label_live : (from : Drawing) → 0 < length from.live → All L from.live → L (get_or from.live (drawn_place from) 0)
  label_live from some all = all (drawn_place from) 0 (drawn_below (length from.live) from.state some)

  size_below : (state : ℕ) → drawn_size state < 100000
  size_below state = let below = drawn_below 65536 state (omega arith) in omega (arith, below)

  turn_is : (verb number : ℕ) (from : Drawing) → All L from.live → IsTurn L number (turn_by verb number from)
  turn_is verb number from all = chosen (is_allocating verb (length from.live)) (nat_lt verb 7) refl
    where
      chosen : (first second : Bool) → is_allocating verb (length from.live) ≡ first → IsTurn L number (cond first (allocates number from) (cond second (frees from) (resizes from)))
      chosen true second is = record {
        act = (refl, size_below from.state, drawn_below 2 (next_state from.state) (omega arith));
        left = λ made. All-push L from.live number all (made refl);
      }
      chosen false true is =
          let some : 0 < length from.live = grind (arith, nat_tests, is) in
          record { act = label_live from some all; left = λ made. All-remove from.live (drawn_place from) all }
      chosen false false is =
          let some : 0 < length from.live = grind (arith, nat_tests, is) in
          record { act = (label_live from some all, size_below (next_state from.state)); left = λ made. all }

  -- each line draws such an act
  line_is : (number : ℕ) (from : Drawing) → All L from.live → IsTurn L number (drawn_turn number from)
  line_is number from all = turn_is (drawn 8 (next_state from.state)) number (behind_draw (behind_draw from)) all

-- the label of each allocation is the number of its line
abbrev pub AreNumbered : ℕ → List DrawnLine → Type 0
AreNumbered number [] = ⊤
AreNumbered number (line ∷ lines) = ((label : ℕ) → label_drawn line.act ≡ Some label → label ≡ number) × AreNumbered (number + 1) lines

made_number : (L : ℕ → Type 0) (number : ℕ) (deed : DrawnAct) → IsActOver L number deed → (label : ℕ) → label_drawn deed ≡ Some label → label ≡ number
made_number L number (Alloc made size socket) over label is = let same : made ≡ label = cc in rw (← same) over.0
made_number L number (Free other) over label is = absurd cc
made_number L number (Resize other size) over label is = absurd cc

pub lines_numbered : (from : Drawing) (number more : ℕ) → AreNumbered number (drawn_lines from number more)
unfolding drawn_lines
lines_numbered from number zero = tt
lines_numbered from number (suc more) =
    (made_number (λ (label : ℕ). ⊤) number (drawn_turn number from).act (line_is (λ (label : ℕ). ⊤) number from (λ k d within. tt)).act, lines_numbered (behind_line number from) (number + 1) more)

-- lines up to 100,000 have numbers within their ranges
abbrev IsSmall : ℕ → Type 0
IsSmall label = label < 100000

act_fits : (number : ℕ) (deed : DrawnAct) → number < 100000 → IsActOver IsSmall number deed → FitsAct deed
act_fits number (Alloc label size socket) small over = let same = over.0 in (omega (arith, same, small), over.1, over.2)
act_fits number (Free label) small over = over
act_fits number (Resize label size) small over = over

pub lines_fit : (from : Drawing) (number more : ℕ) → All IsSmall from.live → number + more ≤ 100000 → AllByRecursion FitsLine (drawn_lines from number more)
unfolding drawn_lines
lines_fit from number zero small within = tt
lines_fit from number (suc more) small within =
    let turn = line_is IsSmall number from small in
    let here : number < 100000 = omega (arith, within) in (
      record { party = drawn_below 4 from.state (omega arith); act = act_fits number (drawn_turn number from).act here turn.act },
      lines_fit (behind_line number from) (number + 1) more (turn.left (λ made. here)) (omega (arith, within)),
    )

pub length-drawn_lines : (from : Drawing) (number more : ℕ) → length (drawn_lines from number more) ≡ more
unfolding drawn_lines
length-drawn_lines from number zero = refl
length-drawn_lines from number (suc more) = let rest = length-drawn_lines (behind_line number from) (number + 1) more in omega (arith, rest)

-- the line of a number is an allocation among lines, the first of them of another number
abbrev pub MakesAt : ℕ → ℕ → List DrawnLine → Type 0
MakesAt line number [] = ⊥
MakesAt line number (first ∷ lines) = ((line ≡ number) × (label_drawn first.act ≡ Some number)) ⊎ MakesAt line (number + 1) lines

pub makes_later : (line number : ℕ) (lines : List DrawnLine) → MakesAt line number lines → number ≤ line
makes_later line number [] makes = absurd makes
makes_later line number (first ∷ lines) makes =
    elim makes [
      | inl here ↦ let same = here.0 in omega (arith, same)
      | inr later ↦ let behind = makes_later line (number + 1) lines later in omega (arith, behind)
    ]

pub makes_before : (line number : ℕ) (lines : List DrawnLine) → MakesAt line number lines → line < number + length lines
makes_before line number [] makes = absurd makes
makes_before line number (first ∷ lines) makes =
    elim makes [
      | inl here ↦ let same = here.0 in omega (arith, same)
      | inr later ↦ let behind = makes_before line (number + 1) lines later in omega (arith, behind)
    ]

-- where each allocation's label is good, each line frees and resizes good labels
abbrev pub AreOver : (ℕ → Type 0) → ℕ → List DrawnLine → Type 0
AreOver L number [] = ⊤
AreOver L number (line ∷ lines) = (IsActOver L number line.act × (label_drawn line.act ≡ Some number → L number)) × AreOver L (number + 1) lines

pub lines_over : (L : ℕ → Type 0) (from : Drawing) (number more : ℕ) → All L from.live → ((line : ℕ) → MakesAt line number (drawn_lines from number more) → L line) → AreOver L number (drawn_lines from number more)
unfolding drawn_lines
lines_over L from number zero live good = tt
lines_over L from number (suc more) live good =
    let turn = line_is L number from live in
    let here : label_drawn (drawn_turn number from).act ≡ Some number → L number = λ made. good number (inl (refl, made)) in
    ((turn.act, here), lines_over L (behind_line number from) (number + 1) more (turn.left here) (λ line makes. good line (inr makes)))
