-- Worked values: two participants that add to one number, and the lines of two participants with their answers.
use Rattle.std.proofs.Common.{◌≡◌, ℕ, zero, suc, ◌+◌, ◌≤◌, List, [], ◌∷◌, map, Some, refl, sym, ◌∙◌, arith}
use Rattle.std.specs.Prelude.{slice_get}
use Rattle.std.proofs.lemmas.Option.{same_Some}
use Rattle.hp_weave.specs.Deeds.{Deed, Gathering, LeadTo, Runs, Turn, deeds_of, holds_among, holds_in}
use Rattle.hp_weave.specs.Holds.{Chain, Hold, holds_of}
use Rattle.hp_weave.specs.Laws.{GoApart, GoTogether}
use Rattle.hp_weave.specs.Weaving.{woven}
use Rattle.hp_weave.proofs.Interleaving.{holds_of-other, together}

-- participant 0 counts to 2 and adds 5 in between; participant 1 counts to 1, before which it adds 7
abbrev hold : ℕ → ℕ → ℕ → Hold ℕ
hold who taken given = record { who = who; taken = taken; given = given }

abbrev turn : ℕ → Deed ℕ ℕ → Turn ℕ ℕ
turn who deed = record { who = who; deed = deed }

abbrev at : ℕ → ℕ → ℕ → Gathering ℕ ℕ
at first second value = record { seats = first ∷ second ∷ []; value = value }

abbrev deeds : ℕ → List (Deed ℕ ℕ)
deeds zero = Deed.Alone 0 1 ∷ Deed.Holding 1 1 17 22 ∷ Deed.Alone 1 2 ∷ []
deeds (suc zero) = Deed.Holding 0 0 10 17 ∷ Deed.Alone 0 1 ∷ []
deeds (suc (suc who)) = []

-- the number is 10 at first; 1 has it before 0 does
abbrev holds : List (Hold ℕ)
holds = hold 1 10 17 ∷ hold 0 17 22 ∷ []

chained : Chain 10 holds 22
chained = (refl, (refl, refl))

-- in the other order they make no chain
not_chained : Chain 10 (hold 0 17 22 ∷ hold 1 10 17 ∷ []) 22 → ⊥
not_chained chain = absurd (let no : 17 ≡ 10 = chain.0 in omega (arith, no))

-- so the turns of both
abbrev turns : List (Turn ℕ ℕ)
turns =
    turn 1 (Deed.Holding 0 0 10 17)
    ∷ turn 0 (Deed.Alone 0 1) ∷ turn 0 (Deed.Holding 1 1 17 22)
    ∷ turn 0 (Deed.Alone 1 2) ∷ turn 1 (Deed.Alone 0 1) ∷ []

runs : Runs (at 0 0 10) turns (at 2 1 22)
runs = ((refl, refl), (refl, ((refl, refl), (refl, (refl, refl)))))

own_of_0 : deeds_of 0 turns ≡ deeds 0
own_of_0 = refl

own_of_1 : deeds_of 1 turns ≡ deeds 1
own_of_1 = refl

held : holds_among turns ≡ holds
held = refl

own_holds : (who : ℕ) → holds_of who holds ≡ holds_in who (deeds who)
own_holds zero = refl
own_holds (suc zero) = refl
own_holds (suc (suc who)) =
    holds_of-other (hold 1 10 17) (hold 0 17 22 ∷ []) (suc (suc who)) (λ same. omega (arith, same))
    ∙ holds_of-other (hold 0 17 22) [] (suc (suc who)) (λ same. omega (arith, same))

nobody : (who : ℕ) → 2 ≤ who → deeds who ≡ []
nobody zero more = absurd (omega (arith, more))
nobody (suc zero) more = absurd (omega (arith, more))
nobody (suc (suc who)) more = refl

leads : (who old new : ℕ) → slice_get (0 ∷ 0 ∷ []) who ≡ Some old → slice_get (2 ∷ 1 ∷ []) who ≡ Some new → LeadTo old (deeds who) new
leads zero old new here there = (same_Some 0 old here, (refl, (refl, sym (same_Some 2 new there))))
leads (suc zero) old new here there = (same_Some 0 old here, (refl, sym (same_Some 1 new there)))
leads (suc (suc who)) old new here there = absurd (cc)

-- each by itself went so
apart : GoApart (at 0 0 10) (at 2 1 22) deeds holds
apart = record { count = refl; leads = leads; nobody_else = nobody; chain = chained; own = own_holds }

-- so by the law they went together
went : GoTogether (at 0 0 10) (at 2 1 22) deeds holds
went = together holds (at 0 0 10) (at 2 1 22) deeds apart

-- items of participants 0 and 1, woven by who is next
abbrev items : ℕ → List ℕ
items zero = 10 ∷ 11 ∷ []
items (suc zero) = 20 ∷ 21 ∷ 22 ∷ []
items (suc (suc who)) = []

by_turns : woven (1 ∷ 0 ∷ 1 ∷ 1 ∷ 0 ∷ []) items ≡ 20 ∷ 10 ∷ 21 ∷ 22 ∷ 11 ∷ []
by_turns = refl

-- who has none left adds none
none_left : woven (0 ∷ 0 ∷ 0 ∷ []) items ≡ 10 ∷ 11 ∷ []
none_left = refl

told : map (λ item. item + 1) (woven (1 ∷ 0 ∷ 1 ∷ []) items) ≡ woven (1 ∷ 0 ∷ 1 ∷ []) (λ who. map (λ item. item + 1) (items who))
told = refl
