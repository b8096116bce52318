-- Worked values: whom SYNCs go to, which messages are asks, and what participant 0's rounds and held asks weigh.
use Rattle.std.proofs.Common.{◌≡◌, refl, ◌+◌, true, false, [], ◌∷◌, Some, None, arith}
use Rattle.hp_core.specs.Core.{Core}
use Rattle.hp_core.specs.declared.asked.Asked.TheVariants.{Shrink}
use Rattle.hp_core.specs.declared.phase.Phase.{Phase}
use Rattle.hp_core.specs.declared.phase.Phase.TheVariants.{Idle, Mapping, Waiting}
use Rattle.hp_core.specs.declared.phase.Round.{Round}
use Rattle.hp_core.specs.declared.phase.RoundKind.{RoundKind}
use Rattle.hp_core.specs.declared.phase.RoundKind.TheVariants as kind
use Rattle.hp_frame.specs.declared.message.Body.TheVariants.{Alloc, Free}
use Rattle.hp_hall.specs.Mail.{Notes}
use Rattle.hp_hall.specs.declared.note.Note.TheVariants.{Loaded}
use Rattle.hp_serve.specs.Coordinating.{IsNoAsk, loads_of, undeclared_asker, undeclared_giver}
use Rattle.hp_serve.specs.Falling.{own_measure}
use Rattle.hp_serve.specs.Posting.{is_asker, is_told, syncs_after}

-- of three participants the members 1 and 2 are told, and not participant 0, nor a member that the hall doesn't have
tells_first : is_told 3 14 1 ≡ true
tells_first = refl

tells_second : is_told 3 14 2 ≡ true
tells_second = refl

tells_no_other : is_told 3 14 3 ≡ false
tells_no_other = refl

tells_named_alone : is_told 3 4 1 ≡ false
tells_named_alone = refl

-- each that is told has one SYNC more
counts_syncs : syncs_after (is_told 3 4) (7 ∷ 7 ∷ 7 ∷ 7 ∷ []) 3 ≡ 7 ∷ 7 ∷ 8 ∷ 7 ∷ []
unfolding syncs_after
counts_syncs = refl

-- a RESULT goes to no participant that the hall doesn't have
answers_nobody : is_asker 3 3 ≡ false
answers_nobody = refl

-- of two participants the two numbers are looked up for a poll, the first one first
looks_up_both : loads_of 2 (5 ∷ 7 ∷ 0 ∷ 0 ∷ []) 16 ≡ Notes (Loaded 0 5) ∷ Notes (Loaded 1 7) ∷ []
unfolding loads_of
looks_up_both = refl

-- an ask of a participant that the hall doesn't have is none
foreign_alloc : IsNoAsk 2 (Alloc 2 1 0 0 2097152 64 64 0 0)
foreign_alloc = undeclared_asker 2 1 0 0 2097152 64 64 0 0 refl (omega arith)

foreign_free : IsNoAsk 2 (Free 5 1 0 4294967296 2097152)
foreign_free = undeclared_giver 5 1 0 4294967296 2097152 refl (omega arith)

abbrev round_of : RoundKind → Round
round_of of = record { kind = of; generation = 1; from = 1; number = 1 }

abbrev core_in : Phase → Core
core_in phase = record { deadline = 200; phase = phase; held = None ∷ Some (Shrink 1 2) ∷ [] }

-- an ask is held, and a growth waits whose deadline is still to come
growth_waits : own_measure 1 (λ deadline. 1) (Some (core_in (Waiting (round_of kind.Growth) 5))) ≡ 96 + 187
growth_waits = refl

-- its SYNCs are not out; and nothing is under way
growth_begins : own_measure 1 (λ deadline. 1) (Some (core_in (Mapping (round_of kind.Growth)))) ≡ 186 + 187
growth_begins = refl

rollback_late : own_measure 1 (λ deadline. 0) (Some (core_in (Waiting (round_of kind.Rollback) 5))) ≡ 3 + 187
rollback_late = refl

held_alone : own_measure 1 (λ deadline. 1) (Some (core_in Idle)) ≡ 187
held_alone = refl

-- over threads it counts nothing
counts_nothing : own_measure 0 (λ deadline. 0) (Some (core_in (Waiting (round_of kind.Growth) 5))) ≡ 0
counts_nothing = refl
