-- What a participant does while it waits, and while it serves on, is a path.
use Rattle.std.proofs.Common.{◌≡◌, ℕ, zero, suc, Bool, true, false, ◌∙◌, List, [], ◌∷◌, ◌++◌, map, Some, None, refl, sym, ap, subst}
use Rattle.std.proofs.lemmas.Option.{none-some}
use Rattle.hp_hall.specs.Mail.{MailStep, Notes}
use Rattle.hp_hall.specs.declared.note.Note.{Note}
use Rattle.hp_hall.specs.declared.note.Note.TheVariants.{Paused, Read, Yielded}
use Rattle.hp_proc.specs.Courses.{Standing}
use Rattle.hp_proc.specs.Denying.{denials_of}
use Rattle.hp_serve.specs.Party.{Party}
use Rattle.hp_serve.specs.Waiting.{AreServings, AreTurns, HaveServed, IsServedOut, IsTurned, IsWaited}
use Rattle.thm_run.specs.Seats.{Seat}
use Rattle.hp_solo.specs.Served.{ServesOn}
use Rattle.thm_run.proofs.PathSteps.Paths.{Comes, ServesWith, comes_by, serves_here, serves_noted, serves_notes, serves_then, serves_to}
use Rattle.thm_run.proofs.PathSteps.PathsServing.{serving_path}

-- by a judge that denies by what its lines left
module _ (count who : ℕ) (left : Standing) where
  -- one after the other
  serves_both : (party mid after : Party) (first last steps : List MailStep) → steps ≡ first ++ last → party.me ≡ who
      → ServesWith left count who party mid first → (mid.me ≡ who → ServesWith left count who mid after last)
      → ServesWith left count who party after steps
  serves_both party mid after first last steps did me here next seat same =
      let begins = here seat same in
      serves_to count who party after after (first ++ last) steps seat refl did
      (serves_then count who party mid after first last seat begins (next (begins.me ∙ me) begins.behind
      (begins.standing ∙ same)))

  -- so many servings
  servings_path : (times : ℕ) (party after : Party) (steps : List MailStep) → AreServings (denials_of left) count times party after steps
      → party.me ≡ who
      → ServesWith left count who party after steps
  unfolding AreServings
  servings_path zero party after steps are me = λ seat same. serves_here count who party after steps are.0 are.1 seat
  servings_path (suc n) party after steps are me =
      serves_both party are.0 after are.1 are.2 steps are.5 me (servings_path n party are.0 are.1 are.3 me)
      (λ its. serving_path count who left are.0 after are.2 true its are.4)

  -- its part of a turn, which did not stop
  served_out_path : (party after : Party) (steps : List MailStep) (own : Bool)
      → IsServedOut (denials_of left) count party after steps (Some own)
      → party.me ≡ who → ServesWith left count who party after steps
  served_out_path party after steps own (IsServedOut.rests times mid first last few are served did is) me =
      serves_both party mid after first last steps did me (servings_path times party mid first are me)
      (λ its. serving_path count who left mid after last false its served)
  served_out_path party after steps own (IsServedOut.stops times mid first last few are served did is) me = absurd (none-some own (sym is))
  served_out_path party after steps own (IsServedOut.enough are is) me = servings_path _ party after steps are me

  -- and it made notes before that, or after it
  noted_before : (party after : Party) (notes : List Note) (last steps : List MailStep) → steps ≡ map Notes notes ++ last
      → ServesWith left count who party after last → ServesWith left count who party after steps
  noted_before party after notes last steps did next seat same =
      serves_noted count who party after notes last steps seat did (next seat same)

  noted_behind : (party after : Party) (first : List MailStep) (notes : List Note) (steps : List MailStep)
      → steps ≡ first ++ map Notes notes
      → party.me ≡ who → ServesWith left count who party after first → ServesWith left count who party after steps
  noted_behind party after first notes steps did me here =
      serves_both party after after first (map Notes notes) steps did me here (λ its seat same. serves_notes count who after notes seat)

  -- all have served, and nobody stopped
  all_served_path : (party after : Party) (steps : List MailStep) (moved : Bool)
      → HaveServed (denials_of left) count party after steps (Some moved)
      → party.me ≡ who → ServesWith left count who party after steps
  all_served_path party after steps moved (HaveServed.below_stops did after_is is) me = absurd (none-some moved (sym is))
  all_served_path party after steps moved (HaveServed.stops below own served did is) me = absurd (none-some moved (sym is))
  all_served_path party after steps moved (HaveServed.above_stops below mine own served did is) me = absurd (none-some moved (sym is))
  all_served_path party after steps moved (HaveServed.ends below mine above own served did is) me =
      let behind : List Note = Yielded true (Some above) ∷ [] in
      noted_before party after (Yielded false (Some below) ∷ []) (own ++ map Notes behind) steps did
      (noted_behind party after own behind (own ++ map Notes behind) refl me (served_out_path party after own mine served me))

  -- a turn that came to its end
  pub turn_path : (until : ℕ) (party after : Party) (steps : List MailStep) (moved : Bool)
      → IsTurned (denials_of left) count until party after steps (Some moved) → party.me ≡ who → ServesWith left count who party after steps
  turn_path until party after steps moved (IsTurned.stops served is) me = absurd (none-some moved (sym is))
  turn_path until party after steps moved (IsTurned.ends any served paused have pauses did is) me =
      noted_behind party after served (Read pauses.now ∷ Paused any (Some pauses.next) ∷ []) steps
      (did ∙ ap (λ (paused : List MailStep). served ++ paused) pauses.are) me (all_served_path party after served any have me)

  -- so many turns
  turns_path : (until : ℕ) (heeds : Bool) (turns : ℕ) (party after : Party) (steps : List MailStep)
      → AreTurns (denials_of left) count until heeds turns party after steps → party.me ≡ who → ServesWith left count who party after steps
  unfolding AreTurns
  turns_path until heeds zero party after steps are me = λ seat same. serves_here count who party after steps are.0 are.1 seat
  turns_path until heeds (suc n) party after steps are me =
      let mid : Party = are.0 in
      serves_both party mid after are.1 (Notes (Read are.3) ∷ are.2) steps are.8 me (turns_path until heeds n party mid are.1 are.5 me)
      (λ its. noted_before mid after (Read are.3 ∷ []) are.2 _ refl (turn_path until mid after are.2 are.4 are.7 its))

  -- a wait that came to its end
  pub wait_path : (until now : ℕ) (heeds : Bool) (party after : Party) (steps : List MailStep)
      → IsWaited (denials_of left) count until heeds party after steps (Some now) → party.me ≡ who
      → ServesWith left count who party after steps
  wait_path until now heeds party after steps (IsWaited.ends turns last first are waited did is) me =
      noted_behind party after first (Read last ∷ []) steps did me (turns_path until heeds turns party after first are me)
  wait_path until now heeds party after steps (IsWaited.stops turns at mid first last are waits one did is) me =
      absurd (none-some now (sym is))

  -- servings one after another, with pauses between them
  serving_on : (party after : Party) (steps : List MailStep) → ServesOn (denials_of left) count party after steps → party.me ≡ who
      → ServesWith left count who party after steps
  serving_on _ _ _ (ServesOn.rests party) me = λ seat same. serves_here count who party party [] refl refl seat
  serving_on _ _ _ (ServesOn.serves party mid after first last moved before served) me =
      serves_both party mid after first last (first ++ last) refl me (serving_on party mid first before me)
      (λ its. serving_path count who left mid after last moved its served)
  serving_on _ _ _ (ServesOn.pauses party after first before) me =
      noted_behind party after first (Paused false None ∷ []) _ refl me (serving_on party after first before me)

-- what a seat comes to
pub serves_path : (count who : ℕ) (party after : Party) (steps : List MailStep) (seat : Seat)
    → ServesOn (denials_of seat.standing) count party after steps → party.me ≡ who → seat.party ≡ party
    → Comes count who after seat.standing [] [] steps seat
serves_path count who party after steps seat served me is =
    comes_by count who party after steps seat is (serving_on count who seat.standing party after steps served me seat refl)

-- what its lines left is the same under another name
pub serves_as : (count : ℕ) (left other : Standing) (party after : Party) (steps : List MailStep) → left ≡ other
    → ServesOn (denials_of left) count party after steps → ServesOn (denials_of other) count party after steps
serves_as count left other party after steps same served =
    subst (λ (standing : Standing). ServesOn (denials_of standing) count party after steps) same served
