-- A participant has done its own of the first lines, and goes on with the next one.
use Rattle.std.proofs.Common.{◌≡◌, ◌≢◌, ◌∙◌, ℕ, ◌+◌, ◌<◌, ◌==◌, eq-eqb, ne_eqb, List, [], ◌∷◌, ◌++◌, append-nil, get_or, length, take, refl, sym, ap, subst}
use Rattle.std.specs.Prelude.{Result, Ok, Err, IfOk, OnOk}
use Rattle.std.specs.Result.{result_ok}
use Rattle.std.proofs.lemmas.Bool.{cond-false, cond-true}
use Rattle.std.proofs.lemmas.List.{length-map, map-append, take_more}
use Rattle.std.proofs.lemmas.List.Elements.{filter-append}
use Rattle.hp_hall.specs.HallState.{HallState}
use Rattle.hp_script.specs.declared.answer.Answer.{Answer}
use Rattle.hp_script.specs.declared.line.Line.{Line}
use Rattle.hp_script.specs.declared.workload.Workload.{Workload}
use Rattle.hp_proc.specs.LineInHall.{IsReadyAgain}
use Rattle.hp_proc.specs.LinesDone.{Course}
use Rattle.hp_proc.specs.ParticipantView.{ParticipantView}
use Rattle.hp_threads.specs.declared.working.Done.{Done}
use Rattle.hp_threads.specs.Working.{GoesOnWorking, HasDoneOwn, HasWorkedIn, WorksOneMore, lines_for}

module _ (lines : List Line) (index : ℕ) (line : Line) (within : index < length lines) (is : line ≡ get_or lines index line) where
  next_lines : take (index + 1) lines ≡ take index lines ++ line ∷ []
  next_lines = take_more lines index line within ∙ ap (λ (l : Line). take index lines ++ l ∷ []) (sym is)

  -- one more of its own, and one of another
  pub own_more : (who : ℕ) → line.participant ≡ who → lines_for who (take (index + 1) lines) ≡ lines_for who (take index lines) ++ line ∷ []
  own_more who own =
      ap (lines_for who) next_lines
      ∙ filter-append (λ (one : Line). one.participant == who) (take index lines) (line ∷ [])
      ∙ ap (λ (more : List Line). lines_for who (take index lines) ++ more)
      (cond-true (line.participant == who) (line ∷ []) [] (eq-eqb line.participant who own))

  pub other_more : (who : ℕ) → line.participant ≢ who → lines_for who (take (index + 1) lines) ≡ lines_for who (take index lines)
  other_more who apart =
      ap (lines_for who) next_lines
      ∙ filter-append (λ (one : Line). one.participant == who) (take index lines) (line ∷ [])
      ∙ ap (λ (more : List Line). lines_for who (take index lines) ++ more)
      (cond-false (line.participant == who) (line ∷ []) [] (ne_eqb line.participant who apart))
      ∙ append-nil (lines_for who (take index lines))

module _ (workload : Workload) (me : ℕ) (first : ParticipantView) where
  -- before its first step it has done none
  pub own_none : {now : HallState} → HasWorkedIn workload me [] first first now → HasDoneOwn workload me [] [] first first now
  own_none worked = record { courses = []; lines_are = refl; answered = refl; worked = worked }

  -- as many were answered as were done
  pub own_count : (lines : List Line) (answers : List Answer) (doer : ParticipantView) {now : HallState}
      → (done : HasDoneOwn workload me lines answers first doer now) → length done.courses ≡ length answers
  own_count lines answers doer done =
      sym (length-map done.courses (λ (course : Course). course.answer)) ∙ ap (λ (all : List Answer). length all) done.answered

  -- it has done one line more
  pub own_next : (lines more : List Line) (answers : List Answer) (line : Line) (given : Answer) (old new : ParticipantView)
      {from to : HallState} (count : ℕ) → HasDoneOwn workload me lines answers first old from → length answers ≡ count
      → WorksOneMore line given count old new from to → lines_for me more ≡ lines_for me lines ++ line ∷ []
      → HasDoneOwn workload me more (answers ++ given ∷ []) first new to
  own_next lines more answers line given old new count done many works next =
      let one = works workload me done.courses first done.worked (own_count lines answers old done ∙ many) in
      record {
        courses = done.courses ++ one.0 ∷ [];
        lines_are =
            map-append (λ (course : Course). course.line) done.courses (one.0 ∷ [])
            ∙ ap (λ (all : List Line). all ++ one.0.line ∷ []) done.lines_are
            ∙ ap (λ (one : Line). lines_for me lines ++ one ∷ []) one.1.line_is
            ∙ sym next;
        answered =
            map-append (λ (course : Course). course.answer) done.courses (one.0 ∷ [])
            ∙ ap (λ (all : List Answer). all ++ one.0.answer ∷ []) done.answered
            ∙ ap (λ (one : Answer). answers ++ one ∷ []) one.1.answer_is;
        worked = one.2;
      }

  -- the same lines under another name, and later on
  pub own_still : (lines more : List Line) (answers : List Answer) (doer : ParticipantView) {now : HallState}
      → HasDoneOwn workload me lines answers first doer now → lines_for me more ≡ lines_for me lines
      → HasDoneOwn workload me more answers first doer now
  own_still lines more answers doer done same =
      record { courses = done.courses; lines_are = done.lines_are ∙ sym same; answered = done.answered; worked = done.worked }

  pub own_later : (lines : List Line) (answers : List Answer) (old new : ParticipantView) {from to : HallState}
      → HasDoneOwn workload me lines answers first old from → GoesOnWorking old new from to
      → HasDoneOwn workload me lines answers first new to
  own_later lines answers old new done goes = record {
    courses = done.courses;
    lines_are = done.lines_are;
    answered = done.answered;
    worked = goes workload me done.courses first done.worked;
  }

  -- the same of what is the same
  pub own_as : (lines : List Line) (given answers : List Answer) (doer after : ParticipantView) (from to : HallState) → answers ≡ given
      → after ≡ doer → to ≡ from → HasDoneOwn workload me lines given first doer from → HasDoneOwn workload me lines answers first after to
  own_as lines given answers doer after from to same_answers same_doer same_state done =
      subst (λ (answers : List Answer). HasDoneOwn workload me lines answers first after to) (sym same_answers)
      (subst (λ (doer : ParticipantView). HasDoneOwn workload me lines given first doer to) (sym same_doer)
      (subst (λ (now : HallState). HasDoneOwn workload me lines given first doer now) (sym same_state) done))

-- one that is ready again is so under another name
pub again_as : (me : ℕ) (first doer after : ParticipantView) (from to : HallState) → after ≡ doer → to ≡ from
    → IsReadyAgain me first doer from → IsReadyAgain me first after to
again_as me first doer after from to same_doer same_state again =
    subst (λ (doer : ParticipantView). IsReadyAgain me first doer to) (sym same_doer)
    (subst (λ (now : HallState). IsReadyAgain me first doer now) (sym same_state) again)

-- what holds where it is not refused holds of what came
pub was_ok : {A E : Type 0} (result : Result A E) (value : A) (P : Type 0) → result ≡ Ok value → OnOk result P → P
was_ok (Ok it) value P is on = on
was_ok (Err refusal) value P is on = absurd (cc)

pub all_ok : {A E : Type 0} (P Q : A → Type 0) (result : Result A E) → ((value : A) → P value → Q value) → IfOk result P → IfOk result Q
all_ok P Q (Ok value) each is = each value is
all_ok P Q (Err refusal) each is = is

-- what is answered by one call, and is a part of what is answered by the next
pub own_left : {A B E F : Type 0} (part : B → A) (P : A → Type 0) (given : Result A E) (left : Result B F)
    → IfOk left (λ value. given ≡ Ok (part value)) → IfOk given P → IfOk left (λ value. P (part value))
own_left part P given (Ok value) is has = subst (λ (result : Result _ _). IfOk result P) is has
own_left part P given (Err refusal) is has = tt
