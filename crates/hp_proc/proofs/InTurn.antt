-- Where outcomes come in turn, the first grant or refusal of a number is the only outcome of it but stale ones.
use Rattle.std.proofs.Common.{◌≡◌, ◌∙◌, ℕ, zero, suc, ◌<◌, ◌≤◌, Bool, true, false, ◌==◌, cond, List, [], ◌∷◌, ◌++◌, length, take, get_or, Some, refl, ap, sym, subst, arith}
use Rattle.std.specs.Prelude.{Contains}
use Rattle.std.specs.List.{find, slice_get}
use Rattle.std.proofs.lemmas.Bool.{and_parts, eqb-true, not-true}
use Rattle.std.proofs.lemmas.List.{append_assoc}
use Rattle.std.proofs.lemmas.List.Elements.{Contains-push}
use Rattle.hp_heap.proofs.Members.{find_some}
use Rattle.hp_hall.proofs.StandingFacts.StandingAsks.{closed_above}
use Rattle.hp_log.specs.declared.log_record.LogRecord.{LogRecord}
use Rattle.hp_segs.specs.SegsView.{closed_number, grants_or_refuses, is_outcome_for, is_stale}
use Rattle.hp_segs.specs.declared.outcome.AskLog.{AskLog}
use Rattle.hp_proc.specs.Laws.{AnswersInTurn}
use Rattle.hp_proc.specs.Outcomes.{AreInTurn}
use Rattle.hp_serve.proofs.AskingFacts.Armed.{closed_more}
use Rattle.hp_serve.proofs.AskingFacts.AskLooks.{narrower}

-- an element at a place is what is read there
read_at : {X : Type 0} (xs : List X) (k : ℕ) (y : X) → k < length xs → get_or xs k y ≡ y → slice_get xs k ≡ Some y
read_at [] k y within is = absurd (omega (arith, within))
read_at (x ∷ xs) zero y within is = ap Some is
read_at (x ∷ xs) (suc k) y within is = read_at xs k y (omega (arith, within)) is

-- after others it is read further on, and these stand before it
record IsBehind {X : Type 0} (before all : List X) (y : X) : Type 0 where
  pub place : ℕ
  pub read : slice_get all place ≡ Some y
  pub more : List X
  pub first : take place all ≡ before ++ more

is_behind : {X : Type 0} (before rest : List X) (k : ℕ) (y : X) → slice_get rest k ≡ Some y → IsBehind before (before ++ rest) y
is_behind [] rest k y is = record { place = k; read = is; more = take k rest; first = refl }
is_behind (x ∷ before) rest k y is =
    let further = is_behind before rest k y is in
    record { place = suc further.place; read = further.read; more = further.more; first = ap (λ xs. x ∷ xs) further.first }

-- an outcome of that number
record IsOfNumber (who number : ℕ) (entry : AskLog) : Type 0 where
  pub from : entry.from ≡ who
  pub its : entry.number ≡ number
  pub fresh : is_stale entry.outcome ≡ false

of_number : (who number : ℕ) (entry : AskLog) → is_outcome_for who number entry ≡ true → IsOfNumber who number entry
of_number who number entry is =
    let both = and_parts (entry.from == who) _ is in
    let rest = and_parts (entry.number == number) _ both.1 in
    record {
      from = eqb-true entry.from who both.0;
      its = eqb-true entry.number number rest.0;
      fresh = not-true (is_stale entry.outcome) rest.1;
    }

module _ (who number : ℕ) (all : List AskLog) (turn : AreInTurn all) where
  -- two of them do not come one after the other
  never_twice : (before rest : List AskLog) (x y : AskLog) → all ≡ (before ++ x ∷ []) ++ rest → IsOfNumber who number x
      → IsOfNumber who number y → Contains rest y → ⊥
  never_twice before rest x y is of_x of_y among =
      let behind = subst (λ all. IsBehind (before ++ x ∷ []) all y) (sym is)
      (is_behind (before ++ x ∷ []) rest among.0 y (read_at rest among.0 y among.1 among.2)) in
      let above = turn.above behind.place y behind.read of_y.fresh in
      let closed : x.number ≤ closed_number (before ++ x ∷ []) x.from = closed_above (before ++ x ∷ []) x (Contains-push before x)
      of_x.fresh in
      let more : closed_number (before ++ x ∷ []) x.from ≤ closed_number ((before ++ x ∷ []) ++ behind.more) x.from =
      closed_more (before ++ x ∷ []) behind.more x.from in
      let whole : closed_number (take behind.place all) y.from ≡ closed_number ((before ++ x ∷ []) ++ behind.more) x.from =
      ap (λ asks. closed_number asks y.from) behind.first
      ∙ ap (closed_number ((before ++ x ∷ []) ++ behind.more)) (of_y.from ∙ sym of_x.from) in
      omega (arith, above, closed, more, whole, of_x.its, of_y.its)

  only_by : (before rest : List AskLog) (x y : AskLog) (passes settles : Bool) → is_outcome_for who number x ≡ passes
      → grants_or_refuses who number x ≡ settles → all ≡ (before ++ x ∷ []) ++ rest
      → (find (grants_or_refuses who number) rest ≡ Some y → find (is_outcome_for who number) rest ≡ Some y)
      → cond settles (Some x) (find (grants_or_refuses who number) rest) ≡ Some y
      → cond passes (Some x) (find (is_outcome_for who number) rest) ≡ Some y
  only_by before rest x y true true passes settles is behind found = found
  only_by before rest x y true false passes settles is behind found =
      let there = find_some (grants_or_refuses who number) rest y found in
      absurd (never_twice before rest x y is (of_number who number x passes) (of_number who number y (narrower who number y there.0))
      there.1)
  only_by before rest x y false true passes settles is behind found =
      let wrong : false ≡ true = sym passes ∙ narrower who number x settles in
      cc
  only_by before rest x y false false passes settles is behind found = behind found

  only_one : (before asks : List AskLog) (y : AskLog) → all ≡ before ++ asks → find (grants_or_refuses who number) asks ≡ Some y
      → find (is_outcome_for who number) asks ≡ Some y
  only_one before [] y is found = cc
  only_one before (x ∷ rest) y is found =
      let on : all ≡ (before ++ x ∷ []) ++ rest = is ∙ sym (append_assoc before (x ∷ []) rest) in
      only_by before rest x y (is_outcome_for who number x) (grants_or_refuses who number x) refl refl on
      (only_one (before ++ x ∷ []) rest y on) found

pub answers_in_turn : (log : List LogRecord) (asks : List AskLog) → AnswersInTurn log asks
answers_in_turn log asks turn who number asked run answer = record {
  entry = answer.entry;
  logged = only_one who number asks turn [] asks answer.entry refl answer.logged;
  kept = answer.kept;
  given = answer.given;
}
