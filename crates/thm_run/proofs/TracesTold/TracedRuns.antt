-- After each run of all participants their numbers, the mailboxes, the coordinator and the outcomes are those of their traces.
use Rattle.std.proofs.Common.{◌≡◌, ◌==◌, ◌∙◌, ℕ, List, [], replicate, Option, Some, None, IfSome, ap, sym, subst, length}
use Rattle.std.specs.Prelude.{slice_index_or}
use Rattle.std.specs.List.{All}
use Rattle.std.proofs.lemmas.Bool.{cond_both}
use Rattle.std.proofs.lemmas.List.Elements.{All-nil, All-replicate}
use Rattle.hp_base.specs.declared.pool_line.PoolLine.{PoolLine}
use Rattle.hp_core.specs.Core.{Core}
use Rattle.hp_core.specs.declared.asked.Asked as wanted
use Rattle.hp_core.specs.declared.phase.Phase.TheVariants.{Idle}
use Rattle.hp_frame.specs.declared.frame.Frame.{Frame}
use Rattle.hp_plain.specs.Boxes.{box_of}
use Rattle.hp_segs.specs.SegsView.{SegsView}
use Rattle.hp_proc.specs.Courses.{numbered_in}
use Rattle.hp_proc.specs.Doing.{Done}
use Rattle.hp_serve.specs.Party.{first_core}
use Rattle.hp_proc.proofs.Unarmed.{all_alike, unarmed_new}
use Rattle.thm_run.proofs.PathSteps.ByMail.{run_of}
use Rattle.thm_run.proofs.SeatFacts.CoreWalk.{AreHeld}
use Rattle.thm_run.proofs.SeatFacts.SegsAlong.{armed_along}
use Rattle.thm_run.proofs.Made.{IsNumbered, IsPost, IsTaken}
use Rattle.thm_run.proofs.TracesTold.Numbers.{numbers_of}
use Rattle.thm_run.proofs.TracesTold.ToldSteps.{told_step}
use Rattle.thm_run.proofs.TracesTold.Traced.{AreNumbered, AreTold, AreTraced, IsTracedSeat}
use Rattle.thm_run.proofs.TracesTold.TracedSteps.{traced_step}
use Rattle.thm_run.specs.Seats.{Seat}
use Rattle.thm_run.specs.Together.{IsFirst, IsFirstSeat, GlobalState, RunsByMail}

-- a coordinator, where there is one, holds what took numbers
abbrev HoldsTaken : (ℕ → List Done) → Option Core → Type 0
HoldsTaken took core = (one : Core) → core ≡ Some one → AreHeld (IsTaken took) one.held

held_in : Option Core → List (Option wanted.Asked)
held_in None = []
held_in (Some core) = core.held

-- under the first coordinator nothing is held
first_holds : (took : ℕ → List Done) (who deadline : ℕ) → HoldsTaken took (first_core who deadline)
unfolding held_in
first_holds took who deadline =
    cond_both (who == 0) (Some (record { deadline = deadline; phase = Idle; held = replicate 16 None })) None (HoldsTaken took)
    (λ primary one is.
    let held : replicate 16 None ≡ one.held = ap held_in is in
    subst (AreHeld (IsTaken took)) held (All-replicate (λ one. IfSome one (IsTaken took)) 16 None tt))
    (λ other one is. cc)

module _ (count absent : ℕ) (pools : List PoolLine) (first : GlobalState) (is : IsFirst count absent pools first) where
  -- before its first step a participant has nothing
  first_seat : (took : ℕ → List Done) (who : ℕ) (seat : Seat) → IsFirstSeat who first.segs seat → IsTracedSeat took who seat
  first_seat took who seat is = record {
    me = is.me;
    count = is.asked ∙ sym (ap (λ trace. length (numbered_in trace)) is.trace);
    held = λ one core. first_holds took who seat.party.deadline one (sym is.core ∙ core);
    asking = λ ask asking. let none = is.asking in cc;
  }

  first_box : (who : ℕ) → box_of first.boxes who ≡ []
  first_box who = ap (λ (boxes : List (List Frame)). slice_index_or boxes who []) is.boxes ∙ all_alike [] count who

  traced_first : AreTraced first
  traced_first =
      let took = numbers_of first.seats in
      let armed : first.segs.armed ≡ replicate 16 None = ap (λ (segs : SegsView). segs.armed) is.segs in
      let asks : first.segs.asks ≡ [] = ap (λ (segs : SegsView). segs.asks) is.segs in
      record {
        seats = λ who seat there. first_seat took who seat (is.each who seat there);
        armed = λ who ask here. let none = unarmed_new first.segs who armed in cc;
        asks = subst (AreNumbered took) (sym asks)
            (record { each = All-nil (IsNumbered took); turn = λ place entry none fresh. cc });
      }

  told_first : AreTold first
  told_first =
      let took = numbers_of first.seats in
      record {
        fetched = λ who seat there. subst (All (IsPost took)) (sym (is.each who seat there).fetched) (All-nil (IsPost took));
        boxes = λ who. subst (All (IsPost took)) (sym (first_box who)) (All-nil (IsPost took));
      }

  -- a run, in both parts
  record AreBoth (at : GlobalState) : Type 0 where
    traced : AreTraced at
    told : AreTold at

  both_runs : (now : GlobalState) → RunsByMail count first now → AreBoth now
  both_runs now (RunsByMail.stands at) = record { traced = traced_first; told = told_first }
  both_runs now (RunsByMail.goes_on start mid last runs step by) =
      let was = both_runs mid runs in
      record {
        traced = traced_step count mid now step was.traced was.told (armed_along count absent pools first is mid (run_of runs)).growth;
        told = told_step count mid now step by was.traced was.told;
      }

  pub traced_runs : (now : GlobalState) → RunsByMail count first now → AreTraced now
  traced_runs now runs = (both_runs now runs).traced

  pub told_runs : (now : GlobalState) → RunsByMail count first now → AreTold now
  told_runs now runs = (both_runs now runs).told
