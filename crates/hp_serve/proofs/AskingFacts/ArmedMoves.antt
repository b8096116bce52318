-- What a step of the coordinator opens is of an armed ask: the calls by which it moves the segment value.
use Rattle.std.proofs.Common.{◌≡◌, ◌+◌, ◌≤◌, ℕ, Bool, true, false, List, [], ◌∷◌, ◌++◌, replicate, cond, Some, None, IsTrue, refl, sym, subst, arith}
use Rattle.std.specs.List.{All}
use Rattle.std.specs.Prelude.{slice_index_or}
use Rattle.std.proofs.lemmas.List.Elements.{All-append, All-cons, All-nil}
use Rattle.hp_base.specs.declared.row.Run.{Run}
use Rattle.hp_log.proofs.Counts.{count_append, count_cons}
use Rattle.hp_core.specs.Moves.{IsCoreMove, IsGrowStart, IsRoundMove, IsStart, cancels, frees, grants, grants_alone, grows as starts_grow, notes, opens as starts_open, passes, refuses, rounds, stale, starts, times_of, waits}
use Rattle.hp_core.specs.declared.event.CoreEvent.{CoreEvent}
use Rattle.hp_core.specs.declared.phase.Phase.{Phase}
use Rattle.hp_hall.specs.Asks.{OpensForArmed}
use Rattle.hp_hall.proofs.Gives.{none_opens}
use Rattle.hp_segs.specs.Calls.{MayDrop}
use Rattle.hp_segs.specs.GrowthLaws.{HasArmedGrowth}
use Rattle.hp_segs.specs.LaterSteps.{after_note, armed_ask}
use Rattle.hp_segs.specs.Moved.{SegsCall, OpenRun, CloseAsk, LogStale, NoteFailed, Agree, Cancel, DropRetiring, LogFreed, IsMovedBy, Leads, May, after, is_growth_step, is_log_call}
use Rattle.hp_segs.specs.SegsView.{SegsView}
use Rattle.hp_segs.specs.Steps.{after_drop, after_open}
use Rattle.hp_segs.specs.declared.ask.Ask.{Ask}
use Rattle.hp_segs.proofs.Moves.{calls_move, moves_stay}

-- one value comes from another by calls that log, at most one of which opens or grants a growth; and where the growth that is open then is of
-- an armed ask, and the asks of the armed are those of the taken value, each growth that they open is of such an ask
pub record MovesArmed (taken old new : SegsView) : Type 0 where
  pub moved : IsMovedBy is_log_call 1 old new
  pub opens : HasArmedGrowth new → new.armed ≡ taken.armed → All (OpensForArmed taken) moved.calls

counts_once : (step : Bool) → cond step 1 0 ≤ 1
counts_once true = omega arith
counts_once false = omega arith

module _ (taken : SegsView) where
  -- by one call
  by_call : (old : SegsView) (call : SegsCall) → IsTrue (is_log_call call) → May call old
      → (HasArmedGrowth (after call old) → (after call old).armed ≡ taken.armed → OpensForArmed taken call) → MovesArmed taken old (after call old)
  by_call old call is may opened = record {
    moved = record {
      calls = call ∷ [];
      leads = (may, refl);
      only = All-cons (λ call. IsTrue (is_log_call call)) call [] is (All-nil (λ call. IsTrue (is_log_call call)));
      few = omega (arith, count_cons is_growth_step call [], counts_once (is_growth_step call));
    };
    opens = λ growth armed. All-cons (OpensForArmed taken) call [] (opened growth armed) (All-nil (OpensForArmed taken));
  }

  -- by calls of which none opens or grants a growth
  by_none : (old new : SegsView) → IsMovedBy is_log_call 0 old new → MovesArmed taken old new
  by_none old new none = record {
    moved = record { calls = none.calls; leads = none.leads; only = none.only; few = omega (arith, none.few) };
    opens = λ growth armed. none_opens taken none.calls none.few;
  }

  leads_on : (calls more : List SegsCall) (first second third : SegsView) → Leads calls first second → Leads more second third
      → Leads (calls ++ more) first third
  leads_on [] more first second third here there = subst (λ segs. Leads more segs third) here there
  leads_on (call ∷ calls) more first second third here there = (here.0, leads_on calls more (after call first) second third here.1 there)

  -- by such calls first
  pub after_none : (old mid new : SegsView) → IsMovedBy is_log_call 0 old mid → MovesArmed taken mid new → MovesArmed taken old new
  after_none old mid new here there = record {
    moved = record {
      calls = here.calls ++ there.moved.calls;
      leads = leads_on here.calls there.moved.calls old mid new here.leads there.moved.leads;
      only = All-append (λ call. IsTrue (is_log_call call)) here.calls there.moved.calls here.only there.moved.only;
      few = omega (arith, count_append is_growth_step here.calls there.moved.calls, here.few, there.moved.few);
    };
    opens = λ growth armed.
        All-append (OpensForArmed taken) here.calls there.moved.calls (none_opens taken here.calls here.few) (there.opens growth armed);
  }

  -- the growth that was opened is of the ask that was armed
  opened_armed : (old : SegsView) (ask : Ask) (run : Run) → HasArmedGrowth (after_open ask run old) → old.armed ≡ taken.armed
      → armed_ask taken ask.from ≡ Some ask
  opened_armed old ask run growth armed = subst (λ armed. slice_index_or armed ask.from None ≡ Some ask) armed growth.its_ask

  grow_armed : (old new : SegsView) → IsGrowStart old new → MovesArmed taken old new
  grow_armed old new (refuses ask cause may is) =
      subst (MovesArmed taken old) (sym is) (by_call old (CloseAsk ask cause) refl may (λ growth armed. tt))
  grow_armed old new (starts_open ask run may is) =
      subst (MovesArmed taken old) (sym is) (by_call old (OpenRun ask run) refl may (opened_armed old ask run))

  dropped : (old : SegsView) → MayDrop old → IsMovedBy is_log_call 0 old (after_drop old)
  dropped old may = calls_move is_log_call DropRetiring old refl may

  start_armed : (old new : SegsView) → IsStart old new → MovesArmed taken old new
  start_armed old new (passes is) = subst (MovesArmed taken old) (sym is) (by_none old old (moves_stay is_log_call old))
  start_armed old new (stale from number may is) =
      subst (MovesArmed taken old) (sym is) (by_call old (LogStale from number) refl may (λ growth armed. tt))
  start_armed old new (starts_grow may grown) = after_none old (after_drop old) new (dropped old may) (grow_armed (after_drop old) new grown)
  start_armed old new (frees from number may freed is) =
      subst (MovesArmed taken old) (sym is)
      (after_none old (after_drop old) (after (LogFreed from number) (after_drop old)) (dropped old may)
      (by_call (after_drop old) (LogFreed from number) refl freed (λ growth armed. tt)))

  module _ (deadline : ℕ) (phase : Phase) (event : CoreEvent) where
    round_armed : (acks : List ℕ) (old new : SegsView) → IsRoundMove (times_of deadline phase event) acks old new → MovesArmed taken old new
    round_armed acks old new (waits is) = subst (MovesArmed taken old) (sym is) (by_none old old (moves_stay is_log_call old))
    round_armed acks old new (grants may long all is) =
        subst (MovesArmed taken old) (sym is) (by_call old (Agree acks) refl (may, long) (λ growth armed. tt))
    round_armed acks old new (grants_alone generation alone its may all is) =
        subst (MovesArmed taken old) (sym is) (by_call old (Agree (replicate 16 generation)) refl (may, refl) (λ growth armed. tt))
    round_armed acks old new (cancels cause may timely is) =
        subst (MovesArmed taken old) (sym is) (by_call old (Cancel cause) refl may (λ growth armed. tt))

    -- each move of the coordinator is by such calls
    pub core_armed : (acks : List ℕ) (old new : SegsView) → IsCoreMove (times_of deadline phase event) acks old new → MovesArmed taken old new
    core_armed acks old new (starts start) = start_armed old new start
    core_armed acks old new (rounds round) = round_armed acks old new round
    core_armed acks old new (notes call row got may round) =
        after_none old (after_note 0 call row got old) new (calls_move is_log_call (NoteFailed 0 call row got) old refl may)
        (round_armed acks (after_note 0 call row got old) new round)
