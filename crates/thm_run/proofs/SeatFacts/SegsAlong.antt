-- Behind each run of all participants the segment value is sound, and armed as it has to be.
use Rattle.hp_base.specs.declared.pool_line.PoolLine.{PoolLine}
use Rattle.std.specs.Prelude.{ℕ, List}
use Rattle.hp_segs.specs.Standing.{IsArmed}
use Rattle.hp_segs.specs.Sound.{IsSound}
use Rattle.thm_run.specs.Together.{IsFirst, GlobalState, Runs, Steps}

-- a step leaves it so
step_sound : (count : ℕ) (old new : GlobalState) → Steps count old new → IsSound old.segs → IsSound new.segs
step_sound count old new (Steps.quietly at who from to there does) sound = sound
step_sound count old new (Steps.mails at who from to step there does) sound = sound
step_sound count old new (Steps.handles at who from to given there does good armed) sound = good

step_armed : (count : ℕ) (old new : GlobalState) → Steps count old new → IsArmed old.segs → IsArmed new.segs
step_armed count old new (Steps.quietly at who from to there does) armed = armed
step_armed count old new (Steps.mails at who from to step there does) armed = armed
step_armed count old new (Steps.handles at who from to given there does good armed) before = armed

module _ (count absent : ℕ) (pools : List PoolLine) (first : GlobalState) (is : IsFirst count absent pools first) where
  pub sound_along : (now : GlobalState) → Runs count first now → IsSound now.segs
  sound_along now (Runs.stands at) = is.sound
  sound_along now (Runs.goes_on start mid last runs step) = step_sound count mid now step (sound_along mid runs)

  pub armed_along : (now : GlobalState) → Runs count first now → IsArmed now.segs
  armed_along now (Runs.stands at) = is.armed
  armed_along now (Runs.goes_on start mid last runs step) = step_armed count mid now step (armed_along mid runs)
