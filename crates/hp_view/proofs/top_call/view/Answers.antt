use Rattle.std.proofs.Common.{refl}
use Rattle.hp_view.specs.Outcome.Ends.{failed, no_memory, too_long}
use Rattle.hp_view.proofs.OutcomeLemmas.{all_balanced, answered_ends, gave_too_much}
use Rattle.hp_view.proofs.top_call.view.Goals as goal

pub returns-in-Ok : goal.returns-in-Ok
returns-in-Ok g c = record { outcome = answered_ends _ _ _ _ _ _ _ _ c.in-Ok.ensures.read c.as_slice.ensures.value c.answered.ensures; balanced = all_balanced }

pub returns-in-Err-Failed : goal.returns-in-Err-Failed
returns-in-Err-Failed g c = record { outcome = failed refl (c.in-Err-Failed.ensures.cause.rose (rw c.in-Err-Failed.field-0-is refl)) refl refl; balanced = all_balanced }

pub returns-in-Err-TooLong : goal.returns-in-Err-TooLong
returns-in-Err-TooLong g c = record { outcome = too_long refl (gave_too_much _ _ _ c.in-Err-TooLong.field-0-is c.in-Err-TooLong.ensures.read) refl refl; balanced = all_balanced }

pub returns-in-Err-OutOfMemory : goal.returns-in-Err-OutOfMemory
returns-in-Err-OutOfMemory g c = record { outcome = no_memory refl refl refl; balanced = all_balanced }
