-- What is said of a text that was made.
use Rattle.std.proofs.Common.{ℕ, List, Option}
use Rattle.hp_base.specs.declared.status.Status.{Status}
use Rattle.hp_run.specs.Making.{IsMade}
use Rattle.hp_run.specs.Making.IsMade.{wrote, wrote_nothing}

-- what follows of it
pub made_more : (is more : List ℕ → Type 0) (held held' : Option (List ℕ)) (sink_failed : Type 0) (result : Status)
    → ((text : List ℕ) → is text → more text) → IsMade is held held' sink_failed result → IsMade more held held' sink_failed result
made_more is more held held' sink_failed _ follows (wrote result text shown written) = wrote result text (follows text shown) written
made_more is more held held' sink_failed _ follows (wrote_nothing same) = wrote_nothing same
