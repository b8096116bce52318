-- Before the first line nothing was judged, and nothing was handed.
use Rattle.std.proofs.Common.{◌≡◌, List, [], ◌∷◌, ◌++◌}
use Rattle.std.proofs.lemmas.List.Elements.{All-nil}
use Rattle.hp_proc.specs.LinesDone.{Course}
use Rattle.hp_proc.specs.NamesAtEnd.{AreHandedTogether}
use Rattle.thm_run.specs.Handing.{CountedOpen, JudgedOpen, ReadsFirst}

no_moment : (earlier : List Course) (course : Course) (later : List Course) → [] ≡ earlier ++ course ∷ later → ⊥
no_moment [] course later is = cc
no_moment (first ∷ earlier) course later is = cc

pub judged_open : JudgedOpen
judged_open workload segs = record {
  allowed = λ so_far who done moment. absurd (no_moment moment.earlier moment.course moment.later moment.lines);
  denied = λ so_far who done moment. absurd (no_moment moment.earlier moment.course moment.later moment.lines);
}

pub counted_open : CountedOpen
counted_open workload = record {
  reads = All-nil (λ (course : Course). ReadsFirst course.trace);
  handed = λ so_far who done moment. absurd (no_moment moment.earlier moment.course moment.later moment.lines);
  together = All-nil (AreHandedTogether workload.pools.items);
}
