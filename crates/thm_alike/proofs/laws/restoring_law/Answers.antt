-- The laws are lemmas.
use Rattle.thm_alike.proofs.EndRestored.{courses_restore, end_tables_restore}
use Rattle.thm_alike.proofs.FailedCourses.{failed_courses_restore}
use Rattle.thm_alike.proofs.FailedTables.{answering_restore, sound_logs_restore}
use Rattle.thm_alike.proofs.laws.restoring_law.Goals as goal

pub returns : goal.returns
returns c = record {
  tables = sound_logs_restore;
  answering = answering_restore;
  states = failed_courses_restore;
  along = courses_restore;
  at_end = end_tables_restore;
}
