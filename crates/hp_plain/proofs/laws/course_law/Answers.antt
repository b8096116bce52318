-- The laws are lemmas.
use Rattle.hp_plain.proofs.Walks.{idle_add_no_entries, idle_stay_in_place, ranges_stay, solo_steps_are_its_own, undeclared_do_nothing, values_stay_sound}
use Rattle.hp_plain.proofs.laws.course_law.Goals as goal

pub returns : goal.returns
returns c = record {
  undeclared = undeclared_do_nothing;
  solo = solo_steps_are_its_own;
  entries = idle_add_no_entries;
  places = idle_stay_in_place;
  ranges = ranges_stay;
  sound = values_stay_sound;
}
