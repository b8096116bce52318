-- What the code keeps of labels. No public clause cites this module.
use Rattle.std.specs.Prelude.{ℕ, List, Option}
use Rattle.std.specs.Str.{bytes_eq}
use Rattle.std.specs.HashMap.{get_by}
use Rattle.hp_bytes.specs.declared.labels.Labels.{Labels}
use Rattle.hp_bytes.specs.declared.labels.Place.{Place}

-- what a label stands for, where it is live
abbrev pub place_of : Labels → List ℕ → Option Place
place_of labels label = get_by (λ key. bytes_eq label key.text.now) labels.places
