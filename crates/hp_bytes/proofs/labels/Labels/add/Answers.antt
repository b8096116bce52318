-- A map that has one key more, at each label.
use Rattle.std.proofs.Common.{List, ℕ, ap, ◌∙◌, cond}
use Rattle.std.specs.Prelude.{Some}
use Rattle.std.specs.Str.{bytes_eq}
use Rattle.hp_bytes.specs.Places.{place_of}
use Rattle.hp_bytes.proofs.labels.Labels.add.Goals as goal

pub returns : goal.returns
returns c = λ other.
    c.in_ok-_before.ensures.updates.0 (record { text = record { ref_ptr = (0, 0); now = other } })
    ∙ ap (λ (text : List ℕ). cond (bytes_eq text other) (Some c.args.place) (place_of c.args.self.now other)) c.as_bytes.ensures
