use Rattle.std.proofs.Common.{◌≡◌, ◌+◌, ◌==◌, ◌<◌, ◌≤◌, cond, length, ap, refl, ◌∙◌, arith}
use Rattle.hp_report.specs.KnownNames.{kept_at}
use Rattle.hp_report.proofs.NameLemmas.{kept_resized, kept_set}
use Rattle.hp_report.proofs.names.keep.Goals as goal
use Rattle.hp_report.proofs.names.keep.Goals.{then-place-len+in_ok-resize, else-place-len}

pub returns : goal.returns
returns c k =
    let place = c.args.number in
    let name = c.args.name in
    let old = c.args.names.now in
    let row = c.if-place-len.names in
    elim c.if-place-len.branch [
      | then-place-len+in_ok-resize w ↦
          let within : place < length row.items = omega (arith, ap (λ v. v.len) w.names-is, w.in_ok-resize.ensures.len, row.ok.0) in
          let shorter : length old.items ≤ place + 1 = omega (arith, w.if-place-len.true, c.len.ensures, old.ok.0) in
          let same : kept_at row.items k ≡ kept_at old.items k =
          ap (λ v. kept_at v.items k) w.names-is ∙ ap (λ names. kept_at names k) w.in_ok-resize.ensures.items ∙ kept_resized old.items (place + 1) _ _ refl shorter k in
          kept_set row.items place name within k ∙ ap (cond (place == k) name.now) same
      | else-place-len w ↦
          let within : place < length row.items = omega (arith, w.if-place-len.false, c.len.ensures, ap (λ v. v.len) w.names-is, row.ok.0) in
          kept_set row.items place name within k ∙ ap (cond (place == k) name.now) (ap (λ v. kept_at v.items k) w.names-is)
    ]
