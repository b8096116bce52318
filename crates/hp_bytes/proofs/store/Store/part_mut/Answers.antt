-- What is written through the loan is written over the part.
use Rattle.std.proofs.Common.{◌≡◌, ℕ, List, ◌++◌, ◌+◌, ◌-◌, ◌∙◌, length, take, drop, refl, ap, subst, arith}
use Rattle.hp_bytes.specs.StoreView.{StoreView}
use Rattle.hp_bytes.specs.Written.{written_over}
use Rattle.hp_bytes.proofs.store.Store.part_mut.Goals as goal

pub returns : goal.returns
returns c = (
  (
    refl,
    λ w.
        let bytes = c.self.inside.bytes.items in
        let whole : List ℕ = take c.args.part.from bytes ++ (w ++ drop (length w) (drop c.args.part.from bytes)) in
        subst (λ (now : StoreView). ◌≡◌ {A = StoreView} (record { base = c.self.inside.base; bytes = take c.self.inside.bytes.len (whole ++ drop (length whole) bytes) }) (record { base = now.base; bytes = written_over c.args.part.from w now.bytes })) c.self.view_is
        (ap (λ (n : ℕ). record { base = c.self.inside.base; bytes = take n (whole ++ drop (length whole) bytes) }) c.self.inside.bytes.ok.0),
  ),
  record {
    lends = tt;
    part =
        let size : c.args.part.from + c.args.part.len - c.args.part.from ≡ c.args.part.len = omega arith in
        subst (λ (now : StoreView). c.slice_mut.result.now ≡ take c.args.part.len (drop c.args.part.from now.bytes)) c.self.view_is
        (c.slice_mut.ensures.value ∙ ap (λ (n : ℕ). take n (drop c.args.part.from c.self.inside.bytes.items)) size);
  },
)
