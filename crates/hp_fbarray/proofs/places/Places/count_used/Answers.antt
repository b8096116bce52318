use Rattle.std.proofs.Common.{◌<◌, ◌^◌, ℕ, ap, ◌∙◌, subst, List, get_or, count_by, sum_by}
use Rattle.std.specs.Int.RustNames.{count_ones}
use Rattle.hp_fbarray.proofs.CountLemmas.{count_of_places}
use Rattle.hp_fbarray.proofs.places.Places.count_used.Goals as goal

pub returns : goal.returns
returns c =
    let fits : (i : ℕ) → get_or c.self.inside.words.items i 0 < 2 ^ 64
    = λ i. subst (λ (words : List ℕ). get_or words i 0 < 2 ^ 64) c.as_slice.ensures.value (c.count_ones.ensures.fits i) in
    c.count_ones.ensures.ones ∙ ap (sum_by count_ones) c.as_slice.ensures.value
    ∙ count_of_places c.self.inside.words.items c.self.inside.len c.self.invariant fits
    ∙ ap (count_by (λ used. used)) c.self.view_is
