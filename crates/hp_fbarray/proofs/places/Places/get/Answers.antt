use Rattle.std.proofs.Common.{◌≡◌, ◌/◌, ◌%◌, get_or, false, length, ap, sym, ◌∙◌, arith}
use Rattle.std.proofs.lemmas.List.{get_or_read}
use Rattle.hp_fbarray.specs.Words.{is_bit}
use Rattle.hp_fbarray.proofs.PlaceLemmas.{length-places_of, get_or-places_of}
use Rattle.hp_fbarray.proofs.places.Places.get.Goals as goal

pub index-requires : goal.index-requires
index-requires c =
    let long : c.self.inside.len ≡ length c.args.self.now
    = sym (length-places_of _ _) ∙ ap length c.self.view_is in
    omega (arith, c.self.invariant.enough, c.self.inside.words.ok.0)

pub returns : goal.returns
returns c =
    let long : c.self.inside.len ≡ length c.args.self.now
    = sym (length-places_of _ _) ∙ ap length c.self.view_is in
    let word : c.index.result.now ≡ get_or c.self.inside.words.items (c.args.i / 64) 0
    = get_or_read c.self.inside.words.items (c.args.i / 64) c.index.result.now
    (omega (arith, c.self.invariant.enough)) c.index.ensures 0 in
    c.is_bit.ensures ∙ ap (λ w. is_bit w (c.args.i % 64)) word
    ∙ sym (get_or-places_of c.self.inside.words.items c.self.inside.len c.args.i false (omega arith))
    ∙ ap (λ places. get_or places c.args.i false) c.self.view_is
