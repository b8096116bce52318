use Rattle.std.proofs.Common.{◌≡◌, ◌<◌, ◌/◌, ◌%◌, get_or, set, length, ap, sym, ◌∙◌, arith}
use Rattle.std.proofs.lemmas.List.{get_or_read}
use Rattle.hp_fbarray.specs.Words.{SetsBit}
use Rattle.hp_fbarray.proofs.PlaceLemmas.{length-places_of, places_of-put, HavePlaces-put}
use Rattle.hp_fbarray.proofs.places.Places.put.Goals as goal

pub index-word-requires : goal.index-word-requires
index-word-requires c =
    let long : c.self.inside.len ≡ length c.args.self.now
    = sym (length-places_of _ _) ∙ ap length c.self.view_is in
    omega (arith, c.self.invariant.enough, c.self.inside.words.ok.0)

pub index_mut-requires : goal.index_mut-requires
index_mut-requires c =
    let long : c.self.inside.len ≡ length c.args.self.now
    = sym (length-places_of _ _) ∙ ap length c.self.view_is in
    omega (arith, c.self.invariant.enough, c.self.inside.words.ok.0)

-- the place lies in the words
inside : (c : goal.After-self-1) → c.args.i < c.self.inside.len
inside c =
    let long : c.self.inside.len ≡ length c.args.self.now
    = sym (length-places_of _ _) ∙ ap length c.self.view_is in
    omega arith

-- what is written is the word with the place's bit
sets : (c : goal.After-self-1)
    → SetsBit (get_or c.self.inside.words.items (c.args.i / 64) 0) c.with_bit.result (c.args.i % 64) c.args.used
sets c =
    let within : c.args.i < c.self.inside.len = inside c in
    let word : c.index-word.result.now ≡ get_or c.self.inside.words.items (c.args.i / 64) 0
    = get_or_read c.self.inside.words.items (c.args.i / 64) c.index-word.result.now
    (omega (arith, c.self.invariant.enough)) c.index-word.ensures 0 in
    rw (← word) c.with_bit.ensures

pub invariant_of-self : goal.invariant_of-self
invariant_of-self c = HavePlaces-put _ _ _ _ _ c.self.invariant (inside c) (sets c)

pub returns : goal.returns
returns c =
    places_of-put _ _ _ _ _ c.self.invariant (inside c) (sets c)
    ∙ ap (λ places. set places c.args.i c.args.used) c.self.view_is
