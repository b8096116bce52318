-- Parts that are slices at their addresses.
use Rattle.std.proofs.Common.{◌≡◌, ℕ, ◌+◌, ◌-◌, List, length, take, drop, refl, arith}
use Rattle.std.proofs.lemmas.List.{take_all, length-drop}
use denote.Ref.{Bor}
use Rattle.hp_script.specs.Part.{part_at}

-- a slice at an address of a text is the part of it there
pub part_is : (start : ℕ) (slice : Bor (List ℕ)) (base : ℕ × ℕ) (text : List ℕ) → slice.now ≡ text → slice.ref_ptr ≡ (base.0, base.1 + start)
    → part_at start slice ≡ record { start = start; text = text; base = base }
part_is start slice base text is there =
    let back : base.1 + start - start ≡ base.1 = omega arith in
    rw (is, there, back) refl

pub to_end : (n : ℕ) (text : List ℕ) → take (length text - n) (drop n text) ≡ drop n text
to_end n text = let len : length (drop n text) ≡ length text - n = length-drop n text in take_all (length text - n) (drop n text) (omega (arith, len))
