-- How a name's bytes are kept.
use Rattle.std.proofs.Common.{◌≡◌, ℕ, ◌-◌, ◌<◌, ◌≤◌, List, ◌++◌, length, drop, replicate, sym, subst, ap, ◌∙◌, arith, length-append}
use Rattle.std.proofs.lemmas.List.{drop-replicate, length-replicate}
use Rattle.std.proofs.Math.Seq.{take-append_seam}
use Rattle.hp_base.specs.Names.{IsPadded}

-- a text in front of the zeros that it leaves of 63
pub IsPadded-text : (text rest : List ℕ) → 0 < length text → length text ≤ 63 → rest ≡ drop (length text) (replicate 63 0) → IsPadded (text ++ rest) (length text)
IsPadded-text text rest some short zeros =
    let rest_is : rest ≡ replicate (63 - length text) 0 = zeros ∙ drop-replicate (length text) 63 0 in
    record {
      some = some;
      short = short;
      long = length-append text rest ∙ (let rest_long : length rest ≡ 63 - length text = ap length rest_is ∙ length-replicate (63 - length text) 0 in omega arith);
      zeros = subst (λ (front : List ℕ). text ++ rest ≡ front ++ replicate (63 - length front) 0) (sym (take-append_seam text rest)) (ap (λ (back : List ℕ). text ++ back) rest_is);
    }
