-- Parts that are read or written one after the other.
use Rattle.std.proofs.Common.{◌≡◌, ℕ, ◌+◌, List, ◌++◌, length, take, drop, sym, ap, ◌∙◌, append_assoc, length-append, length-take, length-drop, arith}
use Rattle.std.proofs.lemmas.List.{take_at, drop_at, drop-drop}
use Rattle.hp_frame.specs.Parts.{Puts}

-- what was written of a buffer so far, and what lies after
pub record Written (old : List ℕ) (at : ℕ) (part new : List ℕ) (end : ℕ) : Type 0 where
  pub front : take end new ≡ take at old ++ part
  pub behind : drop end new ≡ drop end old
  pub len : length new ≡ length old

pub Written-from : (old : List ℕ) (at : ℕ) (part new : List ℕ) (end : ℕ) → Puts old at part new end → Written old at part new end
Written-from old at part new end p =
    let whole : new ≡ (take at old ++ part) ++ drop (at + length part) old = p.bytes ∙ sym (append_assoc (take at old) part (drop (at + length part) old)) in
    let front_len : length (take at old ++ part) ≡ end = omega (arith, p.room, p.end_is, length-append (take at old) part, length-take at old) in
    record {
      front = rw whole (take_at (take at old ++ part) (drop (at + length part) old) end front_len);
      behind = rw whole (drop_at (take at old ++ part) (drop (at + length part) old) end front_len ∙ ap (λ (n : ℕ). drop n old) (sym p.end_is));
      len = omega (arith, ap length whole, length-append (take at old ++ part) (drop (at + length part) old), front_len, p.end_is, p.room, length-drop (at + length part) old);
    }

-- two parts, one after the other, are one part
pub Puts-then : {a : List ℕ} {i : ℕ} {x b : List ℕ} {j : ℕ} {y c : List ℕ} {k : ℕ} → Puts a i x b j → Puts b j y c k → Puts a i (x ++ y) c k
Puts-then {a} {i} {x} {b} {j} {y} {c} {k} p q =
    let w = Written-from a i x b j p in
    let ends : j + length y ≡ i + length (x ++ y) = omega (arith, p.end_is, length-append x y) in
    let back : drop (j + length y) b ≡ drop (i + length (x ++ y)) a =
    sym (drop-drop (length y) j b) ∙ ap (λ (l : List ℕ). drop (length y) l) w.behind ∙ drop-drop (length y) j a ∙ ap (λ (n : ℕ). drop n a) ends in
    let regrouped : (take i a ++ x) ++ (y ++ drop (i + length (x ++ y)) a) ≡ take i a ++ ((x ++ y) ++ drop (i + length (x ++ y)) a) = simp append_assoc in
    record {
      room = omega (arith, p.end_is, q.room, w.len, length-append x y);
      end_is = omega (arith, p.end_is, q.end_is, length-append x y);
      bytes = q.bytes ∙ rw (w.front, back) regrouped;
    }

-- what the whole buffer is after a part was written at its front
pub record IsWritten (old part new : List ℕ) (end : ℕ) : Type 0 where
  pub len : end ≡ length part
  pub front : take end new ≡ part
  pub behind : drop end new ≡ drop end old

pub IsWritten-from : (old part new : List ℕ) (end : ℕ) → Puts old 0 part new end → IsWritten old part new end
IsWritten-from old part new end p =
    let w = Written-from old 0 part new end p in
    record { len = omega (arith, p.end_is); front = w.front; behind = w.behind }
