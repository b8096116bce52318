-- Every other line of a text, byte by byte.
use Rattle.std.proofs.Common.{◌≡◌, ℕ, ◌+◌, ◌<◌, Bool, true, false, not, eqb, List, [], ◌∷◌, ◌++◌, length, get_or, drop, append_assoc, refl, sym, ap, ◌∙◌}
use Rattle.std.proofs.lemmas.Bool.{cond-true, cond-false}
use Rattle.std.proofs.lemmas.List.{drop_more}
use Rattle.hp_ring.specs.Weave.{every_other, kept, lines_of, onto, own_after}

-- a byte that goes before some lines
onto_first : (own : Bool) (byte : ℕ) (lines : List (List ℕ)) → every_other own (onto byte lines) ≡ kept own byte ++ every_other own lines
onto_first true byte [] = refl
onto_first false byte [] = refl
onto_first true byte (line ∷ lines) = refl
onto_first false byte (line ∷ lines) = refl

-- by whether the byte is a newline
by_newline : (own : Bool) (byte : ℕ) (text : List ℕ) (newline : Bool) → eqb byte 10 ≡ newline
    → every_other own (lines_of (byte ∷ text)) ≡ kept own byte ++ every_other (own_after own byte) (lines_of text)
by_newline own byte text true is =
    ap (every_other own) (cond-true (eqb byte 10) ((byte ∷ []) ∷ lines_of text) (onto byte (lines_of text)) is)
    ∙ ap (λ (next : Bool). kept own byte ++ every_other next (lines_of text)) (sym (cond-true (eqb byte 10) (not own) own is))
by_newline own byte text false is =
    ap (every_other own) (cond-false (eqb byte 10) ((byte ∷ []) ∷ lines_of text) (onto byte (lines_of text)) is)
    ∙ (onto_first own byte (lines_of text) ∙ ap (λ (next : Bool). kept own byte ++ every_other next (lines_of text)) (sym (cond-false (eqb byte 10) (not own) own is)))

pub next_byte : (own : Bool) (byte : ℕ) (text : List ℕ)
    → every_other own (lines_of (byte ∷ text)) ≡ kept own byte ++ every_other (own_after own byte) (lines_of text)
next_byte own byte text = by_newline own byte text (eqb byte 10) refl

-- what was kept so far, and then what is to come
pub kept_more : (all words : List ℕ) (own after : Bool) (text : List ℕ) (i : ℕ) (more : List ℕ) → i < length text
    → words ++ every_other own (lines_of (drop i text)) ≡ all → more ≡ words ++ kept own (get_or text i 0) → after ≡ own_after own (get_or text i 0)
    → more ++ every_other after (lines_of (drop (i + 1) text)) ≡ all
kept_more all words own after text i more within so_far is next =
    (λ k. is k ++ every_other (next k) (lines_of (drop (i + 1) text)))
    ∙ (append_assoc words (kept own (get_or text i 0)) (every_other (own_after own (get_or text i 0)) (lines_of (drop (i + 1) text)))
    ∙ (ap (λ rest. words ++ rest) (sym (next_byte own (get_or text i 0) (drop (i + 1) text)))
    ∙ (ap (λ (l : List ℕ). words ++ every_other own (lines_of l)) (sym (drop_more text i 0 within)) ∙ so_far)))
