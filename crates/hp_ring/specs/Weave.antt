-- A text that goes through a ring by two senders, line by line.
use Rattle.std.specs.Prelude.{◌≡◌, ◌≢◌, ℕ, ◌==◌, Bool, true, false, not, List, [], ◌∷◌, ◌++◌, if◌then◌else◌}
use Rattle.std.specs.List.{All, flat_map}
use Rattle.hp_ring.specs.Bulks.{BulkView, bulk, bulks_of}
use Rattle.hp_ring.specs.PassViews.{SendView, TakeView}

-- a byte comes before the first of some lines
abbrev pub onto : ℕ → List (List ℕ) → List (List ℕ)
onto byte [] = (byte ∷ []) ∷ []
onto byte (line ∷ lines) = (byte ∷ line) ∷ lines

-- the lines of a text, each with its newline; what follows the last newline is a line too, where there is something
abbrev pub lines_of : List ℕ → List (List ℕ)
lines_of [] = []
lines_of (byte ∷ text) = if byte == 10 then (byte ∷ []) ∷ lines_of text else onto byte (lines_of text)

-- every other one of some lines, joined: from the first one on where that is one's own, and else from the second one on
abbrev pub every_other : Bool → List (List ℕ) → List ℕ
every_other own [] = []
every_other own (line ∷ lines) = (if own then line else []) ++ every_other (not own) lines

-- the odd lines, and the even lines, where lines are counted from 1
abbrev pub odd_lines : List ℕ → List ℕ
odd_lines text = every_other true (lines_of text)

abbrev pub even_lines : List ℕ → List ℕ
even_lines text = every_other false (lines_of text)

abbrev pub woven : List ℕ → List ℕ
woven text = odd_lines text ++ even_lines text

-- byte by byte: whether the next byte is of one's own lines, and what a byte adds to them
abbrev pub own_after : Bool → ℕ → Bool
own_after own byte = if byte == 10 then not own else own

abbrev pub kept : Bool → ℕ → List ℕ
kept own byte = if own then byte ∷ [] else []

-- the words of bulks, joined
abbrev pub words_of : List BulkView → List ℕ
words_of bulks = flat_map (λ b. b.words) bulks

-- the bulks are words of a sender in bulks with words, and then one without
pub record AreSent (who : ℕ) (words : List ℕ) (bulks : List BulkView) : Type 0 where
  pub full : List BulkView
  pub are : bulks ≡ full ++ bulk who [] ∷ []
  pub some : All (λ b. b.words ≢ []) full
  pub joined : words_of full ≡ words

-- the lines went through the ring: each sender has put its own and then an end, and the taker has taken all of it
pub record WentThrough (text : List ℕ) (first second : SendView) (taker : TakeView) : Type 0 where
  pub odd : AreSent first.who (odd_lines text) first.sent
  pub even : AreSent second.who (even_lines text) second.sent
  pub first_taken : bulks_of first.who taker.taken ≡ first.sent
  pub second_taken : bulks_of second.who taker.taken ≡ second.sent
