-- Acknowledgement words, and what is known of them: the part "Words" of the rule in docs/BOARD.md.
use Rattle.std.specs.Prelude.{◌≡◌, ℕ, ◌+◌, ◌<◌, ◌≤◌, List, slice_index}
use Rattle.hp_board.specs.Views.{noted_of}
use Rattle.hp_board.specs.declared.view.Mine.{Mine}
use Rattle.hp_board.specs.declared.words.TheConstants.{ACK_WORDS, DONE_WORDS}

-- the number of a participant's acknowledgement word
abbrev pub ack_word : ℕ → ℕ
ack_word who = ACK_WORDS + who

-- the participants' numbers, as their words have them
abbrev pub number_by : List ℕ → ℕ → ℕ
number_by words who = slice_index words (ack_word who)

-- the number of a participant's done word, and how many lines of each are done, as the words have it
abbrev pub done_word : ℕ → ℕ
done_word who = DONE_WORDS + who

abbrev pub lines_by : List ℕ → ℕ → ℕ
lines_by words who = slice_index words (done_word who)

-- a participant's word is how many records it has acknowledged, and what it knows of another's is at most that one's word
pub record IsTold (participants : ℕ) (words : List ℕ) (who : ℕ) (mine : Mine) : Type 0 where
  pub its : mine.who ≡ who
  pub own : number_by words who ≡ mine.number
  pub noted : (other : ℕ) → other < participants → noted_of other mine ≤ number_by words other
