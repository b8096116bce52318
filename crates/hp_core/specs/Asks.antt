-- Asks as they come, whether their participant is armed with them, and what they are answered.
use Rattle.std.specs.Prelude.{ℕ, Bool, true, false, not, ◌&&◌, ◌==◌, nat_le, List, Option, Some, None}
use Rattle.hp_segs.specs.SegsView.{SegsView, closed_number, outcome_of}
use Rattle.hp_segs.specs.LaterSteps.{armed_ask}
use Rattle.hp_segs.specs.declared.ask.Ask.{Ask}
use Rattle.hp_segs.specs.declared.outcome.AskLog.{AskLog}
use Rattle.hp_segs.specs.declared.outcome.Outcome.{Outcome}
use Rattle.hp_segs.specs.declared.outcome.Outcome.TheVariants.{Granted, Refused, Stale, Freed}
use Rattle.hp_core.specs.declared.asked.Asked.{Asked}
use Rattle.hp_core.specs.declared.asked.Asked.TheVariants.{Grow, Shrink}
use Rattle.hp_core.specs.declared.out.Out.{Out}
use Rattle.hp_core.specs.declared.out.Out.TheVariants.{Nothing, Answer}

-- the participant that asks
abbrev pub asker : Asked → ℕ
asker (Grow ask) = ask.from
asker (Shrink from number) = from

-- the number of the ask
abbrev pub number_of : Asked → ℕ
number_of (Grow ask) = ask.number
number_of (Shrink from number) = number

-- the asks have the same participant, number, heap, socket, page size and request
abbrev pub is_same_ask : Ask → Ask → Bool
is_same_ask a b =
    (a.from == b.from) && ((a.number == b.number) && ((a.heap == b.heap) && ((a.socket == b.socket) && ((a.page == b.page)
    && ((a.request.size == b.request.size) && ((a.request.align == b.request.align) && ((a.request.bound == b.request.bound)
    && (a.request.flags == b.request.flags))))))))

abbrev pub is_armed_by : Ask → Option Ask → Bool
is_armed_by ask None = false
is_armed_by ask (Some armed) = is_same_ask armed ask

-- the ask is the one with which its participant is armed
abbrev pub is_armed : Ask → SegsView → Bool
is_armed ask segs = is_armed_by ask (armed_ask segs ask.from)

-- the ask is closed: its number is not above the participant's closed number
abbrev pub is_closed : Asked → SegsView → Bool
is_closed asked segs = nat_le (number_of asked) (closed_number segs.asks (asker asked))

-- an ask for memory that is not closed, and with which its participant is not armed
abbrev pub is_unarmed : Asked → SegsView → Bool
is_unarmed (Grow ask) segs = not (is_closed (Grow ask) segs) && not (is_armed ask segs)
is_unarmed (Shrink from number) segs = false

-- memory was granted, or has gone back
abbrev pub is_good : Outcome → Bool
is_good (Granted generation) = true
is_good (Refused cause) = false
is_good (Stale done) = false
is_good (Freed generation) = true

abbrev pub answer_by : ℕ → ℕ → ℕ → Option Outcome → Out
answer_by from number what None = Nothing
answer_by from number what (Some outcome) = Answer from number what (is_good outcome)

-- what an ask is answered: whether its logged outcome is good, and nothing where none is logged
abbrev pub answer_of : List AskLog → ℕ → ℕ → ℕ → Out
answer_of asks from number what = answer_by from number what (outcome_of asks from number)
