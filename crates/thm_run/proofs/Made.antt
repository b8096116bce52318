-- What took the numbers of each participant, an ask or a notice, and what of it mailboxes, the coordinator and the outcomes hold; more
-- that is done leaves that.
use Rattle.std.proofs.Common.{◌≡◌, ℕ, ◌-◌, ◌<◌, ◌≤◌, true, List, length, Option, Some, sym, subst, arith}
use Rattle.std.specs.Prelude.{slice_get}
use Rattle.std.proofs.lemmas.Option.{slice_get_within}
use Rattle.hp_base.specs.declared.row.Run.{Run}
use Rattle.hp_core.specs.declared.asked.Asked.TheVariants as want
use Rattle.hp_core.specs.declared.asked.Asked as wanted
use Rattle.hp_frame.specs.declared.frame.Frame.{Frame}
use Rattle.hp_frame.specs.declared.message.Body.{Body}
use Rattle.hp_segs.specs.SegsView.{is_grant_or_refusal, is_stale}
use Rattle.hp_segs.specs.declared.ask.Ask.{Ask}
use Rattle.hp_segs.specs.declared.outcome.AskLog.{AskLog}
use Rattle.hp_segs.specs.declared.outcome.Outcome.TheVariants.{Freed}
use Rattle.hp_serve.specs.Asking.{alloc_body, free_body}
use Rattle.hp_proc.specs.Doing.{Done}
use Rattle.hp_proc.specs.Doing.Done.{Asked, GaveUp}
use Rattle.hp_serve.specs.Frames.{Says}
use Rattle.hp_serve.specs.Asking.{ask_of}
use Rattle.hp_serve.specs.declared.pages_asked.PagesAsked.{PagesAsked}
use Rattle.thm_run.proofs.TracesTold.Numbers.{AreLater, stays_at}
use Rattle.thm_run.specs.Seats.{AsksNothing}

-- that number was taken by an ask of its participant
pub record WasAsked (took : ℕ → List Done) (from number : ℕ) : Type 0 where
  pub some : 0 < number
  pub asked : PagesAsked
  pub run : Option Run
  pub its : slice_get (took from) (number - 1) ≡ Some (Asked asked run)

-- that number was taken by a notice of its participant
pub record WasGivenUp (took : ℕ → List Done) (from number : ℕ) : Type 0 where
  pub some : 0 < number
  pub heap : ℕ
  pub run : Run
  pub its : slice_get (took from) (number - 1) ≡ Some (GaveUp heap run)

-- the ask was made by its participant, whole as it is
pub record IsMade (took : ℕ → List Done) (ask : Ask) : Type 0 where
  pub some : 0 < ask.number
  pub asked : PagesAsked
  pub run : Option Run
  pub its : slice_get (took ask.from) (ask.number - 1) ≡ Some (Asked asked run)
  pub is : ask ≡ ask_of ask.from ask.number asked

-- what the coordinator is handed was asked, or told
abbrev pub IsTaken : (ℕ → List Done) → wanted.Asked → Type 0
IsTaken took (want.Grow ask) = WasAsked took ask.from ask.number
IsTaken took (want.Shrink from number) = WasGivenUp took from number

-- a frame says nothing that asks, an ask that was made, or a notice that was given
pub data IsPost (took : ℕ → List Done) (frame : Frame) : Type 0 where
  asks_nothing : (body : Body) → AsksNothing body → Says frame body → IsPost took frame
  asking : (ask : Ask) → Says frame (alloc_body ask) → WasAsked took ask.from ask.number → IsPost took frame
  telling : (from number heap : ℕ) (run : Run) → Says frame (free_body from number heap run) → WasGivenUp took from number
      → IsPost took frame

-- an outcome has a number that was taken, by what it is an outcome of; a grant and a refusal keep the ask
pub data IsNumbered (took : ℕ → List Done) (entry : AskLog) : Type 0 where
  stale_ask : is_stale entry.outcome ≡ true → WasAsked took entry.from entry.number → IsNumbered took entry
  stale_notice : is_stale entry.outcome ≡ true → WasGivenUp took entry.from entry.number → IsNumbered took entry
  answered : (ask : Ask) → is_grant_or_refusal entry.outcome ≡ true → IsMade took ask → entry.from ≡ ask.from → entry.number ≡ ask.number
      → entry.ask ≡ Some ask → IsNumbered took entry
  freed : (generation : ℕ) → entry.outcome ≡ Freed generation → WasGivenUp took entry.from entry.number → IsNumbered took entry

module _ (took later : ℕ → List Done) (grown : AreLater took later) where
  asked_later : (from number : ℕ) → WasAsked took from number → WasAsked later from number
  asked_later from number was = record {
    some = was.some;
    asked = was.asked;
    run = was.run;
    its = stays_at took later grown from (number - 1) (Asked was.asked was.run) was.its;
  }

  given_up_later : (from number : ℕ) → WasGivenUp took from number → WasGivenUp later from number
  given_up_later from number was = record {
    some = was.some;
    heap = was.heap;
    run = was.run;
    its = stays_at took later grown from (number - 1) (GaveUp was.heap was.run) was.its;
  }

  pub made_later : (ask : Ask) → IsMade took ask → IsMade later ask
  made_later ask made = record {
    some = made.some;
    asked = made.asked;
    run = made.run;
    its = stays_at took later grown ask.from (ask.number - 1) (Asked made.asked made.run) made.its;
    is = made.is;
  }

  pub taken_later : (one : wanted.Asked) → IsTaken took one → IsTaken later one
  taken_later (want.Grow ask) was = asked_later ask.from ask.number was
  taken_later (want.Shrink from number) was = given_up_later from number was

  pub post_later : (frame : Frame) → IsPost took frame → IsPost later frame
  post_later frame (asks_nothing body nothing says) = asks_nothing body nothing says
  post_later frame (asking ask says was) = asking ask says (asked_later ask.from ask.number was)
  post_later frame (telling from number heap run says was) = telling from number heap run says (given_up_later from number was)

  pub numbered_later : (entry : AskLog) → IsNumbered took entry → IsNumbered later entry
  numbered_later entry (stale_ask is was) = stale_ask is (asked_later entry.from entry.number was)
  numbered_later entry (stale_notice is was) = stale_notice is (given_up_later entry.from entry.number was)
  numbered_later entry (answered ask is made from number kept) = answered ask is (made_later ask made) from number kept
  numbered_later entry (freed generation is was) = freed generation is (given_up_later entry.from entry.number was)

-- an ask that was made took its number
pub made_asked : (took : ℕ → List Done) (ask : Ask) → IsMade took ask → WasAsked took ask.from ask.number
made_asked took ask made = record { some = made.some; asked = made.asked; run = made.run; its = made.its }

-- the number was taken by one thing or another that its participant did
pub record TookNumber (took : ℕ → List Done) (entry : AskLog) : Type 0 where
  pub some : 0 < entry.number
  pub done : Done
  pub its : slice_get (took entry.from) (entry.number - 1) ≡ Some done
  pub within : entry.number ≤ length (took entry.from)

within_them : {X : Type 0} (xs : List X) (number : ℕ) (x : X) → 0 < number → slice_get xs (number - 1) ≡ Some x → number ≤ length xs
within_them xs number x some is = omega (arith, some, slice_get_within xs (number - 1) x is)

by_ask : (took : ℕ → List Done) (entry : AskLog) → WasAsked took entry.from entry.number → TookNumber took entry
by_ask took entry was = record {
  some = was.some;
  done = Asked was.asked was.run;
  its = was.its;
  within = within_them (took entry.from) entry.number (Asked was.asked was.run) was.some was.its;
}

by_notice : (took : ℕ → List Done) (entry : AskLog) → WasGivenUp took entry.from entry.number → TookNumber took entry
by_notice took entry was = record {
  some = was.some;
  done = GaveUp was.heap was.run;
  its = was.its;
  within = within_them (took entry.from) entry.number (GaveUp was.heap was.run) was.some was.its;
}

pub took_number : (took : ℕ → List Done) (entry : AskLog) → IsNumbered took entry → TookNumber took entry
took_number took entry (stale_ask is was) = by_ask took entry was
took_number took entry (stale_notice is was) = by_notice took entry was
took_number took entry (answered ask is made from number kept) =
    let was = made_asked took ask made in
    by_ask took entry
    (subst (λ n. WasAsked took n entry.number) (sym from) (subst (WasAsked took ask.from) (sym number) was))
took_number took entry (freed generation is was) = by_notice took entry was
