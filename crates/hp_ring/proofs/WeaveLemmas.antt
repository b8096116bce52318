-- What came through a ring, and what was written of it.
use Rattle.std.proofs.Common.{◌≡◌, ℕ, suc, ◌<◌, get_or, map, Bool, true, false, List, [], ◌∷◌, ◌++◌, refl, sym, ap, subst, ◌∙◌}
use Rattle.std.specs.Prelude.{Option}
use Rattle.std.specs.List.{All, Contains, range_with_len}
use Rattle.std.proofs.lemmas.List.Elements.{All-append, All-cons, All-nil}
use Rattle.hp_base.specs.declared.status.Status.{Status}
use Rattle.hp_base.specs.declared.status.Status.TheVariants as status
use Rattle.hp_command.specs.Reading.{GaveAll}
use Rattle.hp_command.specs.Writing.{Holds, HoldsFront}
use Rattle.hp_ring.specs.declared.gathering.Gathered.{Gathered}
use Rattle.hp_ring.specs.declared.taking.Taken.{Taken}
use Rattle.hp_ring.specs.Bulks.{BulkView, bulks_of}
use Rattle.hp_ring.specs.Exchange.{AreFresh, HasExchanged, HasPassed}
use Rattle.hp_ring.specs.Gathering.{HasGathered, bytes_of}
use Rattle.hp_ring.specs.PassViews.{RingView, SendView, TakeView, WasInOrder, new_sender, new_senders, new_taker}
use Rattle.hp_ring.specs.Program.{EndsRead, EndsThrough, EndsWeave, IsPutOut}
use Rattle.hp_ring.specs.Taking.{HasTakenAll}
use Rattle.hp_ring.specs.Weave.{AreSent, WentThrough, even_lines, every_other, kept, lines_of, odd_lines, own_after, words_of, woven}
use Rattle.hp_ring.proofs.GatherLemmas.{bytes_same}
use Rattle.hp_ring.proofs.LineLemmas.{next_byte}
use Rattle.hp_ring.proofs.SentLemmas.{all_taken, words_sent}

-- every other line of bytes has bytes
kept_below : (own : Bool) (byte : ℕ) → byte < 256 → All (λ b. b < 256) (kept own byte)
kept_below true byte below = All-cons (λ (b : ℕ). b < 256) byte [] below (All-nil (λ (b : ℕ). b < 256))
kept_below false byte below = All-nil (λ (b : ℕ). b < 256)

pub lines_below : (own : Bool) (text : List ℕ) → ((i : ℕ) → get_or text i 0 < 256) → All (λ b. b < 256) (every_other own (lines_of text))
lines_below own [] below = All-nil (λ (b : ℕ). b < 256)
lines_below own (byte ∷ text) below =
    subst (All (λ (b : ℕ). b < 256)) (sym (next_byte own byte text))
    (All-append (λ (b : ℕ). b < 256) (kept own byte) (every_other (own_after own byte) (lines_of text))
    (kept_below own byte (below 0))
    (lines_below (own_after own byte) text (λ i. below (suc i))))

-- what was gathered of a sender of which all was taken is what it was to put
pub bytes_gathered : (who : ℕ) (words : List ℕ) (sent taken : List BulkView) (g : Gathered) → HasPassed who words sent taken
    → HasGathered (bulks_of who taken) g → All (λ b. b < 256) words → g.whole ≡ true → g.bytes.items ≡ words
bytes_gathered who words sent taken g passed gathered below whole =
    gathered.bytes whole
    ∙ (ap (λ (l : List BulkView). bytes_of (words_of l)) passed.all ∙ (ap bytes_of (words_sent who words sent passed.put) ∙ bytes_same words below))

-- A sender and the taker have met, and its end was taken: so all that it has put was.
passed : (who number : ℕ) (words : List ℕ) (sender : SendView) (taker : TakeView) (g : Gathered) → who ≡ number → sender.who ≡ who → AreSent who words sender.sent
    → WasInOrder taker sender → HasGathered (bulks_of number taker.taken) g → g.ended ≡ true → HasPassed who words sender.sent taker.taken
passed who number words sender taker g is same sent order gathered ended =
    let end = gathered.ended ended in
    record {
      put = sent;
      all = all_taken who words sender.sent (bulks_of who taker.taken) (bulks_of who order.0) end.0 sent
          (ap (λ (n : ℕ). bulks_of n taker.taken ++ bulks_of n order.0) (sym same) ∙ order.1)
          (subst (λ (n : ℕ). Contains (bulks_of n taker.taken) end.0) (sym is) end.1) end.2;
    }

-- what two senders have sent, where their ends were taken and the taker has met both
pub exchanged : (ring : RingView) (first second first' second' : SendView) (odd even : List ℕ) (before after : Taken) → AreFresh ring first second before
    → (first'.ring ≡ first.ring) × (first'.who ≡ first.who) × AreSent first.who odd first'.sent
    → (second'.ring ≡ second.ring) × (second'.who ≡ second.who) × AreSent second.who even second'.sent
    → after.pass.ring ≡ before.pass.ring → HasTakenAll after → WasInOrder after.pass first' → WasInOrder after.pass second'
    → HasExchanged first second odd even first' second' after
exchanged ring first second first' second' odd even before after fresh one other taker taken met_first met_second = record {
  first_same = (one.0, one.1);
  second_same = (other.0, other.1);
  ring_same = taker ∙ (fresh.taker_ring ∙ sym fresh.first_ring);
  first_passed = passed first.who 0 odd first' after.pass after.first fresh.first_is one.1 one.2 met_first taken.taken.first taken.first_ended;
  second_passed = passed second.who 1 even second' after.pass after.second fresh.second_is other.1 other.2 met_second taken.taken.second taken.second_ended;
  gathered = taken.taken;
}

-- all that two senders and a taker show of a text that went through a ring
pub record CameThrough (text : List ℕ) (first second : SendView) (taken : Taken) : Type 0 where
  pub first_passed : HasPassed first.who (odd_lines text) first.sent taken.pass.taken
  pub second_passed : HasPassed second.who (even_lines text) second.sent taken.pass.taken
  pub first_is : HasGathered (bulks_of first.who taken.pass.taken) taken.first
  pub second_is : HasGathered (bulks_of second.who taken.pass.taken) taken.second
  pub below : (i : ℕ) → get_or text i 0 < 256

-- the passes of a new ring with two senders, and nothing gathered
pub fresh_passes : (ring : RingView) (first second : SendView) (taken : Taken) → ring.senders ≡ 2 → first ∷ second ∷ [] ≡ new_senders ring
    → taken.pass ≡ new_taker ring.id → HasGathered [] taken.first → HasGathered [] taken.second → AreFresh ring first second taken
fresh_passes ring first second taken two are taker first_none second_none = record {
  first_ring = ap (λ (p : SendView). p.ring) first_at;
  second_ring = ap (λ (p : SendView). p.ring) second_at;
  taker_ring = ap (λ (p : TakeView). p.ring) taker;
  first_is = ap (λ (p : SendView). p.who) first_at;
  second_is = ap (λ (p : SendView). p.who) second_at;
  first_new = ap (λ (p : SendView). p.sent) first_at;
  second_new = ap (λ (p : SendView). p.sent) second_at;
  gathered = record {
    first = subst (λ (p : TakeView). HasGathered (bulks_of 0 p.taken) taken.first) (sym taker) first_none;
    second = subst (λ (p : TakeView). HasGathered (bulks_of 1 p.taken) taken.second) (sym taker) second_none;
  };
}
  where
    are_two : first ∷ second ∷ [] ≡ new_sender ring.id 0 ∷ new_sender ring.id 1 ∷ []
    are_two = are ∙ ap (λ (n : ℕ). map (new_sender ring.id) (range_with_len 0 n)) two

    first_at : first ≡ new_sender ring.id 0
    first_at = ap (λ (l : List SendView). get_or l 0 first) are_two

    second_at : second ≡ new_sender ring.id 1
    second_at = ap (λ (l : List SendView). get_or l 1 second) are_two

-- the text was that of which the senders had the lines
pub came_through : (ring : RingView) (text odd even : List ℕ) (first second first' second' : SendView) (before after : Taken) → AreFresh ring first second before
    → odd ≡ odd_lines text → even ≡ even_lines text → ((i : ℕ) → get_or text i 0 < 256) → HasExchanged first second odd even first' second' after
    → CameThrough text first' second' after
came_through ring text odd even first second first' second' before after fresh odd_is even_is below made = record {
  first_passed = subst (λ (who : ℕ). HasPassed who (odd_lines text) first'.sent after.pass.taken) (sym made.first_same.1)
      (subst (λ (words : List ℕ). HasPassed first.who words first'.sent after.pass.taken) odd_is made.first_passed);
  second_passed = subst (λ (who : ℕ). HasPassed who (even_lines text) second'.sent after.pass.taken) (sym made.second_same.1)
      (subst (λ (words : List ℕ). HasPassed second.who words second'.sent after.pass.taken) even_is made.second_passed);
  first_is = subst (λ (who : ℕ). HasGathered (bulks_of who after.pass.taken) after.first) (sym (made.first_same.1 ∙ fresh.first_is)) made.gathered.first;
  second_is = subst (λ (who : ℕ). HasGathered (bulks_of who after.pass.taken) after.second) (sym (made.second_same.1 ∙ fresh.second_is)) made.gathered.second;
  below = below;
}

module _ (text : List ℕ) (first second : SendView) (taken : Taken) (came : CameThrough text first second taken) where
  both_are : taken.first.whole ≡ true → taken.second.whole ≡ true → taken.first.bytes.items ++ taken.second.bytes.items ≡ woven text
  both_are first_whole second_whole =
      let odd : taken.first.bytes.items ≡ odd_lines text
      = bytes_gathered first.who (odd_lines text) first.sent taken.pass.taken taken.first came.first_passed came.first_is (lines_below true text came.below) first_whole in
      let even : taken.second.bytes.items ≡ even_lines text
      = bytes_gathered second.who (even_lines text) second.sent taken.pass.taken taken.second came.second_passed came.second_is (lines_below false text came.below) second_whole in
      λ i. odd i ++ even i

  went : WentThrough text first second taken.pass
  went = record { odd = came.first_passed.put; even = came.second_passed.put; first_taken = came.first_passed.all; second_taken = came.second_passed.all }

  pub ends_through : (held held' : Option (List ℕ)) (failed : Type 0) (result : Status) → IsPutOut taken.first taken.second held held' failed result
      → EndsThrough text held held' failed result (first ∷ second ∷ []) taken.pass
  ends_through held held' failed status.Ok put =
      (subst (Holds held held') (both_are put.0 put.1) put.2, record { first = first; second = second; are = refl; went = went })
  ends_through held held' failed status.WriteFault put = (subst (HoldsFront held held') (both_are put.0 put.1) put.2, put.3)
  ends_through held held' failed status.OutOfMemory put = put
  ends_through held held' failed status.Usage put = put
  ends_through held held' failed status.BadWorkload put = put
  ends_through held held' failed status.ReadFault put = put
  ends_through held held' failed status.TooLong put = put

-- the text was all that was read
pub ends_weave : (text : List ℕ) (left left' held held' : Option (List ℕ)) (source_failed sink_failed : Type 0) (senders : List SendView) (taker : TakeView) (result : Status)
    → GaveAll left left' text → EndsThrough text held held' sink_failed result senders taker
    → EndsWeave left left' held held' source_failed sink_failed result senders taker
ends_weave text left left' held held' source_failed sink_failed senders taker status.Ok gave put = (text, gave, put.0, put.1)
ends_weave text left left' held held' source_failed sink_failed senders taker status.WriteFault gave put = (text, gave, put.0, put.1)
ends_weave text left left' held held' source_failed sink_failed senders taker status.OutOfMemory gave put = put
ends_weave text left left' held held' source_failed sink_failed senders taker status.Usage gave put = put
ends_weave text left left' held held' source_failed sink_failed senders taker status.BadWorkload gave put = put
ends_weave text left left' held held' source_failed sink_failed senders taker status.ReadFault gave put = absurd put
ends_weave text left left' held held' source_failed sink_failed senders taker status.TooLong gave put = absurd put

-- without the passes
pub ends_read : (left left' held held' : Option (List ℕ)) (source_failed sink_failed : Type 0) (senders : List SendView) (taker : TakeView) (result : Status)
    → EndsWeave left left' held held' source_failed sink_failed result senders taker → EndsRead left left' held held' source_failed sink_failed result
ends_read left left' held held' source_failed sink_failed senders taker status.Ok ends = (ends.0, ends.1, ends.2)
ends_read left left' held held' source_failed sink_failed senders taker status.WriteFault ends = ends
ends_read left left' held held' source_failed sink_failed senders taker status.OutOfMemory ends = ends
ends_read left left' held held' source_failed sink_failed senders taker status.ReadFault ends = ends
ends_read left left' held held' source_failed sink_failed senders taker status.TooLong ends = ends
ends_read left left' held held' source_failed sink_failed senders taker status.Usage ends = ends
ends_read left left' held held' source_failed sink_failed senders taker status.BadWorkload ends = ends
