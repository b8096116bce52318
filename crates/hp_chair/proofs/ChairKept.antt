-- What a hall with one seat keeps, after a step of its seat.
use Rattle.std.proofs.Common.{◌≡◌, ◌≢◌, ℕ, ◌≤◌, Bool, List, [], ◌∷◌, ◌++◌, length, Option, Some, None, sym, ap, subst, ◌∙◌, arith}
use Rattle.std.proofs.lemmas.List.Sums.{fold-append}
use Rattle.hp_log.specs.declared.log_record.LogRecord.{LogRecord}
use Rattle.hp_segs.specs.Standing.{Holding}
use Rattle.hp_segs.specs.declared.outcome.AskLog.{AskLog}
use Rattle.std.specs.Option.{is_some}
use Rattle.atomic_table.specs.Seated.{TableId}
use Rattle.hp_mail.specs.PassView.{MailboxView, PassView}
use Rattle.hp_hall.specs.Mail.{Gives, MailStep, Takes}
use Rattle.hp_hall.specs.Named.{NamesSeen}
use Rattle.hp_hall.specs.Telling.{acked_after, acked_since_take}
use Rattle.hp_hall.specs.Values.{Fits, HasAsks, HasLog, HasMember, HasNames, joined_after}
use Rattle.hp_hall.specs.declared.kept.Kept.{Kept}
use Rattle.hp_hall.specs.declared.kept.Kept.TheVariants.{Heap, Names, Segments}
use Rattle.hp_board.specs.BoardView.{BoardView}
use Rattle.hp_board.specs.KeptValues.{IsKeptAt}
use Rattle.hp_board.specs.Views.{after_give, asks_heard, log_seen, named_of, names_seen, value_of, zones_seen}
use Rattle.hp_board.specs.declared.opening.Opening.{Opening}
use Rattle.hp_board.specs.declared.view.Mine.{Mine}
use Rattle.hp_chair.specs.ChairInside.{AreHeld, IsAckedBy, IsChair, IsReader, IsTiedTo}
use Rattle.hp_stats.specs.StatViews as stats
use Rattle.hp_stats.specs.StatViews.{seen_of}
use Rattle.hp_stats.specs.declared.stat_pair.StatPair.{StatPair}
use Rattle.hp_chair.specs.ChairView.{ChairView, greatest_count}
use Rattle.hp_chair.specs.Publishing.{HasReadBy}
use Rattle.hp_chair.specs.Steps.{told_in}
use Rattle.hp_chair.specs.Places.{ArePlaces}
use Rattle.hp_chair.proofs.ChairSteps.{GoesOn, count_on}
use Rattle.hp_chair.proofs.PairsRead.{ShowsNothing, read_still}
use Rattle.hp_chair.proofs.StepsOn.{IsQuiet, TellsNone, places_still, tied_still, told_push}

-- what is in hand stays, what was seen, and whether the participant is in the roster
pub record LeavesHand (old new : Mine) : Type 0 where
  pub who : new.who ≡ old.who
  pub opening : new.opening ≡ old.opening
  pub joined : new.joined ≡ old.joined
  pub held : new.held ≡ old.held
  pub moves : new.moves ≡ old.moves
  pub log : new.log ≡ old.log
  pub heard : new.heard ≡ old.heard
  pub named : named_of new ≡ named_of old
  pub holdings : new.holdings ≡ old.holdings

pub held_still : (old new : Mine) → LeavesHand old new → AreHeld old → AreHeld new
held_still old new leaves was slot kept there =
    let is = was slot kept (ap (λ (l : List (ℕ × Kept)). value_of slot l) (sym leaves.held) ∙ there) in
    record {
      at = subst (λ (o : Opening). IsKeptAt o slot kept) (sym leaves.opening) is.at;
      log = subst (λ (l : List LogRecord). HasLog l kept) (sym leaves.log) is.log;
      asks = subst (λ (l : List AskLog). HasAsks l kept) (sym leaves.heard) is.asks;
      names = subst (λ (n : NamesSeen). HasNames n kept) (sym leaves.named) is.names;
      roster = subst (λ (n : ℕ). HasMember n new.joined kept) (sym leaves.who)
          (subst (λ (b : Bool). HasMember old.who b kept) (sym leaves.joined) is.roster);
      known = λ below. ap (λ (l : List (ℕ × Holding)). is_some (value_of slot l)) leaves.holdings ∙ is.known below;
    }

-- a value of another slot has the log that was seen, and the outcomes, once one of this slot was seen
pub log_beside : (slot other : ℕ) (kept value : Kept) (log : List LogRecord) → Fits slot kept → Fits other value → other ≢ slot → HasLog log value
    → HasLog (log_seen kept log) value
log_beside slot other (Heap heap pen) value log fits its apart has = has
log_beside slot other (Segments segs) (Heap heap pen) log fits its apart has = tt
log_beside slot other (Segments segs) (Segments more) log fits its apart has = absurd (apart (its ∙ sym fits))
log_beside slot other (Segments segs) (Names names) log fits its apart has = tt
log_beside slot other (Names names) value log fits its apart has = has

pub asks_beside : (slot other : ℕ) (kept value : Kept) (heard : List AskLog) → Fits slot kept → Fits other value → other ≢ slot → HasAsks heard value
    → HasAsks (asks_heard kept heard) value
asks_beside slot other (Heap heap pen) value heard fits its apart has = has
asks_beside slot other (Segments segs) (Heap heap pen) heard fits its apart has = tt
asks_beside slot other (Segments segs) (Segments more) heard fits its apart has = absurd (apart (its ∙ sym fits))
asks_beside slot other (Segments segs) (Names names) heard fits its apart has = tt
asks_beside slot other (Names names) value heard fits its apart has = has

pub names_beside : (slot other : ℕ) (kept value : Kept) (mine : Mine) → Fits slot kept → Fits other value → other ≢ slot → HasNames (named_of mine) value
    → HasNames (record (named_of mine) { zones = zones_seen kept mine.zones; heaps = names_seen kept mine.names }) value
names_beside slot other (Heap heap pen) value mine fits its apart has = has
names_beside slot other (Segments segs) value mine fits its apart has = has
names_beside slot other (Names names) (Heap heap pen) mine fits its apart has = tt
names_beside slot other (Names names) (Segments segs) mine fits its apart has = tt
names_beside slot other (Names names) (Names more) mine fits its apart has = absurd (apart (its ∙ sym fits))

-- a value of another slot has the participant in its roster as that knows, once one of this slot was given
pub roster_beside : (slot other who : ℕ) (kept value : Kept) (joined : Bool) → Fits slot kept → Fits other value → other ≢ slot
    → HasMember who joined value → HasMember who (joined_after who kept joined) value
roster_beside slot other who (Heap heap pen) value joined fits its apart has = has
roster_beside slot other who (Segments segs) (Heap heap pen) joined fits its apart has = tt
roster_beside slot other who (Segments segs) (Segments more) joined fits its apart has = absurd (apart (its ∙ sym fits))
roster_beside slot other who (Segments segs) (Names names) joined fits its apart has = tt
roster_beside slot other who (Names names) value joined fits its apart has = has

none_acked : (mine : Mine) → IsAckedBy None mine
none_acked mine number some = absurd (cc)

-- a value was taken, or given back
pub acked_taken : (slot : ℕ) (kept : Kept) (acked : Option ℕ) (mine : Mine) → IsAckedBy acked mine → IsAckedBy (acked_after acked (Takes slot kept)) mine
acked_taken slot (Heap heap pen) acked mine was = was
acked_taken slot (Names names) acked mine was = was
acked_taken slot (Segments segs) acked mine was = none_acked mine

pub acked_given : (slot : ℕ) (kept : Kept) (acked : Option ℕ) (mine : Mine) → IsAckedBy acked mine
    → IsAckedBy (acked_after acked (Gives slot kept)) (after_give slot kept mine)
acked_given slot (Heap heap pen) acked mine was = λ number is. record { its = (was number is).its; joins = (was number is).joins }
acked_given slot (Names names) acked mine was = λ number is. record { its = (was number is).its; joins = (was number is).joins }
acked_given slot (Segments segs) acked mine was = none_acked (after_give slot (Segments segs) mine)

-- one step more
pub acked_step : (steps : List MailStep) (step : MailStep) (mine : Mine) → IsAckedBy (acked_after (acked_since_take steps) step) mine
    → IsAckedBy (acked_since_take (steps ++ step ∷ [])) mine
acked_step steps step mine by =
    subst (λ (acked : Option ℕ). IsAckedBy acked mine) (sym (fold-append acked_after None steps (step ∷ []))) by

-- what is shown stays after a step that reads and publishes nothing
module _ (cells : List TableId) (old new : ChairView) (was : IsReader cells old) (opening : new.seat.mine.opening ≡ old.seat.mine.opening)
    (still : new.stats ≡ old.stats) where
  pub reader_after : ((heap : ℕ) (pair : StatPair) → told_in heap new.steps ≡ Some pair → told_in heap old.steps ≡ Some pair)
      → HasReadBy new.steps old.stats → IsReader cells new
  reader_after told read = record {
    many = was.many;
    opened = ap (λ (o : Opening). o.cells.value) opening ∙ was.opened;
    its = ap (λ (pass : stats.PassView). pass.cells) still ∙ was.its;
    long = ap (λ (pass : stats.PassView). length pass.seen) still ∙ was.long;
    told = λ heap pair is.
        subst (λ (pass : stats.PassView). pair.entries ≤ greatest_count (seen_of heap pass)) (sym still) (was.told heap pair (told heap pair is));
    read = subst (HasReadBy new.steps) (sym still) read;
  }

  pub reader_step : (step : MailStep) → new.steps ≡ old.steps ++ step ∷ [] → TellsNone step → ShowsNothing step → IsReader cells new
  reader_step step made tells none =
      reader_after (λ heap pair is.
      tells heap (told_in heap old.steps) pair (sym (told_push heap old.steps step) ∙ (sym (ap (told_in heap) made) ∙ is)))
      (subst (λ (steps : List MailStep). HasReadBy steps old.stats) (sym made) (read_still old.steps step old.stats none was.read))

module _ (board : BoardView) (boxes : List MailboxView) (cells : List TableId) (old new : ChairView) (was : IsChair board boxes cells old)
    (sits : new.seat.board ≡ old.seat.board) (goes : GoesOn old.seat.mine new.seat.mine) (stay : new.boxes ≡ old.boxes) where
  pub chair_after : AreHeld new.seat.mine → IsTiedTo new.steps new.seat.mine → IsAckedBy (acked_since_take new.steps) new.seat.mine
      → ArePlaces old.seat.mine.who new.steps boxes new.passes → IsReader cells new → IsChair board boxes cells new
  chair_after held tied acked places reads =
      let count : new.seat.mine.opening.participants ≡ old.seat.mine.opening.participants = count_on old.seat.mine new.seat.mine goes in
      record {
        its = sits ∙ was.its;
        declared = omega (arith, was.declared, goes.who, count);
        few = omega (arith, was.few, count);
        count = was.count ∙ sym count;
        held = held;
        tied = tied;
        acked = acked;
        rooms = stay ∙ was.rooms;
        places = subst (λ (n : ℕ). ArePlaces n new.steps boxes new.passes) (sym goes.who) places;
        reads = reads;
      }

  -- after a step that touches neither slots nor mailboxes
  pub chair_quiet : (step : MailStep) → IsQuiet step → new.steps ≡ old.steps ++ step ∷ [] → new.passes ≡ old.passes
      → LeavesHand old.seat.mine new.seat.mine → IsAckedBy (acked_after (acked_since_take old.steps) step) new.seat.mine
      → IsReader cells new → IsChair board boxes cells new
  chair_quiet step quiet made passes leaves acked reads =
      chair_after (held_still old.seat.mine new.seat.mine leaves was.held)
      (subst (λ (steps : List MailStep). IsTiedTo steps new.seat.mine) (sym made)
      (tied_still old.steps step old.seat.mine new.seat.mine was.tied quiet.still quiet.hand quiet.naming leaves.moves leaves.held))
      (subst (λ (steps : List MailStep). IsAckedBy (acked_since_take steps) new.seat.mine) (sym made)
      (acked_step old.steps step new.seat.mine acked))
      (subst (λ (steps : List MailStep). ArePlaces old.seat.mine.who steps boxes new.passes) (sym made)
      (subst (λ (l : List PassView). ArePlaces old.seat.mine.who (old.steps ++ step ∷ []) boxes l) (sym passes)
      (places_still old.seat.mine.who old.steps step boxes old.passes was.places quiet.unposted quiet.unfetched)))
      reads
