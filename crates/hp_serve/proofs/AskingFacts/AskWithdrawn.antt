-- An ask that is taken back is refused after all other outcomes, and the value may be given back.
use Rattle.std.proofs.Common.{◌≡◌, ◌==◌, ◌∙◌, ℕ, ◌<◌, Bool, true, false, [], ◌∷◌, ◌++◌, length, drop, Option, Some, None, refl, ap, sym, subst, arith, eq-eqb, inl, inr, if◌then◌else◌}
use Rattle.std.specs.Prelude.{Contains, IsSomeAnd, slice_index_or}
use Rattle.std.specs.List.{find}
use Rattle.std.specs.Option.{option_and_then, option_map, option_or}
use Rattle.std.proofs.lemmas.Bool.{and_from, and_parts, eqb-true}
use Rattle.std.proofs.lemmas.List.{drop_at}
use Rattle.std.proofs.lemmas.List.Folds.{find-append}
use Rattle.hp_heap.proofs.AllocFacts.ChoiceLaw.{Contains-cases, Contains-none}
use Rattle.hp_hall.specs.Giving.{GivesSegments, Knows, logs}
use Rattle.hp_hall.specs.Holding.{AreStanding, HeapPart, part_after}
use Rattle.hp_hall.specs.Standings.{LogCallsLeave, WithdrawKeeps}
use Rattle.hp_segs.specs.Calls.{MayWithdraw}
use Rattle.hp_segs.specs.LaterSteps.{after_withdraw, armed_ask, grows_for, withdrawn_growth, withdrawn_unless}
use Rattle.hp_hall.proofs.Gives.{none_opens}
use Rattle.hp_segs.specs.Moved.{IsMovedBy, Withdraw, is_log_call}
use Rattle.hp_segs.specs.SegsView.{SegsView, grant_of, grant_or_refusal_of, granted_by, grants_or_refuses, is_grant_or_refusal}
use Rattle.hp_segs.specs.Sound.{IsSound}
use Rattle.hp_segs.specs.Steps.{after_failure}
use Rattle.hp_segs.specs.declared.ask.Ask.{Ask}
use Rattle.hp_segs.specs.declared.growth.Growth.{Growth}
use Rattle.hp_segs.specs.declared.outcome.AskLog.{AskLog}
use Rattle.hp_segs.specs.declared.outcome.Cause.{Cause}
use Rattle.hp_segs.specs.declared.outcome.Cause.TheVariants.{Withdrawn}
use Rattle.hp_segs.specs.declared.outcome.Outcome.{Outcome}
use Rattle.hp_segs.specs.declared.outcome.Outcome.TheVariants.{Refused}
use Rattle.hp_segs.proofs.Appending.{calls_append}
use Rattle.hp_segs.proofs.Moves.{calls_move, moves_widen}
use Rattle.hp_hall.proofs.Beside.{Beside, log_calls_beside}
use Rattle.hp_serve.specs.Asking.{Gives, IsAwaiting, Settles}
use Rattle.hp_serve.proofs.AskingFacts.AskKnown.{IsOnly, only_last, refused_known}
use Rattle.hp_serve.proofs.AskingFacts.AskOutcomes.{is_armed_in}
use Rattle.hp_serve.proofs.AskingFacts.AskSettled.{held_by, part_alike, some_holding}

-- an ask of that number was refused after all other outcomes, and the armed asks stay
pub record IsRefusedLast (segs given : SegsView) (from number : ℕ) : Type 0 where
  pub entry : AskLog
  pub cause : Cause
  pub asks : given.asks ≡ segs.asks ++ entry ∷ []
  pub who : entry.from ≡ from
  pub which : entry.number ≡ number
  pub kept : entry.ask ≡ armed_ask segs from
  pub refused : entry.outcome ≡ Refused cause
  pub armed : given.armed ≡ segs.armed
  pub roster : given.roster ≡ segs.roster

module _ (segs : SegsView) (from number : ℕ) (cause : Cause) where
  refused_by : (growth : Growth) (own : Bool) → grows_for from number growth ≡ own
      → IsRefusedLast segs (if own then after_failure growth cause (armed_ask segs from) 0 segs
      else record segs {
        asks = segs.asks ++ record
            { from = from; number = number; outcome = Refused cause; at = length segs.log; ask = armed_ask segs from } ∷ [];
      })
      from number
  refused_by growth true is =
      let both = and_parts (growth.ask.from == from) (growth.ask.number == number) is in
      record {
        entry = record {
          from = growth.ask.from;
          number = growth.ask.number;
          outcome = Refused cause;
          at = length segs.log;
          ask = armed_ask segs from;
        };
        cause = cause;
        asks = refl;
        who = eqb-true growth.ask.from from both.0;
        which = eqb-true growth.ask.number number both.1;
        kept = refl;
        refused = refl;
        armed = refl;
        roster = refl;
      }
  refused_by growth false is = record {
    entry = record { from = from; number = number; outcome = Refused cause; at = length segs.log; ask = armed_ask segs from };
    cause = cause;
    asks = refl;
    who = refl;
    which = refl;
    kept = refl;
    refused = refl;
    armed = refl;
    roster = refl;
  }

  refused_where : (growth : Option Growth) → IsRefusedLast segs (withdrawn_growth from number cause segs growth) from number
  refused_where None = record {
    entry = record { from = from; number = number; outcome = Refused cause; at = length segs.log; ask = armed_ask segs from };
    cause = cause;
    asks = refl;
    who = refl;
    which = refl;
    kept = refl;
    refused = refl;
    armed = refl;
    roster = refl;
  }
  refused_where (Some growth) = refused_by growth (grows_for from number growth) refl

-- where nothing stands for the ask, it is refused so
pub is_refused_last : (segs : SegsView) (from number since now : ℕ) → grant_or_refusal_of segs.asks from number ≡ None
    → IsRefusedLast segs (after_withdraw from number since now segs) from number
is_refused_last segs from number since now none =
    subst (λ standing. IsRefusedLast segs (withdrawn_unless from number (Withdrawn since now) segs standing) from number) (sym none)
    (refused_where segs from number (Withdrawn since now) segs.growth)

-- where something stands, all is as it was
pub stands_as_it_was : (segs : SegsView) (from number since now : ℕ) (outcome : Outcome)
    → grant_or_refusal_of segs.asks from number ≡ Some outcome
    → after_withdraw from number since now segs ≡ segs
stands_as_it_was segs from number since now outcome is = ap (withdrawn_unless from number (Withdrawn since now) segs) is

found_none : (found : Option AskLog) → option_map (λ (entry : AskLog). entry.outcome) found ≡ None → found ≡ None
found_none None is = refl
found_none (Some entry) is = cc

module _ (segs given : SegsView) (from number : ℕ) (none : grant_or_refusal_of segs.asks from number ≡ None)
    (last : IsRefusedLast segs given from number)
  where
    -- that refusal is the first outcome of the ask
    pub last_is_found : find (grants_or_refuses from number) given.asks ≡ Some last.entry
    last_is_found =
        let before : find (grants_or_refuses from number) segs.asks ≡ None = found_none (find (grants_or_refuses from number) segs.asks)
        none in
        let own : grants_or_refuses from number last.entry ≡ true =
        and_from (last.entry.from == from) _ (eq-eqb last.entry.from from last.who)
        (and_from (last.entry.number == number) _ (eq-eqb last.entry.number number last.which)
        (ap is_grant_or_refusal last.refused)) in
        ap (find (grants_or_refuses from number)) last.asks
        ∙ (find-append (grants_or_refuses from number) segs.asks (last.entry ∷ [])
        ∙ (ap (λ (first : Option AskLog). option_or first (find (grants_or_refuses from number) (last.entry ∷ []))) before
        ∙ ap (λ b. if b then Some last.entry else None) own))

    -- so nothing is granted for it
    pub last_grants_none : grant_of given.asks from number ≡ None
    last_grants_none =
        ap (λ (found : Option AskLog). option_and_then granted_by (option_map (λ entry. entry.outcome) found)) last_is_found
        ∙ ap granted_by last.refused

withdraw_moves : (segs : SegsView) (from number since now : ℕ) → MayWithdraw from number segs
    → IsMovedBy is_log_call 1 segs (after_withdraw from number since now segs)
withdraw_moves segs from number since now may =
    moves_widen is_log_call is_log_call 0 1 segs (after_withdraw from number since now segs) (λ call allowed. allowed) (omega arith)
    (calls_move is_log_call (Withdraw from number since now) segs refl may)

-- what is logged so grants nothing
not_granted : (segs given : SegsView) (from number : ℕ) (last : IsRefusedLast segs given from number) (entry : AskLog) (generation : ℕ)
    → Contains (drop (length segs.asks) given.asks) entry → granted_by entry.outcome ≡ Some generation → ⊥
not_granted segs given from number last entry generation among granted =
    let rest : drop (length segs.asks) given.asks ≡ last.entry ∷ [] =
    ap (drop (length segs.asks)) last.asks ∙ drop_at segs.asks (last.entry ∷ []) (length segs.asks) refl in
    let there = subst (λ asks. Contains asks entry) rest among in
    elim (Contains-cases last.entry entry [] there) [
      | inl same ↦
          let wrong : None ≡ Some generation = sym (ap granted_by last.refused)
          ∙ (ap (λ (entry : AskLog). granted_by entry.outcome) same ∙ granted) in
          cc
      | inr nowhere ↦ Contains-none entry nowhere
    ]

-- and is beside the ask with which its participant was armed
of_own : (segs given : SegsView) (from number : ℕ) (last : IsRefusedLast segs given from number) (entry : AskLog) (ask : Ask)
    → Contains (drop (length segs.asks) given.asks) entry → entry.ask ≡ Some ask → armed_ask segs entry.from ≡ Some ask
of_own segs given from number last entry ask among kept =
    let rest : drop (length segs.asks) given.asks ≡ last.entry ∷ [] =
    ap (drop (length segs.asks)) last.asks ∙ drop_at segs.asks (last.entry ∷ []) (length segs.asks) refl in
    let there = subst (λ asks. Contains asks entry) rest among in
    elim (Contains-cases last.entry entry [] there) [
      | inl same ↦
          subst (λ (entry : AskLog). entry.ask ≡ Some ask → armed_ask segs entry.from ≡ Some ask) same
          (λ is. ap (armed_ask segs) last.who ∙ (sym last.kept ∙ is)) kept
      | inr nowhere ↦ absurd (Contains-none entry nowhere)
    ]

-- the value with the ask taken back may be given back
pub withdraw_gives : (knows : Knows) (segs : SegsView) (from number since now : ℕ) → WithdrawKeeps → IsSound segs
    → MayWithdraw from number segs
    → grant_or_refusal_of segs.asks from number ≡ None → GivesSegments knows segs (after_withdraw from number since now segs)
withdraw_gives knows segs from number since now keeps sound may none =
    let given : SegsView = after_withdraw from number since now segs in
    let last = is_refused_last segs from number since now none in
    let appends = calls_append (Withdraw from number since now) segs in
    let withdraws : IsMovedBy is_log_call 0 segs given = calls_move is_log_call (Withdraw from number since now) segs refl may in
    record {
      more = appends.records;
      log = appends.log;
      form = logs (record {
        give = record {
          moved = record { calls = withdraws.calls; leads = withdraws.leads; only = withdraws.only; few = omega (arith, withdraws.few) };
          agreed = λ entry generation member among granted joined. absurd
              (not_granted segs given from number last entry generation among granted);
        };
        arms = record {
          others = λ other apart. ap (λ armed. slice_index_or armed other None) last.armed;
          for_held = λ ask is. inl (sym (ap (λ armed. slice_index_or armed knows.who None) last.armed) ∙ is);
          settled = λ ask is. inl (ap (λ armed. slice_index_or armed knows.who None) last.armed ∙ is);
          of_armed = λ armed. keeps segs from number since now sound armed may;
          answers = λ armed entry ask among kept. of_own segs given from number last entry ask among kept;
        };
        opens = λ armed. none_opens segs withdraws.calls withdraws.few;
      });
    }

module _ (ask : Ask) (parts : ℕ → HeapPart) (segs : SegsView) (sound : IsSound segs) (standing : AreStanding ask.from parts segs)
    (awaits : IsAwaiting ask parts) (few : ask.from < 16) where
  -- the participant may take its ask back
  pub may_withdraw : MayWithdraw ask.from ask.number segs
  may_withdraw = record {
    participant = few;
    armed = subst (λ armed. IsSomeAnd armed (λ (own : Ask). own.number ≡ ask.number))
        (sym (is_armed_in ask parts segs sound standing awaits)) refl;
  }

  module _ (since present : ℕ) (leaves : LogCallsLeave) (none : grant_or_refusal_of segs.asks ask.from ask.number ≡ None)
      (now : ℕ → HeapPart)
      (is : (heap : ℕ) → now heap ≡ part_after ask.from (after_withdraw ask.from ask.number since present segs) heap (parts heap)) where
    abbrev given : SegsView
    given = after_withdraw ask.from ask.number since present segs

    last : IsRefusedLast segs given ask.from ask.number
    last = is_refused_last segs ask.from ask.number since present none

    same : (heap : ℕ) → now heap ≡ parts heap
    same heap =
        is heap ∙ part_alike ask.from heap given (parts heap)
        (held_by heap segs given (parts heap).holding
        (leaves 1 segs given sound (withdraw_moves segs ask.from ask.number since present may_withdraw) heap) (standing.held heap))
        (ap (λ armed. slice_index_or armed ask.from None) last.armed ∙ sym (standing.armed heap)) (λ known its.
        ap (λ (b : Beside). b.ranges) (log_calls_beside 1 segs given (withdraw_moves segs ask.from ask.number since present may_withdraw))
        ∙ standing.claims heap known its)

    -- an ask that is taken back is settled
    pub withdrawal_settles : Settles given.log given.asks ask parts now None
    withdrawal_settles =
        let held = some_holding (parts ask.heap).holding awaits.holds in
        record {
          answer = record {
            entry = last.entry;
            logged = last_is_found segs given ask.from ask.number none last;
            kept = last.kept ∙ is_armed_in ask parts segs sound standing awaits;
            given = subst (λ outcome. Gives given.log outcome None) (sym last.refused) tt;
          };
          known = refused_known given.asks (now ask.heap).holding ask last.entry last.cause
              (last_is_found segs given ask.from ask.number none last)
              (subst (λ asks. IsOnly asks ask last.entry) (sym last.asks)
              (only_last segs.asks ask last.entry (found_none (find (grants_or_refuses ask.from ask.number) segs.asks) none)))
              last.refused;
          grows = record {
            entries = ap (λ (part : HeapPart). part.entries) (same ask.heap);
            marked = ap (λ (part : HeapPart). part.marked) (same ask.heap);
            serves = ap (λ (part : HeapPart). part.serves) (same ask.heap);
            told = ap (λ (part : HeapPart). part.told) (same ask.heap);
            naming = ap (λ (part : HeapPart). part.naming) (same ask.heap);
            claims = ap (λ (part : HeapPart). part.claims) (same ask.heap);
            before = held.0;
            behind = held.0;
            held = held.1;
            holds = ap (λ (part : HeapPart). part.holding) (same ask.heap) ∙ held.1;
            grows = refl;
          };
          others = λ heap apart. same heap;
          armed = λ heap. ap (λ (part : HeapPart). part.armed) (same heap);
        }
