-- What is done of a line without one heap: no step touches that, and no call is of it.
use Rattle.std.proofs.Common.{◌≡◌, ◌≢◌, ◌∙◌, ℕ, ◌+◌, cond, eq-eqb, ne_eqb, List, [], ◌∷◌, ◌++◌, length, Option, Some, None, refl, ap, sym, arith}
use Rattle.std.specs.Prelude.{◌==◌, count_by}
use Rattle.std.proofs.lemmas.Bool.{cond-false, cond-true}
use Rattle.std.proofs.lemmas.Option.{same_Some}
use Rattle.hp_hall.specs.Mail.{Gives, MailStep}
use Rattle.hp_hall.specs.declared.kept.Kept.TheVariants.{Names}
use Rattle.hp_hall.specs.declared.slot.TheConstants.{NAMES_SLOT}
use Rattle.hp_heap.proofs.HistoryFacts.Counting.{count_by-append, count_by-cons}
use Rattle.hp_heap.specs.declared.entry.Entry.{Entry}
use Rattle.hp_proc.proofs.Joining.{calls_on}
use Rattle.hp_proc.proofs.LawLemmas.{entries_go_on}
use Rattle.hp_proc.specs.Acting.{Acts}
use Rattle.hp_proc.specs.Courses.{OwnCall, calls_in}
use Rattle.hp_proc.specs.Denying.{denials_of}
use Rattle.hp_proc.specs.Doing.{Done}
use Rattle.hp_proc.specs.Histories.{entries_for, entry_for}
use Rattle.hp_proc.specs.ParticipantView.{ParticipantView}
use Rattle.hp_serve.specs.Attaching.{after_attaching}
use Rattle.hp_serve.specs.Serving.{acks_after, gives_segments, takes_segments}
use Rattle.thm_run.proofs.ServesNoHeap.{none_both}
use Rattle.thm_run.proofs.WaitsNoHeap.{acks_none, ask_none, notice_none, turn_none}
use Rattle.thm_home.proofs.BesideHeap.{AreBeside, beside_both, none_beside}

-- it is not in hand at the end, no step touches it, and no call is of it
pub record ActsApart (index : ℕ) (fin : Option ℕ) (trace : List Done) (steps : List MailStep) : Type 0 where
  pub last : fin ≢ Some index
  pub beside : AreBeside index steps
  pub calls : (who number : ℕ) → entries_for who index number (calls_in trace) ≡ []

no_call : (who index number : ℕ) (call : OwnCall) → call.heap ≢ index → entries_for who index number (call ∷ []) ≡ []
no_call who index number call apart = cond-false (call.heap == index) (entry_for who number call ∷ []) [] (ne_eqb call.heap index apart)

pub none_of : (index : ℕ) → None ≢ Some index
none_of index same = cc

both_none : (one other : ℕ) → one + other ≡ 0 → (one ≡ 0) × (other ≡ 0)
both_none one other is = (omega (arith, is), omega (arith, is))

pub acts_apart : {count : ℕ} {hand fin : Option ℕ} {held : List ℕ} {doer after : ParticipantView} {trace : List Done} {steps : List MailStep}
    → Acts count hand fin held doer after trace steps → (index : ℕ) → hand ≢ Some index → count_by (λ other. other == index) held ≡ 0
    → ActsApart index fin trace steps
acts_apart (Acts.nothing hand doer) index apart none = record { last = apart; beside = tt; calls = λ who number. refl }
acts_apart {count} (Acts.waits_turn until doer after moved steps turned) index apart none = record {
  last = apart;
  beside = none_beside index steps (turn_none (denials_of doer.context.standing) count until doer.party after steps moved turned);
  calls = λ who number. refl;
}
acts_apart (Acts.takes_heap doer heap pen few) index apart none =
    let differ : heap.plain.index ≢ index =
    λ same.
    let one : cond {A = ℕ} (heap.plain.index == index) 1 0 ≡ 1 = cond-true (heap.plain.index == index) 1 0 (eq-eqb heap.plain.index index same) in
    let all : count_by (λ (other : ℕ). other == index) (heap.plain.index ∷ [])
    ≡ cond {A = ℕ} (heap.plain.index == index) 1 0 + count_by (λ (other : ℕ). other == index) [] =
    count_by-cons (λ (other : ℕ). other == index) heap.plain.index [] in
    omega (arith, one, all, none) in
    record { last = λ same. differ (same_Some heap.plain.index index same); beside = (differ, tt); calls = λ who number. refl }
acts_apart (Acts.sees_heap doer heap pen few) index apart none =
    let differ : heap.plain.index ≢ index =
    λ same.
    let one : cond {A = ℕ} (heap.plain.index == index) 1 0 ≡ 1 = cond-true (heap.plain.index == index) 1 0 (eq-eqb heap.plain.index index same) in
    let all : count_by (λ (other : ℕ). other == index) (heap.plain.index ∷ [])
    ≡ cond {A = ℕ} (heap.plain.index == index) 1 0 + count_by (λ (other : ℕ). other == index) [] =
    count_by-cons (λ (other : ℕ). other == index) heap.plain.index [] in
    omega (arith, one, all, none) in
    record { last = λ same. differ (same_Some heap.plain.index index same); beside = (differ, tt); calls = λ who number. refl }
acts_apart (Acts.gives_heap doer heap pen) index apart none =
    record { last = none_of index; beside = (tt, (λ same. apart (ap Some same), tt)); calls = λ who number. refl }
acts_apart (Acts.makes_call doer its call answer uncut) index apart none = record {
  last = apart;
  beside = tt;
  calls = λ who number. no_call who index number (record { heap = its; call = call; answer = answer }) (λ same. apart (ap Some same));
}
acts_apart (Acts.cuts_run doer its addr run segs) index apart none = record {
  last = apart;
  beside = (tt, (tt, tt));
  calls = λ who number. no_call who index number _ (λ same. apart (ap Some same));
}
acts_apart {count} (Acts.asks_pages doer after asked run steps does) index apart none = record {
  last = apart;
  beside = none_beside index steps (ask_none (denials_of doer.context.standing) count doer.party after asked steps run does);
  calls = λ who number. refl;
}
acts_apart {count} (Acts.notifies_run doer after its run steps does) index apart none = record {
  last = apart;
  beside = none_beside index steps (notice_none (denials_of doer.context.standing) count doer.party after its run steps does);
  calls = λ who number. refl;
}
acts_apart (Acts.attaches doer after segs caught tried) index apart none =
    let acks : List MailStep = acks_after caught (length segs.log) in
    let gives : List MailStep = gives_segments (after_attaching doer.party.me caught segs) ∷ [] in
    record {
      last = apart;
      beside = none_beside index (takes_segments segs ∷ (acks ++ gives)) (tt, none_both acks gives (acks_none caught (length segs.log)) (tt, tt));
      calls = λ who number. refl;
    }
acts_apart (Acts.detaches doer segs told above left bare heard) index apart none =
    record { last = apart; beside = (tt, (tt, (tt, tt))); calls = λ who number. refl }
acts_apart (Acts.notes_left doer elements) index apart none = record { last = apart; beside = tt; calls = λ who number. refl }
acts_apart (Acts.reads_names doer names) index apart none = record { last = apart; beside = (tt, (tt, tt)); calls = λ who number. refl }
acts_apart (Acts.holds_names held doer after names given trace steps does changes) index apart none =
    let inner = acts_apart does index apart none in
    record {
      last = inner.last;
      beside = (tt, beside_both index steps (Gives NAMES_SLOT (Names given) ∷ []) inner.beside (tt, tt));
      calls = inner.calls;
    }
acts_apart (Acts.changes_names hand doer change) index apart none = record { last = apart; beside = tt; calls = λ who number. refl }
acts_apart (Acts.looks_at_segs doer its segs) index apart none =
    record { last = apart; beside = (tt, (tt, tt)); calls = λ who number. refl }
acts_apart (Acts.plans_range doer its addr len page segs) index apart none =
    record { last = apart; beside = (tt, (tt, tt)); calls = λ who number. refl }
acts_apart (Acts.claims doer its chunk segs planned) index apart none = record {
  last = apart;
  beside = (tt, (tt, tt));
  calls = λ who number. no_call who index number _ (λ same. apart (ap Some same));
}
acts_apart (Acts.releases doer its chunk segs) index apart none = record {
  last = apart;
  beside = (tt, (tt, tt));
  calls = λ who number. no_call who index number _ (λ same. apart (ap Some same));
}
acts_apart (Acts.maps_chunk doer its chunk maps ended is) index apart none =
    record { last = apart; beside = tt; calls = λ who number. refl }
acts_apart (Acts.shares doer its chunk is) index apart none = record {
  last = apart;
  beside = tt;
  calls = λ who number. no_call who index number _ (λ same. apart (ap Some same));
}
acts_apart (Acts.leaves doer its chunk maps is) index apart none = record {
  last = apart;
  beside = tt;
  calls = λ who number. no_call who index number _ (λ same. apart (ap Some same));
}
acts_apart (Acts.looks_up_lines doer other lines) index apart none = record { last = apart; beside = (tt, tt); calls = λ who number. refl }
acts_apart (Acts.reads_stats doer its pair) index apart none = record { last = apart; beside = (tt, tt); calls = λ who number. refl }
acts_apart (Acts.and_then hand between fin held more doer mid after first rest before behind one two) index apart none =
    let nones = both_none _ _ (sym (count_by-append (λ (other : ℕ). other == index) held more) ∙ none) in
    let here = acts_apart one index apart nones.0 in
    let there = acts_apart two index here.last nones.1 in
    record {
      last = there.last;
      beside = beside_both index before behind here.beside there.beside;
      calls = λ who number.
          ap (entries_for who index number) (calls_on first rest)
          ∙ (entries_go_on who index number (calls_in first) (calls_in rest)
          ∙ (ap (λ (l : List Entry). l ++ entries_for who index (number + length (calls_in first)) (calls_in rest)) (here.calls who number)
          ∙ there.calls who (number + length (calls_in first))));
    }
