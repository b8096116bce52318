-- What a call adds to the runs of a history, and what each entry of a legal one answers.
use Rattle.std.proofs.Common.{◌≡◌, List, [], ◌∷◌, ◌++◌, sym, ap, ◌∙◌, flat_map, append_assoc, append-nil}
use Rattle.hp_base.specs.declared.row.Run.{Run}
use Rattle.hp_heap.specs.declared.entry.Entry.{Entry}
use Rattle.hp_heap.specs.PlainHeap.{PlainHeap}
use Rattle.hp_heap.specs.History.{after_entry, replay, IsLegal, IsLegalEntry}
use Rattle.hp_heap.specs.HistoryLaws.{run_grown, run_cut, runs_grown, runs_cut, CallsAddRuns, EntriesAreAnswered}

flat_map-push : (f : Entry → List Run) (xs : List Entry) (x : Entry) → flat_map f (xs ++ x ∷ []) ≡ flat_map f xs ++ f x
flat_map-push f [] x = append-nil (f x)
flat_map-push f (y ∷ ys) x = ap (λ (zs : List Run). f y ++ zs) (flat_map-push f ys x) ∙ sym (append_assoc (f y) (flat_map f ys) (f x))

pub calls_add_runs : CallsAddRuns
unfolding runs_grown runs_cut
calls_add_runs = λ caller step given old new is. (let entry : Entry = record { caller = caller; call = step; answer = given } in record {
  grown = ap (λ (zs : List Entry). flat_map (λ (e : Entry). run_grown e.call) zs) is.history ∙ flat_map-push (λ (e : Entry). run_grown e.call) old.history entry;
  cut = ap (λ (zs : List Entry). flat_map (λ (e : Entry). run_cut e.answer) zs) is.history ∙ flat_map-push (λ (e : Entry). run_cut e.answer) old.history entry;
})

legal_at : (heap : PlainHeap) (history : List Entry) (entry : Entry) (more : List Entry) → IsLegal heap (history ++ entry ∷ more) → IsLegalEntry (replay heap history) entry
legal_at heap [] entry more legal = legal.0
legal_at heap (first ∷ entries) entry more legal = legal_at (after_entry heap first) entries entry more legal.1

pub entries_are_answered : EntriesAreAnswered
entries_are_answered = λ index serves history entry more legal. legal_at (Rattle.hp_heap.specs.PlainHeap.opening_heap index serves) history entry more legal
