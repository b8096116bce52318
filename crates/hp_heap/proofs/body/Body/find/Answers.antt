use Rattle.std.proofs.Common.{◌≡◌, ◌-◌, ◌++◌, ◌∷◌, [], refl, sym, ap, subst, ◌∙◌, arith, IfSome}
use Rattle.std.specs.List.{find}
use Rattle.std.specs.Option.{option_map}
use Rattle.hp_heap.specs.declared.body.Body.TheInside.{Inside}
use Rattle.hp_heap.specs.declared.entry.Entry.{Entry}
use Rattle.hp_heap.specs.declared.entry.HeapCall.TheVariants.{Find}
use Rattle.hp_heap.specs.PlainHeap.{data_address}
use Rattle.hp_heap.specs.Joining.{has_tag}
use Rattle.hp_heap.specs.Tagged.{HasTaggedAt}
use Rattle.hp_heap.specs.Step.{after, answer_of, address_answer, found}
use Rattle.hp_heap.specs.History.{after_entry}
use Rattle.hp_heap.specs.Inside.{plain_of}
use Rattle.hp_heap.proofs.QuestionLemmas.{IsAsked, asked}
use Rattle.hp_heap.proofs.HistoryFacts.HeapLaw.{next_heap, next_call, next_plain, of_heap}
use Rattle.hp_heap.proofs.TaggedLemmas.{found_if}
use Rattle.hp_heap.proofs.body.Body.find.Goals as goal
use Rattle.hp_heap.proofs.body.Body.find.Goals.{After-self-1}

pub tagged-address-requires : goal.tagged-address-requires
tagged-address-requires c = of_heap c.self.inside c.self.invariant

-- the fields afterwards, and the entry
after_call : After-self-1 → Inside
after_call c = record c.self.inside { history = c.record.new.history; spare = c.self.inside.spare - 1 }

entry_of : After-self-1 → Entry
entry_of c = record { caller = c.args.caller; call = Find c.args.tag; answer = address_answer c.tagged-address.result }

found_is : (c : After-self-1) → c.tagged-address.result ≡ found c.args.tag (plain_of c.self.inside)
unfolding found
found_is c = c.tagged-address.ensures ∙ ap (λ zs. option_map data_address (find (has_tag c.args.tag.zone c.args.tag.number) zs)) c.self.invariant.ranges

is_asked : (c : After-self-1) → IsAsked c.self.inside (after_call c) (entry_of c)
unfolding after_call entry_of after_entry after answer_of
is_asked c = record {
  step = refl;
  legal = record { allowed = tt; answered = ap address_answer (found_is c) };
  others = refl;
  history = c.record.ensures.entry ∙ ap (λ answer. c.self.inside.history.items ++ record { caller = c.args.caller; call = Find c.args.tag; answer = answer } ∷ []) c.address_answer.ensures;
  spare = omega (arith, c.requires.spare, ap (λ v. v.spare) c.self.view_is);
  len = c.record.ensures.len;
  room = c.record.ensures.room;
}

pub invariant_of-self : goal.invariant_of-self
unfolding after_call
invariant_of-self c = next_heap c.self.inside (after_call c) (entry_of c) (plain_of c.self.inside) c.self.invariant (asked c.self.inside (after_call c) (entry_of c) c.self.invariant (is_asked c))

pub returns-clause-step : goal.returns-clause-step
unfolding after_call entry_of
returns-clause-step c =
    next_call c.self.inside (after_call c) (entry_of c) (plain_of c.self.inside) c.self.invariant (asked c.self.inside (after_call c) (entry_of c) c.self.invariant (is_asked c)) c.args.self.now c.self.view_is
    (omega (arith, c.requires.spare, ap (λ v. v.spare) c.self.view_is))

pub returns-clause-there : goal.returns-clause-there
unfolding after_call
returns-clause-there c =
    let d = (goal.at.returns-clause-there c).After-self-1 in
    subst (λ heap. IfSome c.tagged-address.result (λ addr. HasTaggedAt c.args.tag addr heap))
    (sym (next_plain c.self.inside (after_call d) (entry_of d) (plain_of c.self.inside) c.self.invariant (asked c.self.inside (after_call d) (entry_of d) c.self.invariant (is_asked d))))
    (found_if (plain_of c.self.inside) c.args.tag c.tagged-address.result c.self.invariant.tiled (found_is d))
