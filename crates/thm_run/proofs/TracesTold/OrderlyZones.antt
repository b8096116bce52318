-- The lines of memzones go orderly to their ends: what a reservation allocates is as in any other line, and the names change after it.
use Rattle.std.proofs.Common.{◌≡◌, ◌∙◌, ℕ, Bool, true, false, List, [], ◌∷◌, ◌++◌, append-nil, map, Option, Some, None, refl, ap, sym, subst}
use Rattle.std.proofs.lemmas.List.{map-append}
use Rattle.hp_base.specs.Requests.{rounded_size}
use Rattle.hp_heap.specs.declared.entry.HeapAnswer.{HeapAnswer}
use Rattle.hp_heap.specs.declared.entry.HeapCall.TheVariants as call
use Rattle.hp_script.specs.declared.answer.Answer.{Answer}
use Rattle.hp_script.specs.declared.answer.Answer.TheVariants as answer
use Rattle.hp_zone.specs.Directory.{PlainDirectory}
use Rattle.hp_zone.specs.declared.zone.Zone.{Zone}
use Rattle.hp_zone.specs.declared.zone.ZoneChange.TheVariants.{Gone, Put}
use Rattle.hp_proc.specs.Doing.{Deed, Doing, Done, Given, Goes, Leads, gave}
use Rattle.hp_proc.specs.Doing.Done.{Asked, Called, NamesChanged}
use Rattle.hp_proc.specs.ExternalLines.{calling}
use Rattle.hp_proc.specs.Freeing.{cutting}
use Rattle.hp_proc.specs.SharedNames.{NamesChange, socket_at}
use Rattle.hp_proc.specs.SharedNames.NamesChange.{OfZones}
use Rattle.hp_proc.specs.ZoneLines.{continued, found_zone, freeing_zone, last_called, put_zone}
use Rattle.hp_proc.specs.declared.searched_heap.SearchedHeap.{SearchedHeap}
use Rattle.thm_run.proofs.TracesTold.OrderlyExternal.{calling_orderly, changing_orderly}
use Rattle.thm_run.proofs.TracesTold.OrderlyTraces.{GoesOrderly, IsOrderly, asked_behind, ended_orderly, ends, goes_on, is_granted, tells}

-- a trace through a tree that goes on where another one ends is one through that, and then one through what is more to do
pub record GoesFurther (more : Option ℕ → Answer → Doing) (doing : Doing) (trace : List Done) (given : Answer) : Type 0 where
  pub front : List Done
  pub back : List Done
  pub last : Option ℕ
  pub mid : Answer
  pub is : trace ≡ front ++ back
  pub first : Leads doing front (Doing.Ended mid)
  pub rest : Leads (more last mid) back (Doing.Ended given)

pub continued_leads : (more : Option ℕ → Answer → Doing) (last : Option ℕ) (doing : Doing) (trace : List Done) (given : Answer)
    → Leads (continued more last doing) trace (Doing.Ended given) → GoesFurther more doing trace given
unfolding Leads Goes continued
continued_leads more last (Doing.Ended mid) trace given leads =
    record { front = []; back = trace; last = last; mid = mid; is = refl; first = refl; rest = leads }
continued_leads more last (Doing.Then deed next) [] given leads = cc
continued_leads more last (Doing.Then deed next) (done ∷ trace) given (found, is, left) =
    let rest = continued_leads more (last_called last deed) (next found) trace given left in
    record {
      front = done ∷ rest.front;
      back = rest.back;
      last = rest.last;
      mid = rest.mid;
      is = ap (λ (trace : List Done). done ∷ trace) rest.is;
      first = (found, is, rest.first);
      rest = rest.rest;
    }

-- an orderly trace is so with a change of the names after it, where it neither ended as a free does nor without memory
put_orderly : (looks : Bool) (mid given : Answer) (asked : Bool) (front : List Done) (change : NamesChange) → (mid ≡ answer.Done → ⊥)
    → (given ≡ answer.None → ⊥) → IsOrderly looks mid asked front → IsOrderly looks given asked (front ++ NamesChanged change ∷ [])
put_orderly looks mid given _ _ change freed never (ends asked) = goes_on asked (NamesChanged change) [] tt (ends asked)
put_orderly looks mid given _ _ change freed never (goes_on asked done trace leaves rest) =
    goes_on asked done (trace ++ NamesChanged change ∷ []) leaves
    (put_orderly looks mid given (asked_behind asked done) trace change freed never rest)
put_orderly looks mid given _ _ change freed never (tells heap address run ended) = absurd (freed ended)
put_orderly looks mid given _ _ change freed never (is_granted asked pages run tag grown found changes allows last only) =
    subst
    (λ (more : List Done). IsOrderly looks given asked
    (Asked pages (Some run) ∷ Called pages.heap (call.Grow run) grown ∷ Called pages.heap (call.Alloc pages.request tag) found ∷ more))
    (map-append NamesChanged changes (change ∷ []))
    (is_granted asked pages run tag grown found (changes ++ change ∷ []) allows (λ none. absurd (never none)) (λ none. absurd (never none)))

module _ (looks : Bool) where
  -- what a reservation does once its allocation has ended
  zone_put : (plain : PlainDirectory) (text : List ℕ) (len : ℕ) (last : Option ℕ) (mid given : Answer) (front back : List Done)
      → IsOrderly looks mid false front → Leads (put_zone plain text len last mid) back (Doing.Ended given)
      → IsOrderly looks given false (front ++ back)
  unfolding Leads Goes
  zone_put plain text len (Some heap) (answer.Address address) given front [] orderly leads = cc
  zone_put plain text len (Some heap) (answer.Address address) given front (done ∷ []) orderly (none, is, left) =
      subst (λ (done : Done). IsOrderly looks given false (front ++ done ∷ [])) (sym is)
      (put_orderly looks (answer.Address address) given false front _ (λ wrong. cc) (λ wrong. no_memory left wrong) orderly)
    where
      no_memory : Doing.Ended given ≡ Doing.Ended (answer.Address address) → given ≡ answer.None → ⊥
      no_memory same wrong = cc
  zone_put plain text len (Some heap) (answer.Address address) given front (done ∷ (next ∷ back)) orderly (none, is, left) = elim left [ ]
  zone_put plain text len last mid given front back orderly leads = by_end back leads
    where
      by_end : (back : List Done) → Leads (Doing.Ended mid) back (Doing.Ended given) → IsOrderly looks given false (front ++ back)
      by_end [] ended =
          let same : mid ≡ given = cc in
          subst (λ (given : Answer). IsOrderly looks given false (front ++ [])) same
          (subst (IsOrderly looks mid false) (sym (append-nil front)) orderly)
      by_end (done ∷ back) ended = elim ended [ ]

  -- a reservation, whose allocation is orderly
  pub zone_orderly : (plain : PlainDirectory) (text : List ℕ) (len : ℕ) (allocating : Doing) → GoesOrderly looks false allocating
      → GoesOrderly looks false (continued (put_zone plain text len) None allocating)
  zone_orderly plain text len allocating goes trace given leads =
      let parts = continued_leads (put_zone plain text len) None allocating trace given leads in
      subst (IsOrderly looks given false) (sym parts.is)
      (zone_put plain text len parts.last parts.mid given parts.front parts.back (goes parts.front parts.mid parts.first) parts.rest)

  -- a memzone that is looked up
  pub lookup_orderly : (zone : Option Zone) → GoesOrderly looks false (found_zone zone)
  lookup_orderly None = ended_orderly looks answer.NotFound false
  lookup_orderly (Some zone) = ended_orderly looks (answer.Found zone.addr zone.len) false

  -- one that goes, with its element
  pub unzone_orderly : (place_of : ℕ → SearchedHeap)
      → ((place : SearchedHeap) (address : ℕ) → GoesOrderly looks false (cutting place address)) → (zone : Option Zone)
      → GoesOrderly looks false (freeing_zone place_of zone)
  unzone_orderly place_of cuts None = ended_orderly looks answer.NotFound false
  unzone_orderly place_of cuts (Some zone) =
      changing_orderly looks (OfZones (Gone zone.name)) (calling zone.heap (call.Free zone.addr true) (cutting (place_of zone.heap) zone.addr))
      (calling_orderly looks zone.heap (call.Free zone.addr true) (cutting (place_of zone.heap) zone.addr) refl (λ found. tt)
      (cuts (place_of zone.heap) zone.addr))
