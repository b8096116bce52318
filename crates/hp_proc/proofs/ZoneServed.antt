-- A reservation against which nothing stands: it is served as an allocation is, and what it brings is put among the memzones.
use Rattle.std.proofs.Common.{◌≡◌, ◌≢◌, ◌∙◌, ℕ, List, [], ◌∷◌, ◌++◌, filter_map, fold, append-nil, Option, Some, None, refl, ap, sym, subst}
use Rattle.std.specs.List.{AllByRecursion}
use Rattle.std.proofs.lemmas.List.Elements.{filter_map-append}
use Rattle.hp_base.specs.Requests.{rounded_size}
use Rattle.hp_hall.specs.HallState.{HallState}
use Rattle.hp_hall.specs.Mail.{MailStep}
use Rattle.hp_script.specs.declared.answer.Answer.{Answer}
use Rattle.hp_script.specs.declared.answer.Answer.TheVariants as answer
use Rattle.hp_zone.specs.Directory.{DirectoryView, PlainDirectory}
use Rattle.hp_zone.specs.Zones.{ZonesView}
use Rattle.hp_zone.specs.declared.name_change.NameChange.{NameChange}
use Rattle.hp_zone.specs.declared.names.Names.{Names as NamesView}
use Rattle.hp_zone.specs.declared.zone.Zone.{Zone}
use Rattle.hp_zone.specs.declared.zone.ZoneChange.{ZoneChange}
use Rattle.hp_zone.specs.declared.zone.ZoneChange.TheVariants.{Put}
use Rattle.hp_proc.specs.Acting.{Acts, AreAsked}
use Rattle.hp_proc.specs.Courses.{calls_in, last_heap}
use Rattle.hp_proc.specs.Doing.{Doing, Done, Goes, Leads}
use Rattle.hp_proc.specs.Doing.Done.{NamesChanged}
use Rattle.hp_proc.specs.ExternalLines.{changing}
use Rattle.hp_proc.specs.Handing.{shared_of}
use Rattle.hp_proc.specs.LineInHall.{HaltsHere, did_in, moment}
use Rattle.hp_proc.specs.NamesInHand.{DoesNamedOnce, HaltsNamedOnce}
use Rattle.hp_proc.specs.NamesLog.{change_made}
use Rattle.hp_proc.specs.NamesOfLines.{AreUntold, ChangesNames}
use Rattle.hp_proc.specs.ParticipantView.{ParticipantView}
use Rattle.hp_proc.specs.Progress.{AreOnce, Brings, Does, Moment, doer_at}
use Rattle.hp_proc.specs.SharedNames.{NamesChange, SharedNames, names_with}
use Rattle.hp_proc.specs.SharedNames.NamesChange.{OfZones}
use Rattle.hp_proc.specs.ZoneLines.{continued, put_zone}
use Rattle.hp_proc.specs.ZonesInHand.{PutsZone, zone_for}
use Rattle.hp_proc.proofs.Continued.{continues, goes_on_from}
use Rattle.hp_proc.proofs.HandFacts.HandTried.{none_done}
use Rattle.hp_proc.proofs.Joining.{context_still, does_then}
use Rattle.hp_proc.proofs.LinesOrdered.{read_on}
use Rattle.hp_proc.proofs.TreeDeeds.{IsAllocating, Only, allocating_nameless, allocating_untold, nameless_changes, nameless_read, only_leads}

-- A CHANGE OF THE NAMES

-- it is no call, and leads on
pub change_done : (count : ℕ) (doer : ParticipantView) (at : Moment) (change : NamesChange) (rest : Doing) → at.hand ≡ None
    → Does [] count (λ steps. steps ≡ []) (changing change rest) rest at at
unfolding Leads Goes AreAsked
change_done count doer at change rest empty = record {
  trace = NamesChanged change ∷ [];
  steps = [];
  leads = (tt, refl, refl);
  made = refl;
  acts = Acts.changes_names at.hand (doer_at at) change;
  entries = λ heap. sym (append-nil (at.parts heap).entries);
  serves = λ heap. refl;
  counted = context_still at.context at.context refl;
  same = record { me = refl; socket = refl; plan = refl; deadline = refl };
  asked = refl;
  more = [];
  log = sym (append-nil at.log);
  outcomes = [];
  asks = sym (append-nil at.asks);
}

-- what an allocation did, and that change after it
untold_on : (trace : List Done) (change : NamesChange) → AreUntold trace → AreUntold (trace ++ NamesChanged change ∷ [])
untold_on [] change untold = (tt, tt)
untold_on (done ∷ trace) change untold = (untold.0, untold_on trace change untold.1)

pub changes_none : (before given : NamesView) (trace : List Done) → AllByRecursion IsAllocating trace → shared_of given ≡ shared_of before
    → ChangesNames before given trace
changes_none before given trace all same =
    let nameless = allocating_nameless trace all in
    record {
      changed = same ∙ sym (ap (fold names_with (shared_of before)) (nameless_changes trace nameless));
      unread = nameless_read trace nameless;
      untold = allocating_untold trace all;
    }

pub changes_one : (before given : NamesView) (trace : List Done) (change : NamesChange) → AllByRecursion IsAllocating trace
    → shared_of given ≡ names_with (shared_of before) change → ChangesNames before given (trace ++ NamesChanged change ∷ [])
changes_one before given trace change all same =
    let nameless = allocating_nameless trace all in
    let changes : filter_map change_made (trace ++ NamesChanged change ∷ []) ≡ change ∷ [] =
    filter_map-append change_made trace (NamesChanged change ∷ [])
    ∙ ap (λ (first : List NamesChange). first ++ change ∷ []) (nameless_changes trace nameless) in
    record {
      changed = same ∙ sym (ap (fold names_with (shared_of before)) changes);
      unread = read_on trace (NamesChanged change ∷ []) ∙ ap (λ (first : List SharedNames). first ++ []) (nameless_read trace nameless);
      untold = untold_on trace change (allocating_untold trace all);
    }

-- where no address was found nothing is put
put_none : (plain : PlainDirectory) (text : List ℕ) (len : ℕ) (last : Option ℕ) (given : Answer) → ((addr : ℕ) → given ≢ answer.Address addr)
    → put_zone plain text len last given ≡ Doing.Ended given
put_none plain text len None given other = refl
put_none plain text len (Some heap) (answer.Address addr) other = absurd (other addr refl)
put_none plain text len (Some heap) _ other = refl

-- WHAT IT DID

abbrev shared_by : List ZoneChange → List NameChange → SharedNames
shared_by zones heaps = record { zones = zones; heaps = heaps }

-- what was done, by another tree through which it leads
unfoldable leads_by : {held : List ℕ} {count : ℕ} {did : List MailStep → Type 0} {doing rest : Doing} {old new : Moment} (other next : Doing)
    (does : Does held count did doing rest old new) → Leads other does.trace next → Does held count did other next old new
leads_by other next does leads = record {
  trace = does.trace;
  steps = does.steps;
  leads = leads;
  made = does.made;
  acts = does.acts;
  entries = does.entries;
  serves = does.serves;
  counted = does.counted;
  same = does.same;
  asked = does.asked;
  more = does.more;
  log = does.log;
  outcomes = does.outcomes;
  asks = does.asks;
}

module _ (me heap size : ℕ) (doer after : ParticipantView) (before : NamesView) (zones : ZonesView) (from to : HallState) (serves : Doing)
    (only : Only IsAllocating serves) (text : List ℕ) (len : ℕ) (rounded : size ≡ rounded_size len) (kept : List ℕ) (same_text : kept ≡ text)
    (same_log : zones.log ≡ before.zones.log) where
  abbrev between : NamesView
  between = record { zones = zones; heaps = before.heaps }

  abbrev putting : Option ℕ → Answer → Doing
  putting = put_zone before.heaps.plain text len

  abbrev doing : Doing
  doing = continued putting None serves

  -- the memzone that is put is that of the tree
  abbrev its_zone : ℕ → Zone
  its_zone addr = zone_for before text (rounded_size len) heap addr

  zone_same : (addr : ℕ) → zone_for between kept size heap addr ≡ its_zone addr
  zone_same addr =
      ap (λ (name : List ℕ). zone_for before name size heap addr) same_text ∙ ap (λ (size : ℕ). zone_for before text size heap addr) rounded

  abbrev its_change : ℕ → NamesChange
  its_change addr = OfZones (Put (its_zone addr))

  shared_then : (addr : ℕ) (now : NamesView) → PutsZone between now kept size heap (answer.Address addr)
      → shared_of now ≡ names_with (shared_of before) (its_change addr)
  shared_then addr now puts =
      let log : now.zones.log ≡ before.zones.log ++ Put (its_zone addr) ∷ [] =
      puts.1.log
      ∙ (ap (λ (log : List ZoneChange). log ++ Put (zone_for between kept size heap addr) ∷ []) same_log
      ∙ ap (λ (zone : Zone). before.zones.log ++ Put zone ∷ []) (zone_same addr)) in
      ap (λ (log : List ZoneChange). shared_by log now.heaps.log) log
      ∙ ap (λ (heaps : DirectoryView). shared_by (before.zones.log ++ Put (its_zone addr) ∷ []) heaps.log) puts.0

  abbrev Brought : Answer → Type 0
  Brought given = Brings heap from.count (did_in me from to) serves given (moment me doer from) (moment me after to)

  -- an address was found
  puts_one : (addr : ℕ) → Brought (answer.Address addr) → (now : NamesView) → PutsZone between now kept size heap (answer.Address addr)
      → DoesNamedOnce me doer after before now from to doing (Doing.Ended (answer.Address addr))
  unfolding leads_by does_then change_done
  puts_one addr brings now puts =
      let does = brings.does in
      let ended : Doing = Doing.Ended (answer.Address addr) in
      let all = only_leads IsAllocating serves does.trace ended only does.leads in
      let here : Does brings.held from.count (did_in me from to) doing (changing (its_change addr) ended) (moment me doer from) (moment me after to) =
      leads_by doing (changing (its_change addr) ended) does
      (subst (λ (last : Option ℕ). Leads doing does.trace (putting last (answer.Address addr))) (brings.last addr refl)
      (goes_on_from putting serves does.trace (answer.Address addr) does.leads)) in
      record {
        does = record {
          held = brings.held ++ [];
          once = subst AreOnce (sym (append-nil brings.held)) brings.once;
          does = does_then from.count (did_in me from to) (λ steps. steps ≡ []) (did_in me from to) doing (changing (its_change addr) ended) ended
              (moment me doer from) (moment me after to) (moment me after to) (none_done (did_in me from to)) here
              (change_done from.count after (moment me after to) (its_change addr) ended refl);
        };
        names = changes_one before now does.trace (its_change addr) all (shared_then addr now puts);
      }

  -- or none
  puts_none : (given : Answer) → ((addr : ℕ) → given ≢ answer.Address addr) → Brought given → (now : NamesView) → now ≡ between
      → DoesNamedOnce me doer after before now from to doing (Doing.Ended given)
  unfolding leads_by
  puts_none given other brings now same =
      let does = brings.does in
      let all = only_leads IsAllocating serves does.trace (Doing.Ended given) only does.leads in
      record {
        does = record {
          held = brings.held;
          once = brings.once;
          does = leads_by doing (Doing.Ended given) does
              (subst (Leads doing does.trace) (put_none before.heaps.plain text len (last_heap (calls_in does.trace)) given other)
              (goes_on_from putting serves does.trace given does.leads));
        };
        names = changes_none before now does.trace all
            (ap shared_of same ∙ ap (λ (log : List ZoneChange). shared_by log before.heaps.log) same_log);
      }

  pub zone_does : (given : Answer) → Brought given → (now : NamesView) → PutsZone between now kept size heap given
      → DoesNamedOnce me doer after before now from to doing (Doing.Ended given)
  zone_does given brings now puts = by given refl puts
    where
      by : (ended : Answer) → given ≡ ended → PutsZone between now kept size heap ended
          → DoesNamedOnce me doer after before now from to doing (Doing.Ended given)
      by (answer.Address addr) is puts =
          subst (λ (ended : Answer). DoesNamedOnce me doer after before now from to doing (Doing.Ended ended)) (sym is)
          (puts_one addr (subst Brought is brings) now puts)
      by _ is puts = puts_none given (λ addr same. cc) brings now puts

  -- it stopped meanwhile
  pub zone_halts : (heaps : List ℕ) → AreOnce heaps → HaltsHere heaps me doer after from to serves
      → HaltsNamedOnce me doer after before between from to doing
  zone_halts heaps once halts =
      let on = continues putting serves halts.trace None halts.rest halts.leads in
      record {
        heaps = heaps;
        once = once;
        halts = record {
          halts = record {
            rest = continued putting on.0 halts.rest;
            trace = halts.trace;
            steps = halts.steps;
            held = halts.held;
            others = halts.others;
            front = halts.front;
            leads = on.1;
            made = halts.made;
            acts = halts.acts;
            entries = halts.entries;
            counted = halts.counted;
            same = halts.same;
          };
          names = changes_none before between halts.trace (only_leads IsAllocating serves halts.trace halts.rest only halts.leads)
              (ap (λ (log : List ZoneChange). shared_by log before.heaps.log) same_log);
        };
      }
