-- What a participant does of its line leads from a quiet world to a quiet one, in which it owes word of a run, or not: it walks over all
-- that it did.
use Rattle.std.proofs.Common.{◌≡◌, ◌≢◌, ◌∙◌, ℕ, ◌≤◌, ◌<◌, ◌^◌, Bool, true, false, ◌||◌, List, [], ◌∷◌, ◌++◌, length, count_by, None, Ok, Option, inl, inr, refl, sym, ap, subst, arith}
use Rattle.std.specs.List.{list_any}
use Rattle.std.proofs.lemmas.Bool.{cases_Bool}
use Rattle.std.proofs.lemmas.List.Folds.{list_any-append}
use Rattle.std.proofs.lemmas.Option.{slice_get_within}
use Rattle.hp_proc.specs.Denying.{denials_of}
use Rattle.hp_base.specs.declared.caught.Caught.{Caught}
use Rattle.hp_hall.specs.Mail.{Gives, MailStep, Notes, Takes}
use Rattle.hp_hall.specs.declared.kept.Kept.TheVariants.{Names}
use Rattle.hp_hall.specs.declared.note.Note.TheVariants.{Emptied, LoadedDone, Stored}
use Rattle.hp_hall.specs.declared.slot.TheConstants.{NAMES_SLOT}
use Rattle.hp_heap.specs.declared.entry.HeapAnswer.TheVariants as gives
use Rattle.hp_heap.specs.declared.entry.HeapCall.TheVariants as call
use Rattle.hp_log.proofs.Counts.{any_counts, count_append}
use Rattle.hp_log.specs.declared.log_record.LogRecord.{LogRecord}
use Rattle.hp_base.specs.declared.map_answer.MapAnswer.{MapAnswer}
use Rattle.hp_maps.specs.Chunks.{rows_of_chunk}
use Rattle.hp_maps.specs.MapsView.{MapsView, calls_of}
use Rattle.hp_segs.proofs.SlotFacts.ListFacts.{or_off_parts}
use Rattle.hp_segs.specs.LaterSteps.{after_leave}
use Rattle.hp_segs.specs.Ranges.{after_claim_range, after_release_range, range_plan}
use Rattle.hp_segs.specs.SegsView.{is_member}
use Rattle.hp_proc.specs.Acting.{Acts}
use Rattle.hp_serve.specs.Attaching.{Attaches, after_attaching}
use Rattle.hp_proc.specs.Doing.{Done}
use Rattle.hp_proc.specs.Doing.Done.{Asked, Called, ChunkMapped, GaveUp, HeapSeen, NamesChanged, NamesRead, RangePlanned, StatsRead}
use Rattle.hp_proc.specs.Handing.{counted_in, shared_of}
use Rattle.hp_serve.specs.Party.{Party}
use Rattle.hp_proc.specs.ParticipantView.{ParticipantView, watched_after}
use Rattle.hp_script.specs.declared.answer.Answer.{Answer}
use Rattle.hp_script.specs.declared.answer.Answer.TheVariants as answer
use Rattle.hp_script.specs.declared.line.Act.{Act}
use Rattle.hp_script.specs.declared.line.Act.TheVariants as act
use Rattle.hp_serve.specs.Serving.{acks_after, gives_segments, takes_segments}
use Rattle.hp_solo.specs.Sequence.{Sequence}
use Rattle.hp_solo.specs.Solo.{SoloView}
use Rattle.thm_causes.specs.RoundTrip.{IsSetting, Setting, RunState}
use Rattle.thm_causes.specs.Quiet.{IsQuietOwing, IsQuietState}
use Rattle.hp_proc.specs.SharedNames.NamesChange.{OfHeaps}
use Rattle.hp_zone.specs.declared.name_change.NameChange.TheVariants.{Range, RangeGone}
use Rattle.thm_causes.specs.Lines.{ActsInQuiet, AreWaitsQuiet, AttachesOnce, Owes, is_looked}
use Rattle.thm_causes.specs.Shared.{MakesAll}
use Rattle.thm_causes.specs.Waits.{LeadsTo}
use Rattle.thm_causes.specs.RunStates.{AreCalls, IsRunStateOf}
use Rattle.thm_causes.proofs.LineFacts.LinesCarried.{acts_timed, clock_rises}
use Rattle.thm_causes.proofs.LineFacts.LinesOwn.{HasSameTable, HasTried, attaches, calls_rise, chunk_calls, cuts, leaves, moves_ranges, stays}
use Rattle.thm_causes.proofs.LineFacts.LinesQuiet.{IsAsBefore}
use Rattle.thm_causes.proofs.LineFacts.LinesRoster.{hall_out, out_stays, world_out}
use Rattle.thm_causes.proofs.Owing.OwesAlong.{owes_as_before, owes_both, owes_cut, owes_no_more, owes_once, owes_still, owes_tried}
use Rattle.thm_causes.proofs.TurnSteps.TurnsCalls.{acks_calls, calls_then}
use Rattle.thm_causes.proofs.TurnSteps.TurnsSequence.{IsOwn, calls_own, cut_in}

-- ATTACHES

-- what is not counted was not done (as in hp_maps' ListFacts)
uncounted : (trace : List Done) → count_by is_looked trace ≡ 0 → list_any is_looked trace ≡ false
uncounted trace none =
    elim (cases_Bool (list_any is_looked trace)) [
      | inl some ↦ absurd (omega (arith, any_counts is_looked trace some, none))
      | inr nothing ↦ nothing
    ]

first_once : (party : Party) (first rest : List Done) → AttachesOnce party (first ++ rest) → AttachesOnce party first
first_once party first rest all = record {
  out = λ joined.
      (or_off_parts (list_any is_looked first) (list_any is_looked rest) (sym (list_any-append is_looked first rest) ∙ all.out joined)).0;
  once = omega (arith, count_append is_looked first rest, all.once);
}

-- who was out and has a table now has attached, and doesn't once more
rest_once : (party mid : Party) (first rest : List Done) → AttachesOnce party (first ++ rest)
    → (party.joined ≡ false → list_any is_looked first ≡ false → mid.joined ≡ false) → AttachesOnce mid rest
rest_once party mid first rest all stays_out = record {
  out = λ joined.
      elim (cases_Bool party.joined) [
        | inl had ↦
            (or_off_parts (list_any is_looked first) (list_any is_looked rest) (sym (list_any-append is_looked first rest) ∙ all.out had)).1
        | inr out ↦
            elim (cases_Bool (list_any is_looked first)) [
              | inl looked ↦
                  uncounted rest (omega (arith, any_counts is_looked first looked, count_append is_looked first rest, all.once))
              | inr nothing ↦ let wrong : mid.joined ≡ false = stays_out out nothing in cc
            ]
      ];
  once = omega (arith, count_append is_looked first rest, all.once);
}

out_before : (party : Party) (records : Done) (trace : List Done) → is_looked records ≡ true → AttachesOnce party (records ∷ trace)
    → party.joined ≡ false
out_before party records trace looks all =
    elim (cases_Bool party.joined) [
      | inl joined ↦
          let none : (is_looked records || list_any is_looked trace) ≡ false = all.out joined in
          let wrong : true ≡ false = sym (ap (λ (b : Bool). b || list_any is_looked trace) looks) ∙ none in
          cc
      | inr out ↦ out
    ]

-- what is left of an attach, and what is noted of it
tried_so : (party mid : Party) (log : List LogRecord) (ended : Caught) → Attaches party mid log ended
    → HasTried log ended party mid
tried_so party mid log ended tries = record {
  maps = tries.maps;
  caught_up = tries.caught_up;
  left = ap (λ (party : Party). party.maps) tries.after_is;
  joined = ap (λ (party : Party). party.joined) tries.after_is;
}

tried_as_before : (party mid : Party) (log : List LogRecord) (ended : Caught) → Attaches party mid log ended
    → IsAsBefore party mid
tried_as_before party mid log ended tries = record {
  me = ap (λ (party : Party). party.me) tries.after_is;
  deadline = ap (λ (party : Party). party.deadline) tries.after_is;
  plan = ap (λ (party : Party). party.plan) tries.after_is;
  core = ap (λ (party : Party). party.core) tries.after_is;
  asked = ap (λ (party : Party). party.asked) tries.after_is;
  sent = ap (λ (party : Party). party.sent) tries.after_is;
  calls = subst (λ (maps : MapsView). calls_of party.maps ≤ calls_of maps) (sym (ap (λ (party : Party). party.maps) tries.after_is))
      (calls_rise log party.maps tries.maps ended tries.caught_up);
}

not_above : (first mid last limit : ℕ) → first ≡ mid → mid ≤ last → last ≤ limit → first ≤ limit
not_above first mid last limit is rises within = omega (arith, is, rises, within)

-- WHAT WAS DONE

module _ (quietly : AreWaitsQuiet) (set : Setting) (me : ℕ) (is_set : IsSetting set) where
  -- what it does by its own calls alone
  own_calls : (old new : SoloView) (party : Party) (world : RunState) (steps : List MailStep) → IsRunStateOf old me party world
      → Sequence me old steps new → AreCalls steps → IsOwn me steps old.servers new world.shared
  own_calls old new party world steps its sequence calls =
      calls_own quietly.known.along me old new steps world.shared sequence calls its.order its.shared

  has_place : (old : SoloView) (party : Party) (world : RunState) → IsRunStateOf old me party world → IsQuietState set world → me < 16
  has_place old party world its quiet =
      omega (arith, slice_get_within world.parties me party its.own, quiet.base.parties, is_set.few)

  -- it owes so much after what it did
  left_as : (left owes : Bool) (new : SoloView) (after : Party) → left ≡ owes → LeadsTo (IsQuietOwing set owes) new me after
      → LeadsTo (IsQuietOwing set left) new me after
  left_as left owes new after is leads = subst (λ (owes : Bool). LeadsTo (IsQuietOwing set owes) new me after) (sym is) leads

  -- it changed what it knows alone
  knows_more : (old new : SoloView) (party after : Party) (world : RunState) (steps : List MailStep) → IsRunStateOf old me party world
      → (owes left : Bool) → IsQuietOwing set owes world → left ≡ owes → Sequence me old steps new → AreCalls steps
      → ((own : IsOwn me steps old.servers new world.shared) → own.along.at ≡ world.shared) → IsAsBefore party after
      → HasSameTable party after → LeadsTo (IsQuietOwing set left) new me after
  knows_more old new party after world steps its owes left owing is sequence calls still goes same =
      let own = own_calls old new party world steps its sequence calls in
      left_as left owes new after is
      (stays set me old new party after world its owes owing own.servers own.along.order goes own.along.at own.along.shared (still own)
      same)

  -- who watches changes nothing of that
  pub ends_line : (hall : SoloView) (party : Party) (deed : Act) (given : Answer) (owes : Bool)
      → LeadsTo (IsQuietOwing set owes) hall me party → LeadsTo (IsQuietOwing set owes) hall me (watched_after deed given party)
  ends_line hall party deed given owes leads =
      knows_more hall hall party (watched_after deed given party) leads.world [] leads.its owes owes leads.holds refl (Sequence.stands hall) tt
      (λ own. own.along.made)
      (record { me = refl; deadline = refl; plan = refl; core = refl; asked = refl; sent = refl; calls = omega arith })
      (record { joined = refl; number = refl })

  -- nor does it change anything of that to tell of its line
  pub tells_line : (old new : SoloView) (party : Party) (owes : Bool) (found lines : ℕ)
      → Sequence me old (Notes (LoadedDone me found) ∷ (Notes (Stored lines) ∷ [])) new → LeadsTo (IsQuietOwing set owes) old me party
      → LeadsTo (IsQuietOwing set owes) new me party
  tells_line old new party owes found lines sequence leads =
      knows_more old new party party leads.world (Notes (LoadedDone me found) ∷ (Notes (Stored lines) ∷ [])) leads.its owes owes leads.holds refl
      sequence (tt, (tt, tt))
      (λ own. own.along.made.2.2 ∙ (own.along.made.2.1 ∙ own.along.made.1))
      (record { me = refl; deadline = refl; plan = refl; core = refl; asked = refl; sent = refl; calls = omega arith })
      (record { joined = refl; number = refl })

  -- while it is out, what it does but for an attach leaves it out
  still_out : (hand last : Option ℕ) (held : List ℕ) (old between : SoloView) (doer mid : ParticipantView) (world : RunState)
      (first : List Done) (before : List MailStep) → IsRunStateOf old me doer.party world → IsQuietState set world
      → Acts set.count hand last held doer mid first before → Sequence me old before between
      → (owes : Bool) → LeadsTo (IsQuietOwing set owes) between me mid.party → doer.party.joined ≡ false → list_any is_looked first ≡ false
      → mid.party.joined ≡ false
  still_out hand last held old between doer mid world first before its quiet here sequence owes behind out nothing =
      let place = quiet.base.places me doer.party its.own in
      let is_out : is_member world.shared.segs.roster me ≡ false = place.joined ∙ out in
      let secondary : me ≢ 0 =
      λ zero.
      (let wrong : is_member world.shared.segs.roster me ≡ true =
      subst (λ (n : ℕ). is_member world.shared.segs.roster n ≡ true) (sym zero) quiet.base.primary in
      cc) in
      let now =
      out_stays set.count me secondary hand last held doer mid first before old between place.me here nothing sequence
      (hall_out old me doer.party world its is_out) in
      sym (behind.holds.quiet.base.places me mid.party behind.its.own).joined ∙ world_out between me mid.party behind.world behind.its now

  walks : (hand last : Option ℕ) (held : List ℕ) (doer after : ParticipantView) (trace : List Done) (steps : List MailStep)
      → Acts set.count hand last held doer after trace steps → (old new : SoloView) (world : RunState)
      → IsRunStateOf old me doer.party world → (owes left : Bool) → IsQuietOwing set owes world → new.plain.clock ≤ 2 ^ 62
      → Sequence me old steps new → AttachesOnce doer.party trace → Owes owes trace left → LeadsTo (IsQuietOwing set left) new me after.party
  walks _ _ _ doer after trace steps (Acts.nothing _ _) old new world its owes left owing early sequence once pays =
      knows_more old new doer.party doer.party world [] its owes left owing (owes_still owes left pays) sequence tt (λ own. own.along.made)
      (record { me = refl; deadline = refl; plan = refl; core = refl; asked = refl; sent = refl; calls = omega arith })
      (record { joined = refl; number = refl })
  walks _ _ _ doer _ trace steps (Acts.waits_turn until _ after moved _ turned) old new world its owes left owing early sequence once pays =
      left_as left owes new after (owes_still owes left pays)
      (quietly.turns quietly.known (denials_of doer.context.standing) set until me owes old new doer.party after moved steps world is_set
      its owing
      (not_above world.shared.clock old.plain.clock new.plain.clock (2 ^ 62) its.shared.clock
      (clock_rises me steps old new sequence
      (acts_timed set.count _ _ _ doer _ [] steps (Acts.waits_turn until doer after moved steps turned))) early) sequence turned)
  walks _ _ _ doer after trace steps (Acts.takes_heap _ heap pen few) old new world its owes left owing early sequence once pays =
      knows_more old new doer.party doer.party world steps its owes left owing (owes_still owes left pays) sequence (tt, tt)
      (λ own. own.along.made.2 ∙ own.along.made.1)
      (record { me = refl; deadline = refl; plan = refl; core = refl; asked = refl; sent = refl; calls = omega arith })
      (record { joined = refl; number = refl })
  walks _ _ _ doer after trace steps (Acts.gives_heap _ heap pen) old new world its owes left owing early sequence once pays =
      knows_more old new doer.party doer.party world steps its owes left owing (owes_still owes left pays) sequence (tt, (tt, tt))
      (λ own. own.along.made.2.2 ∙ (own.along.made.2.1 ∙ own.along.made.1))
      (record { me = refl; deadline = refl; plan = refl; core = refl; asked = refl; sent = refl; calls = omega arith })
      (record { joined = refl; number = refl })
  walks _ _ _ doer after trace steps (Acts.makes_call _ heap step answer none) old new world its owes left owing early sequence once pays =
      knows_more old new doer.party after.party world [] its owes left owing (owes_no_more owes left heap step answer none pays) sequence tt
      (λ own. own.along.made)
      (record { me = refl; deadline = refl; plan = refl; core = refl; asked = refl; sent = refl; calls = omega arith })
      (record { joined = refl; number = refl })
  walks _ _ _ doer after trace steps (Acts.cuts_run _ heap addr run taken) old new world its owes left owing early sequence once pays =
      let own = own_calls old new doer.party world steps its sequence (tt, (tt, tt)) in
      left_as left true new after.party (owes_cut owes left heap addr run pays)
      (cuts set me old new doer.party after.party world its owes owing own.servers own.along.order
      (record { me = refl; deadline = refl; plan = refl; core = refl; asked = refl; sent = refl; calls = omega arith }) own.along.at
      own.along.shared heap run taken own.along.made (record { joined = refl; number = refl }))
  walks _ _ _ doer _ trace steps (Acts.asks_pages _ after asked run _ does) old new world its owes left owing early sequence once pays =
      let does_so = owes_once owes left (Asked asked run) pays in
      left_as left false new after (does_so.left_is ∙ does_so.may)
      (quietly.asks quietly.known (denials_of doer.context.standing) set me old new doer.party after asked run steps world is_set its
      (subst (λ (owes : Bool). IsQuietOwing set owes world) does_so.may owing)
      (not_above world.shared.clock old.plain.clock new.plain.clock (2 ^ 62) its.shared.clock
      (clock_rises me steps old new sequence
      (acts_timed set.count _ _ _ doer _ trace steps (Acts.asks_pages doer after asked run steps does))) early) sequence does)
  walks _ _ _ doer _ trace steps (Acts.notifies_run _ after heap run _ does) old new world its owes left owing early sequence once pays =
      left_as left false new after (owes_once owes left (GaveUp heap run) pays).left_is
      (quietly.notifies quietly.known (denials_of doer.context.standing) set me heap old new doer.party after run steps world is_set its
      owing.quiet
      (not_above world.shared.clock old.plain.clock new.plain.clock (2 ^ 62) its.shared.clock
      (clock_rises me steps old new sequence
      (acts_timed set.count _ _ _ doer _ trace steps (Acts.notifies_run doer after heap run steps does))) early) sequence does)
  walks _ _ _ doer _ trace steps (Acts.attaches _ mid taken ended tries) old new world its owes left owing early sequence once pays =
      let given = gives_segments (after_attaching doer.party.me ended taken) ∷ [] in
      let own =
      own_calls old new doer.party world steps its sequence
      (tt, calls_then (acks_after ended (length taken.log)) given (acks_calls ended (length taken.log)) (tt, tt)) in
      left_as left owes new _ (owes_tried owes left (length taken.log) ended pays)
      (attaches set me old new doer.party _ world its owes owing own.servers own.along.order (tried_as_before doer.party mid taken.log ended tries)
      own.along.at own.along.shared (has_place old doer.party world its owing.quiet) taken ended
      (subst
      (λ (who : ℕ).
      MakesAll me (takes_segments taken ∷ (acks_after ended (length taken.log) ++ (gives_segments (after_attaching who ended taken) ∷ [])))
      world.shared own.along.at)
      (owing.quiet.base.places me doer.party its.own).me own.along.made)
      (out_before doer.party _ _ refl once) (tried_so doer.party mid taken.log ended tries))
  walks _ _ _ doer after trace steps (Acts.detaches _ taken told secondary none bare heard) old new world its owes left owing early sequence once pays =
      let own = own_calls old new doer.party world steps its sequence (tt, (tt, (tt, tt))) in
      left_as left owes new after.party (owes_still owes left pays)
      (leaves set me old new doer.party after.party world its owes owing own.servers own.along.order
      (record { me = refl; deadline = refl; plan = refl; core = refl; asked = refl; sent = refl; calls = omega arith }) own.along.at
      own.along.shared (has_place old doer.party world its owing.quiet) taken
      (subst
      (λ (who : ℕ). MakesAll me (takes_segments taken ∷ Notes Emptied ∷ gives_segments (after_leave who taken) ∷ []) world.shared own.along.at)
      (owing.quiet.base.places me doer.party its.own).me own.along.made) refl)
  walks _ _ _ doer after trace steps (Acts.notes_left _ elements) old new world its owes left owing early sequence once pays =
      knows_more old new doer.party after.party world [] its owes left owing (owes_still owes left pays) sequence tt (λ own. own.along.made)
      (record { me = refl; deadline = refl; plan = refl; core = refl; asked = refl; sent = refl; calls = omega arith })
      (record { joined = refl; number = refl })
  walks _ _ _ doer after trace steps (Acts.reads_names _ names) old new world its owes left owing early sequence once pays =
      knows_more old new doer.party after.party world steps its owes left owing
      ((owes_once owes left (NamesRead (shared_of names)) pays).left_is) sequence (tt, (tt, tt))
      (λ own. own.along.made.2.2 ∙ (own.along.made.2.1 ∙ own.along.made.1))
      (record { me = refl; deadline = refl; plan = refl; core = refl; asked = refl; sent = refl; calls = omega arith })
      (record { joined = refl; number = refl })
  walks _ _ _ doer after trace steps (Acts.looks_up_lines _ other lines) old new world its owes left owing early sequence once pays =
      knows_more old new doer.party doer.party world steps its owes left owing (owes_still owes left pays) sequence (tt, tt)
      (λ own. own.along.made.2 ∙ own.along.made.1)
      (record { me = refl; deadline = refl; plan = refl; core = refl; asked = refl; sent = refl; calls = omega arith })
      (record { joined = refl; number = refl })
  walks _ _ _ doer after trace steps (Acts.reads_stats _ heap pair) old new world its owes left owing early sequence once pays =
      knows_more old new doer.party after.party world steps its owes left owing
      ((owes_once owes left (StatsRead heap (counted_in pair)) pays).left_is) sequence (tt, tt)
      (λ own. own.along.made.2 ∙ own.along.made.1)
      (record { me = refl; deadline = refl; plan = refl; core = refl; asked = refl; sent = refl; calls = omega arith })
      (record { joined = refl; number = refl })
  walks _ _ _ doer after trace steps (Acts.changes_names _ _ change) old new world its owes left owing early sequence once pays =
      knows_more old new doer.party doer.party world [] its owes left owing (owes_as_before owes left (NamesChanged change ∷ []) (tt, tt) pays) sequence
      tt (λ own. own.along.made)
      (record { me = refl; deadline = refl; plan = refl; core = refl; asked = refl; sent = refl; calls = omega arith })
      (record { joined = refl; number = refl })
  walks _ _ _ doer after trace steps (Acts.holds_names held _ _ taken given shown made inner changes) old new world its owes left owing early
      sequence once pays =
      let giving : List MailStep = Gives NAMES_SLOT (Names given) ∷ [] in
      let first = cut_in me old new steps (Takes NAMES_SLOT (Names taken) ∷ []) (made ++ giving) refl sequence in
      let takes =
      knows_more old first.mid doer.party doer.party world (Takes NAMES_SLOT (Names taken) ∷ []) its owes owes owing refl first.begins (tt, tt)
      (λ own. own.along.made.2 ∙ own.along.made.1)
      (record { me = refl; deadline = refl; plan = refl; core = refl; asked = refl; sent = refl; calls = omega arith })
      (record { joined = refl; number = refl }) in
      let last = cut_in me first.mid new (made ++ giving) made giving refl first.ends in
      let both = owes_both owes left (NamesRead (shared_of taken) ∷ []) shown pays in
      let paid : Owes owes shown left =
      subst (λ (owes : Bool). Owes owes shown left) (owes_as_before owes both.mid (NamesRead (shared_of taken) ∷ []) (tt, tt) both.begins) both.ends in
      let goes =
      walks None None held doer after shown made inner first.mid last.mid takes.world takes.its owes left takes.holds
      (not_above last.mid.plain.clock last.mid.plain.clock new.plain.clock (2 ^ 62) refl
      (clock_rises me giving last.mid new last.ends (tt, tt)) early) last.begins
      (rest_once doer.party doer.party (NamesRead (shared_of taken) ∷ []) shown once (λ out nothing. out)) paid in
      knows_more last.mid new after.party after.party goes.world giving goes.its left left goes.holds refl last.ends (tt, tt)
      (λ own. own.along.made.2 ∙ own.along.made.1)
      (record { me = refl; deadline = refl; plan = refl; core = refl; asked = refl; sent = refl; calls = omega arith })
      (record { joined = refl; number = refl })
  walks _ _ _ doer after trace steps (Acts.sees_heap _ heap pen few) old new world its owes left owing early sequence once pays =
      knows_more old new doer.party doer.party world steps its owes left owing
      (owes_as_before owes left (HeapSeen heap.plain.index heap.history ∷ []) (tt, tt) pays) sequence (tt, tt)
      (λ own. own.along.made.2 ∙ own.along.made.1)
      (record { me = refl; deadline = refl; plan = refl; core = refl; asked = refl; sent = refl; calls = omega arith })
      (record { joined = refl; number = refl })
  walks _ _ _ doer after trace steps (Acts.looks_at_segs _ heap taken) old new world its owes left owing early sequence once pays =
      let own = own_calls old new doer.party world steps its sequence (tt, (tt, tt)) in
      left_as left owes new doer.party (owes_still owes left pays)
      (moves_ranges set me old new doer.party doer.party world its owes owing own.servers own.along.order
      (record { me = refl; deadline = refl; plan = refl; core = refl; asked = refl; sent = refl; calls = omega arith }) own.along.at
      own.along.shared taken taken own.along.made refl refl refl refl refl (record { joined = refl; number = refl }))
  walks _ _ _ doer after trace steps (Acts.plans_range _ heap addr len page taken) old new world its owes left owing early sequence once pays =
      let own = own_calls old new doer.party world steps its sequence (tt, (tt, tt)) in
      left_as left owes new doer.party
      (owes_as_before owes left (RangePlanned addr len page (range_plan addr len page taken) ∷ []) (tt, tt) pays)
      (moves_ranges set me old new doer.party doer.party world its owes owing own.servers own.along.order
      (record { me = refl; deadline = refl; plan = refl; core = refl; asked = refl; sent = refl; calls = omega arith }) own.along.at
      own.along.shared taken taken own.along.made refl refl refl refl refl (record { joined = refl; number = refl }))
  walks _ _ _ doer after trace steps (Acts.claims _ heap chunk taken plan) old new world its owes left owing early sequence once pays =
      let own = own_calls old new doer.party world steps its sequence (tt, (tt, tt)) in
      left_as left owes new after.party
      (owes_as_before owes left
      (RangePlanned chunk.addr chunk.len chunk.page (Ok chunk.list) ∷ NamesChanged (OfHeaps (Range heap chunk.addr chunk.len chunk.page))
      ∷ Called heap (call.Chunk chunk) gives.Done ∷ []) (tt, (tt, (refl, tt))) pays)
      (moves_ranges set me old new doer.party after.party world its owes owing own.servers own.along.order
      (record { me = refl; deadline = refl; plan = refl; core = refl; asked = refl; sent = refl; calls = omega arith }) own.along.at
      own.along.shared taken (after_claim_range chunk.list chunk.addr chunk.len chunk.page chunk.socket taken) own.along.made refl refl refl refl
      refl (record { joined = refl; number = refl }))
  walks _ _ _ doer after trace steps (Acts.releases _ heap chunk taken) old new world its owes left owing early sequence once pays =
      let own = own_calls old new doer.party world steps its sequence (tt, (tt, tt)) in
      left_as left owes new after.party
      (owes_as_before owes left
      (NamesChanged (OfHeaps (RangeGone heap chunk.addr)) ∷ Called heap (call.Unchunk chunk.addr chunk.len) gives.Done ∷ []) (tt, (refl, tt)) pays)
      (moves_ranges set me old new doer.party after.party world its owes owing own.servers own.along.order
      (record { me = refl; deadline = refl; plan = refl; core = refl; asked = refl; sent = refl; calls = omega arith }) own.along.at
      own.along.shared taken (after_release_range chunk.list taken) own.along.made refl refl refl refl refl
      (record { joined = refl; number = refl }))
  walks _ _ _ doer after trace steps (Acts.maps_chunk _ heap chunk maps ended did) old new world its owes left owing early sequence once pays =
      knows_more old new doer.party after.party world [] its owes left owing (owes_as_before owes left (ChunkMapped chunk ended ∷ []) (tt, tt) pays)
      sequence tt (λ own. own.along.made)
      (record {
        me = refl;
        deadline = refl;
        plan = refl;
        core = refl;
        asked = refl;
        sent = refl;
        calls = chunk_calls (rows_of_chunk chunk) doer.party.maps maps ended did.answered;
      })
      (record { joined = refl; number = did.others.number })
  walks _ _ _ doer after trace steps (Acts.shares _ heap chunk same) old new world its owes left owing early sequence once pays =
      knows_more old new doer.party after.party world [] its owes left owing
      (owes_as_before owes left (Called heap (call.Share chunk.addr chunk.len) gives.Done ∷ []) (refl, tt) pays) sequence tt
      (λ own. own.along.made)
      (record { me = refl; deadline = refl; plan = refl; core = refl; asked = refl; sent = refl; calls = omega arith })
      (record { joined = refl; number = refl })
  walks _ _ _ doer after trace steps (Acts.leaves _ heap chunk maps did) old new world its owes left owing early sequence once pays =
      knows_more old new doer.party after.party world [] its owes left owing
      (owes_as_before owes left (Called heap (call.Unshare chunk.addr chunk.len) gives.Done ∷ []) (refl, tt) pays) sequence tt
      (λ own. own.along.made)
      (record {
        me = refl;
        deadline = refl;
        plan = refl;
        core = refl;
        asked = refl;
        sent = refl;
        calls = let same = ap (λ (answers : List MapAnswer). length answers) did.answers in omega (arith, same);
      })
      (record { joined = refl; number = did.others.number })
  walks _ _ _ doer after _ steps (Acts.and_then hand between last held more _ mid _ first rest before behind here next) old new world its
      owes left owing early sequence once pays =
      let cut = cut_in me old new steps before behind refl sequence in
      let rises = clock_rises me behind cut.mid new cut.ends (acts_timed set.count between last more mid after rest behind next) in
      let both = owes_both owes left first rest pays in
      let begins =
      walks hand between held doer mid first before here old cut.mid world its owes both.mid owing
      (not_above cut.mid.plain.clock cut.mid.plain.clock new.plain.clock (2 ^ 62) refl rises early) cut.begins
      (first_once doer.party first rest once) both.begins in
      walks between last more mid after rest behind next cut.mid new begins.world begins.its both.mid left begins.holds early cut.ends
      (rest_once doer.party mid.party first rest once
      (still_out hand between held old cut.mid doer mid world first before its owing.quiet here cut.begins both.mid begins)) both.ends

-- so it is
pub acts_in_quiet : ActsInQuiet
acts_in_quiet quietly set me owes left old new hand last held doer after trace steps world is_set its owing early sequence once pays acts =
    walks quietly set me is_set hand last held doer after trace steps acts old new world its owes left owing early sequence once pays
