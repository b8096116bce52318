-- The fields of a line say the same wherever it stands.
use Rattle.std.proofs.Common.{◌≡◌, ℕ, Bool, List, [], ◌∷◌, length, map, refl, arith}
use Rattle.std.specs.Prelude.{nat_lt, not}
use Rattle.std.specs.Option.{option_map, ok_or}
use Rattle.hp_script.specs.Part.{Part}
use Rattle.hp_script.specs.Judge.{refuse, is_within, number_field, party_field}
use Rattle.hp_script.specs.ShapeWords.Options.{options_of}
use Rattle.hp_script.specs.ShapeWords.Acts.{label_made, label_used}
use Rattle.hp_script.specs.ShapeWords.Verbs.{verb_named, setup_named, kind_named}
use Rattle.hp_script.specs.ShapeWords.ShapesMemory.{alloc_line, zone_line, resize_line}
use Rattle.hp_script.specs.ShapeWords.ShapesHeaps.{name_act, name_line, range_act, range_line, add_line as add_shape}
use Rattle.hp_script.specs.ShapeWords.ShapesMembers.{member_line, is_allow, limit_line, unlimit_line, await_line}
use Rattle.hp_script.specs.ShapeWords.ShapesSetup.{slots_field, participants_line, absent_line, socket_line, deadline_line, pool_line, counted_line, message_line, mapping_line}
use Rattle.hp_script.specs.ShapeWords.Shapes.{is_participant_line, act_line, participant_line, setup_act, setup_line, shape_of}
use Rattle.hp_script.specs.declared.bad_kind.BadKind.TheVariants as bad
use Rattle.hp_script.specs.declared.line.Act.{Act}
use Rattle.hp_script.specs.declared.verb.Verb.{Verb}
use Rattle.hp_script.specs.declared.verb.Verb.TheVariants as verb
use Rattle.hp_script.specs.declared.verb.SetupVerb.{SetupVerb}
use Rattle.hp_script.specs.declared.verb.SetupVerb.TheVariants as setup_verb
use Rattle.hp_script.specs.declared.verb.NameCall.{NameCall}
use Rattle.hp_script.specs.declared.verb.NameCall.TheVariants as name_call
use Rattle.hp_script.specs.declared.verb.RangeCall.{RangeCall}
use Rattle.hp_script.specs.declared.verb.RangeCall.TheVariants as range_call
use Rattle.hp_script.specs.declared.verb.MemberCall.{MemberCall}
use Rattle.hp_script.proofs.AlikeLemmas.{Alike, after, follow, SameAct, SameShape, AlikeOptions, either, moved}
use Rattle.hp_script.proofs.MovedFacts.MovedOptions.{given_options}

module _ (base : ℕ × ℕ) where
  same_act : {deed other : Act} → option_map (λ label. label.text) (label_made other) ≡ option_map (λ label. label.text) (label_made deed)
      → option_map (λ label. label.text) (label_used other) ≡ option_map (λ label. label.text) (label_used deed) → SameAct deed other
  same_act made used = record { made = made; used = used }

  alloc_moved : (p : Part) (arguments : List Part) → Alike SameShape (alloc_line p arguments) (alloc_line (moved base p) (map (moved base) arguments))
  unfolding alloc_line
  alloc_moved p [] = refl
  alloc_moved p (label ∷ []) = refl
  alloc_moved p (label ∷ n ∷ words) =
      after SameShape (party_field p) _ _ (λ party.
      after SameShape (number_field n) _ _ (λ size.
      follow AlikeOptions SameShape (ok_or (options_of words) bad.Option) (ok_or (options_of (map (moved base) words)) bad.Option) _ _
      (given_options base words) (λ options other alike.
      (refl, record { made = refl; used = refl }))))

  zone_moved : (p : Part) (arguments : List Part) → Alike SameShape (zone_line p arguments) (zone_line (moved base p) (map (moved base) arguments))
  unfolding zone_line
  zone_moved p [] = refl
  zone_moved p (name ∷ []) = refl
  zone_moved p (name ∷ n ∷ words) =
      after SameShape (party_field p) _ _ (λ party.
      after SameShape (number_field n) _ _ (λ len.
      after SameShape (refuse (nat_lt len 1) bad.Range) _ _ (λ some.
      follow AlikeOptions SameShape (ok_or (options_of words) bad.Option) (ok_or (options_of (map (moved base) words)) bad.Option) _ _
      (given_options base words) (λ options other alike.
      (refl, record { made = refl; used = refl })))))

  resize_moved : (p : Part) (arguments : List Part) → Alike SameShape (resize_line p arguments) (resize_line (moved base p) (map (moved base) arguments))
  unfolding resize_line
  resize_moved p [] = refl
  resize_moved p (label ∷ []) = refl
  resize_moved p (label ∷ n ∷ []) = after SameShape (party_field p) _ _ (λ party. after SameShape (number_field n) _ _ (λ size. (refl, record { made = refl; used = refl })))
  resize_moved p (label ∷ n ∷ more ∷ others) = refl

  name_same : (call : NameCall) (name : Part) → SameAct (name_act call name) (name_act call (moved base name))
  name_same name_call.Free name = record { made = refl; used = refl }
  name_same name_call.Lookup name = record { made = refl; used = refl }
  name_same name_call.Unzone name = record { made = refl; used = refl }
  name_same name_call.Heap name = record { made = refl; used = refl }
  name_same name_call.Unheap name = record { made = refl; used = refl }
  name_same name_call.Watch name = record { made = refl; used = refl }
  name_same name_call.Unwatch name = record { made = refl; used = refl }
  name_same name_call.Dump name = record { made = refl; used = refl }
  name_same name_call.Stats name = record { made = refl; used = refl }

  name_moved : (call : NameCall) (p : Part) (arguments : List Part) → Alike SameShape (name_line call p arguments) (name_line call (moved base p) (map (moved base) arguments))
  unfolding name_line
  name_moved call p [] = refl
  name_moved call p (name ∷ []) = after SameShape (party_field p) _ _ (λ party. (refl, name_same call name))
  name_moved call p (name ∷ more ∷ others) = refl

  range_same : (call : RangeCall) (heap : Part) (addr len : ℕ) → SameAct (range_act call heap addr len) (range_act call (moved base heap) addr len)
  range_same range_call.Remove heap addr len = record { made = refl; used = refl }
  range_same range_call.Map heap addr len = record { made = refl; used = refl }
  range_same range_call.Unmap heap addr len = record { made = refl; used = refl }

  range_moved : (call : RangeCall) (p : Part) (arguments : List Part) → Alike SameShape (range_line call p arguments) (range_line call (moved base p) (map (moved base) arguments))
  unfolding range_line
  range_moved call p [] = refl
  range_moved call p (heap ∷ []) = refl
  range_moved call p (heap ∷ a ∷ []) = refl
  range_moved call p (heap ∷ a ∷ n ∷ []) = after SameShape (party_field p) _ _ (λ party. after SameShape (number_field a) _ _ (λ addr. after SameShape (number_field n) _ _ (λ len. (refl, range_same call heap addr len))))
  range_moved call p (heap ∷ a ∷ n ∷ more ∷ others) = refl

  add_moved : (p : Part) (arguments : List Part) → Alike SameShape (add_shape p arguments) (add_shape (moved base p) (map (moved base) arguments))
  unfolding add_shape
  add_moved p [] = refl
  add_moved p (heap ∷ []) = refl
  add_moved p (heap ∷ a ∷ []) = refl
  add_moved p (heap ∷ a ∷ n ∷ []) = refl
  add_moved p (heap ∷ a ∷ n ∷ size ∷ []) =
      after SameShape (party_field p) _ _ (λ party. after SameShape (number_field a) _ _ (λ addr. after SameShape (number_field n) _ _ (λ len. after SameShape (number_field size) _ _ (λ page. (refl, record { made = refl; used = refl })))))
  add_moved p (heap ∷ a ∷ n ∷ size ∷ more ∷ others) = refl

  member_moved : (call : MemberCall) (p : Part) (arguments : List Part) → Alike SameShape (member_line call p arguments) (member_line call (moved base p) (map (moved base) arguments))
  unfolding member_line
  member_moved call p [] = after SameShape (party_field p) _ _ (λ party. after SameShape (refuse (not (is_within 1 15 party)) bad.Range) _ _ (λ within. (refl, record { made = refl; used = refl })))
  member_moved call p (more ∷ others) = refl

  allow_moved : (words : List Part) → is_allow (map (moved base) words) ≡ is_allow words
  allow_moved [] = refl
  allow_moved (word ∷ words) = refl

  count_moved : (parts : List Part) → length (map (moved base) parts) ≡ length parts
  count_moved [] = refl
  count_moved (part ∷ parts) = let rest = count_moved parts in omega (arith, rest)

  limit_moved : (p : Part) (arguments : List Part) → Alike SameShape (limit_line p arguments) (limit_line (moved base p) (map (moved base) arguments))
  unfolding limit_line
  limit_moved p [] = refl
  limit_moved p (name ∷ []) = refl
  limit_moved p (name ∷ s ∷ []) = refl
  limit_moved p (name ∷ s ∷ n ∷ words) =
      rw (count_moved words, allow_moved words) (
      after SameShape (refuse (nat_lt 1 (length words)) bad.Fields) _ _ (λ few.
      after SameShape (party_field p) _ _ (λ party.
      after SameShape (number_field s) _ _ (λ socket.
      after SameShape (number_field n) _ _ (λ bytes.
      after SameShape (refuse (nat_lt 0 party) bad.Range) _ _ (λ primary.
      after SameShape (refuse (nat_lt 31 socket) bad.Range) _ _ (λ within.
      after SameShape (is_allow words) _ _ (λ allow. (refl, record { made = refl; used = refl })))))))))

  unlimit_moved : (p : Part) (arguments : List Part) → Alike SameShape (unlimit_line p arguments) (unlimit_line (moved base p) (map (moved base) arguments))
  unfolding unlimit_line
  unlimit_moved p [] = refl
  unlimit_moved p (name ∷ []) = refl
  unlimit_moved p (name ∷ s ∷ []) =
      after SameShape (party_field p) _ _ (λ party.
      after SameShape (number_field s) _ _ (λ socket.
      after SameShape (refuse (nat_lt 0 party) bad.Range) _ _ (λ primary.
      after SameShape (refuse (nat_lt 31 socket) bad.Range) _ _ (λ within. (refl, record { made = refl; used = refl })))))
  unlimit_moved p (name ∷ s ∷ more ∷ others) = refl

  await_moved : (p : Part) (arguments : List Part) → Alike SameShape (await_line p arguments) (await_line (moved base p) (map (moved base) arguments))
  unfolding await_line
  await_moved p [] = refl
  await_moved p (q ∷ []) = refl
  await_moved p (q ∷ k ∷ []) =
      after SameShape (party_field p) _ _ (λ party.
      after SameShape (party_field q) _ _ (λ other.
      after SameShape (number_field k) _ _ (λ lines.
      after SameShape (refuse (nat_lt lines 1) bad.Range) _ _ (λ some. (refl, refl, refl)))))
  await_moved p (q ∷ k ∷ more ∷ others) = refl

  act_moved : (v : Verb) (p : Part) (arguments : List Part) → Alike SameShape (act_line v p arguments) (act_line v (moved base p) (map (moved base) arguments))
  act_moved verb.Alloc p arguments = alloc_moved p arguments
  act_moved verb.Zone p arguments = zone_moved p arguments
  act_moved verb.Resize p arguments = resize_moved p arguments
  act_moved (verb.Name call) p arguments = name_moved call p arguments
  act_moved (verb.Member call) p arguments = member_moved call p arguments
  act_moved verb.Add p arguments = add_moved p arguments
  act_moved (verb.Range call) p arguments = range_moved call p arguments
  act_moved verb.Limit p arguments = limit_moved p arguments
  act_moved verb.Unlimit p arguments = unlimit_moved p arguments
  act_moved verb.Await p arguments = await_moved p arguments

  verb_moved : (word : Part) → verb_named (moved base word) ≡ verb_named word
  unfolding verb_named
  verb_moved word = refl

  setup_word_moved : (word : Part) → setup_named (moved base word) ≡ setup_named word
  unfolding setup_named
  setup_word_moved word = refl

  kind_moved : (word : Part) → kind_named (moved base word) ≡ kind_named word
  unfolding kind_named
  kind_moved word = refl

  participants_moved : (arguments : List Part) → participants_line (map (moved base) arguments) ≡ participants_line arguments
  unfolding participants_line
  participants_moved [] = refl
  participants_moved (n ∷ []) = refl
  participants_moved (n ∷ more ∷ others) = refl

  absent_moved : (arguments : List Part) → absent_line (map (moved base) arguments) ≡ absent_line arguments
  unfolding absent_line
  absent_moved [] = refl
  absent_moved (n ∷ []) = refl
  absent_moved (n ∷ more ∷ others) = refl

  socket_line_moved : (arguments : List Part) → socket_line (map (moved base) arguments) ≡ socket_line arguments
  unfolding socket_line
  socket_line_moved [] = refl
  socket_line_moved (p ∷ []) = refl
  socket_line_moved (p ∷ n ∷ []) = refl
  socket_line_moved (p ∷ n ∷ more ∷ others) = refl

  deadline_moved : (arguments : List Part) → deadline_line (map (moved base) arguments) ≡ deadline_line arguments
  unfolding deadline_line
  deadline_moved [] = refl
  deadline_moved (n ∷ []) = refl
  deadline_moved (n ∷ more ∷ others) = refl

  slots_moved : (words : List Part) (pages : ℕ) → slots_field (map (moved base) words) pages ≡ slots_field words pages
  slots_moved [] pages = refl
  slots_moved (word ∷ words) pages = refl

  pool_moved : (arguments : List Part) → pool_line (map (moved base) arguments) ≡ pool_line arguments
  unfolding pool_line
  pool_moved [] = refl
  pool_moved (s ∷ []) = refl
  pool_moved (s ∷ size ∷ []) = refl
  pool_moved (s ∷ size ∷ n ∷ []) = refl
  pool_moved (s ∷ size ∷ n ∷ slots ∷ []) = refl
  pool_moved (s ∷ size ∷ n ∷ slots ∷ more ∷ words) = rw (count_moved words) refl

  counted_moved : (arguments : List Part) → counted_line (map (moved base) arguments) ≡ counted_line arguments
  unfolding counted_line
  counted_moved [] = refl
  counted_moved (p ∷ []) = refl
  counted_moved (p ∷ n ∷ []) = refl
  counted_moved (p ∷ n ∷ more ∷ others) = refl

  message_moved : (twice : Bool) (arguments : List Part) → message_line twice (map (moved base) arguments) ≡ message_line twice arguments
  unfolding message_line
  message_moved twice [] = refl
  message_moved twice (word ∷ others) = rw (kind_moved word, counted_moved others) refl

  mapping_moved : (elsewhere : Bool) (arguments : List Part) → mapping_line elsewhere (map (moved base) arguments) ≡ mapping_line elsewhere arguments
  unfolding mapping_line
  mapping_moved elsewhere arguments = rw (counted_moved arguments) refl

  setup_moved : (v : SetupVerb) (arguments : List Part) → setup_act v (map (moved base) arguments) ≡ setup_act v arguments
  setup_moved setup_verb.Participants arguments = participants_moved arguments
  setup_moved setup_verb.Absent arguments = absent_moved arguments
  setup_moved setup_verb.Socket arguments = socket_line_moved arguments
  setup_moved setup_verb.Deadline arguments = deadline_moved arguments
  setup_moved setup_verb.Pool arguments = pool_moved arguments
  setup_moved (setup_verb.Message twice) arguments = message_moved twice arguments
  setup_moved (setup_verb.Mapping elsewhere) arguments = mapping_moved elsewhere arguments

  call_moved : (first : Part) (others : List Part) → Alike SameShape (participant_line first others) (participant_line (moved base first) (map (moved base) others))
  unfolding participant_line
  call_moved first [] = refl
  call_moved first (word ∷ arguments) = rw (verb_moved word) (after SameShape (ok_or (verb_named word) bad.Verb) _ _ (λ v. act_moved v first arguments))

  setup_said_moved : (word : Part) (arguments : List Part) → Alike SameShape (setup_line word arguments) (setup_line (moved base word) (map (moved base) arguments))
  unfolding setup_line
  setup_said_moved word arguments =
      rw (setup_word_moved word) (after SameShape (ok_or (setup_named word) bad.Verb) _ _ (λ v.
      rw (setup_moved v arguments) (after SameShape (setup_act v arguments) _ _ (λ setup. refl))))

  pub shape_moved : (fields : List Part) → Alike SameShape (shape_of fields) (shape_of (map (moved base) fields))
  shape_moved [] = refl
  shape_moved (first ∷ others) =
      either SameShape (is_participant_line first) (participant_line first others) (setup_line first others) (participant_line (moved base first) (map (moved base) others)) (setup_line (moved base first) (map (moved base) others))
      (call_moved first others) (setup_said_moved first others)
