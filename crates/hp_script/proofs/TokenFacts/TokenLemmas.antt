-- The tokens that a line lends stand among its fields, by its verb.
use Rattle.std.proofs.Common.{ℕ, ◌≤◌, Bool, true, false, List, [], ◌∷◌, length, cond, inl, inr}
use Rattle.std.specs.Prelude.{Result, IfOk, nat_lt, not}
use Rattle.std.specs.Option.{ok_or}
use denote.Ref.{Bor}
use Rattle.hp_script.specs.Part.{Part}
use Rattle.hp_script.specs.Judge.{refuse, is_within, number_field, party_field}
use Rattle.hp_script.specs.ShapeWords.Verbs.{verb_named, setup_named}
use Rattle.hp_script.specs.ShapeWords.ShapesMembers.{member_act, member_line, is_allow, limit_line, unlimit_line, await_line}
use Rattle.hp_script.specs.ShapeWords.Shapes.{is_participant_line, act_line, participant_line, setup_act, setup_line, shape_of}
use Rattle.hp_script.specs.Spans.{AreSlices, tokens_of}
use Rattle.hp_script.specs.declared.bad_kind.BadKind.{BadKind}
use Rattle.hp_script.specs.declared.bad_kind.BadKind.TheVariants as bad
use Rattle.hp_script.specs.declared.verb.Verb.{Verb}
use Rattle.hp_script.specs.declared.verb.Verb.TheVariants as verb
use Rattle.hp_script.specs.declared.verb.MemberCall.{MemberCall}
use Rattle.hp_script.specs.declared.verb.MemberCall.TheVariants as member_call
use Rattle.hp_script.specs.declared.shape.Shape.{Shape}
use Rattle.hp_script.proofs.TokenFacts.SliceLemmas.{bounds, skip}
use Rattle.hp_script.proofs.TokenFacts.CallTokens.{outcome, SaysSlices, only_first, alloc_slices, zone_slices, resize_slices, range_slices, add_slices, name_slices}

module _ (bytes : Bor (List ℕ)) (a b : ℕ) where
  no_token : (call : MemberCall) → a ≤ b → AreSlices bytes a b (tokens_of (member_act call))
  no_token member_call.Attach le = le
  no_token member_call.Detach le = le

  member_slices : (call : MemberCall) (p : Part) (arguments : List Part) → AreSlices bytes a b arguments → IfOk (member_line call p arguments) (SaysSlices bytes a b)
  unfolding member_line
  member_slices call p [] slices =
      elim (outcome (party_field p)) [
        | inr refused ↦ rw refused.1 tt
        | inl party ↦ rw party.1 (
            elim (outcome (refuse (not (is_within 1 15 party.0)) bad.Range)) [
              | inr refused ↦ rw refused.1 tt
              | inl within ↦ rw within.1 (
                  no_token call slices
                  )
            ])
      ]
  member_slices call p (more ∷ others) slices = tt

  limit_slices : (p : Part) (arguments : List Part) → AreSlices bytes a b arguments → IfOk (limit_line p arguments) (SaysSlices bytes a b)
  unfolding limit_line
  limit_slices p [] slices = tt
  limit_slices p (name ∷ []) slices = tt
  limit_slices p (name ∷ s ∷ []) slices = tt
  limit_slices p (name ∷ s ∷ n ∷ words) slices =
      elim (outcome (refuse (nat_lt 1 (length words)) bad.Fields)) [
        | inr refused ↦ rw refused.1 tt
        | inl few ↦ rw few.1 (
            elim (outcome (party_field p)) [
              | inr refused ↦ rw refused.1 tt
              | inl party ↦ rw party.1 (
                  elim (outcome (number_field s)) [
                    | inr refused ↦ rw refused.1 tt
                    | inl socket ↦ rw socket.1 (
                        elim (outcome (number_field n)) [
                          | inr refused ↦ rw refused.1 tt
                          | inl limit ↦ rw limit.1 (
                              elim (outcome (refuse (nat_lt 0 party.0) bad.Range)) [
                                | inr refused ↦ rw refused.1 tt
                                | inl primary ↦ rw primary.1 (
                                    elim (outcome (refuse (nat_lt 31 socket.0) bad.Range)) [
                                      | inr refused ↦ rw refused.1 tt
                                      | inl within ↦ rw within.1 (
                                          elim (outcome (is_allow words)) [
                                            | inr refused ↦ rw refused.1 tt
                                            | inl allow ↦ rw allow.1 (
                                                only_first bytes a b name (s ∷ n ∷ words) slices
                                                )
                                          ])
                                    ])
                              ])
                        ])
                  ])
            ])
      ]

  unlimit_slices : (p : Part) (arguments : List Part) → AreSlices bytes a b arguments → IfOk (unlimit_line p arguments) (SaysSlices bytes a b)
  unfolding unlimit_line
  unlimit_slices p [] slices = tt
  unlimit_slices p (name ∷ []) slices = tt
  unlimit_slices p (name ∷ s ∷ []) slices =
      elim (outcome (party_field p)) [
        | inr refused ↦ rw refused.1 tt
        | inl party ↦ rw party.1 (
            elim (outcome (number_field s)) [
              | inr refused ↦ rw refused.1 tt
              | inl socket ↦ rw socket.1 (
                  elim (outcome (refuse (nat_lt 0 party.0) bad.Range)) [
                    | inr refused ↦ rw refused.1 tt
                    | inl primary ↦ rw primary.1 (
                        elim (outcome (refuse (nat_lt 31 socket.0) bad.Range)) [
                          | inr refused ↦ rw refused.1 tt
                          | inl within ↦ rw within.1 (
                              only_first bytes a b name (s ∷ []) slices
                              )
                        ])
                  ])
            ])
      ]
  unlimit_slices p (name ∷ s ∷ more ∷ others) slices = tt

  await_slices : (p : Part) (arguments : List Part) → AreSlices bytes a b arguments → IfOk (await_line p arguments) (SaysSlices bytes a b)
  unfolding await_line
  await_slices p [] slices = tt
  await_slices p (q ∷ []) slices = tt
  await_slices p (q ∷ k ∷ []) slices =
      elim (outcome (party_field p)) [
        | inr refused ↦ rw refused.1 tt
        | inl party ↦ rw party.1 (
            elim (outcome (party_field q)) [
              | inr refused ↦ rw refused.1 tt
              | inl other ↦ rw other.1 (
                  elim (outcome (number_field k)) [
                    | inr refused ↦ rw refused.1 tt
                    | inl lines ↦ rw lines.1 (
                        elim (outcome (refuse (nat_lt lines.0 1) bad.Range)) [
                          | inr refused ↦ rw refused.1 tt
                          | inl some ↦ rw some.1 (
                              bounds bytes a b (q ∷ k ∷ []) slices
                              )
                        ])
                  ])
            ])
      ]
  await_slices p (q ∷ k ∷ more ∷ others) slices = tt

  act_slices : (word : Verb) (p : Part) (arguments : List Part) → AreSlices bytes a b arguments → IfOk (act_line word p arguments) (SaysSlices bytes a b)
  act_slices verb.Alloc p arguments slices = alloc_slices bytes a b p arguments slices
  act_slices verb.Zone p arguments slices = zone_slices bytes a b p arguments slices
  act_slices verb.Resize p arguments slices = resize_slices bytes a b p arguments slices
  act_slices (verb.Name call) p arguments slices = name_slices bytes a b call p arguments slices
  act_slices (verb.Member call) p arguments slices = member_slices call p arguments slices
  act_slices verb.Add p arguments slices = add_slices bytes a b p arguments slices
  act_slices (verb.Range call) p arguments slices = range_slices bytes a b call p arguments slices
  act_slices verb.Limit p arguments slices = limit_slices p arguments slices
  act_slices verb.Unlimit p arguments slices = unlimit_slices p arguments slices
  act_slices verb.Await p arguments slices = await_slices p arguments slices

  participant_slices : (p : Part) (others : List Part) → AreSlices bytes a b others → IfOk (participant_line p others) (SaysSlices bytes a b)
  unfolding participant_line
  participant_slices p [] slices = tt
  participant_slices p (word ∷ arguments) slices =
      elim (outcome (ok_or (verb_named word) bad.Verb)) [
        | inr refused ↦ rw refused.1 tt
        | inl word_is ↦ rw word_is.1 (
            act_slices word_is.0 p arguments (skip bytes a b word arguments slices))
      ]

  setup_slices : (word : Part) (arguments : List Part) → a ≤ b → IfOk (setup_line word arguments) (SaysSlices bytes a b)
  unfolding setup_line
  setup_slices word arguments le =
      elim (outcome (ok_or (setup_named word) bad.Verb)) [
        | inr refused ↦ rw refused.1 tt
        | inl word_is ↦ rw word_is.1 (
            elim (outcome (setup_act word_is.0 arguments)) [ inr refused ↦ rw refused.1 tt | inl setup_is ↦ rw setup_is.1 le ])
      ]

  either : (test : Bool) (some other : Result Shape BadKind) → IfOk some (SaysSlices bytes a b) → IfOk other (SaysSlices bytes a b) → IfOk (cond test some other) (SaysSlices bytes a b)
  either true some other first second = first
  either false some other first second = second

  -- the tokens of what a line says are slices, where its fields are
  pub said_slices : (fields : List Part) → AreSlices bytes a b fields → IfOk (shape_of fields) (SaysSlices bytes a b)
  said_slices [] slices = tt
  said_slices (first ∷ others) slices =
      either (is_participant_line first) (participant_line first others) (setup_line first others)
      (participant_slices first others (skip bytes a b first others slices)) (setup_slices first others (bounds bytes a b (first ∷ others) slices))
