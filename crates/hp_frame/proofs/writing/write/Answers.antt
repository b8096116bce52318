use Rattle.std.proofs.Common.{◌≡◌, ap, ◌∙◌}
use Rattle.hp_frame.specs.Spelling.{kind_of, byte_of, param_len_of, spelling}
use Rattle.hp_frame.proofs.PartLemmas.{Puts-then, IsWritten, IsWritten-from}
use Rattle.hp_frame.proofs.writing.write.Goals as goal

-- the whole spelling stands at the front
whole : (c : goal.After-put_param) → IsWritten c.args.out.now (spelling c.args.msg.now) c.put_param.new.out c.put_param.result
whole c =
    let lens = Puts-then (Puts-then c.put_u8-at.ensures c.put_u8-at-2.ensures) c.put_u16-at.ensures in
    let all = Puts-then (Puts-then lens c.put-at.ensures) c.put_param.ensures.param in
    let kind_is : c.byte.result ≡ byte_of (kind_of c.args.msg.now.body) = c.byte.ensures ∙ ap byte_of c.kind-kind.ensures in
    let param_len_is : c.from.result ≡ param_len_of (kind_of c.args.msg.now.body) = c.from.ensures ∙ c.param_len.ensures ∙ ap param_len_of c.kind-kind.ensures in
    rw (← kind_is, ← param_len_is, ← c.as_bytes-name.ensures.text) (IsWritten-from _ _ _ _ all)

pub returns-clause-front : goal.returns-clause-front
returns-clause-front c =
    record {
      has_spelling = record { name = c.as_bytes-name.ensures.accepted; valid = c.requires.valid; widths = c.put_param.ensures.widths };
      is_spelling = (whole c).front;
    }

pub returns-clause-behind : goal.returns-clause-behind
returns-clause-behind c = (whole c).behind
