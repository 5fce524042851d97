use Rattle.std.proofs.Common.{[], sym, ap, subst, ◌∙◌}
use Rattle.std.specs.Prelude.{List, ℕ, Some, Ok}
use Rattle.amqp_described.specs.amqp_composites.declared.kind.CompositeKind.TheVariants as kind
use Rattle.amqp_performatives.specs.declared.performative.Performative.TheVariants as p
use Rattle.amqp_performatives.specs.Open.{open_fields}
use Rattle.amqp_performatives.specs.Begin.{begin_fields}
use Rattle.amqp_performatives.specs.Attach.{attach_fields}
use Rattle.amqp_performatives.specs.Flow.{flow_fields}
use Rattle.amqp_performatives.specs.Transfer.{transfer_fields}
use Rattle.amqp_performatives.specs.Disposition.{disposition_fields}
use Rattle.amqp_performatives.specs.Detach.{detach_fields}
use Rattle.amqp_performatives.specs.End.{end_fields}
use Rattle.amqp_performatives.specs.Close.{close_fields}
use Rattle.amqp_frames.specs.declared.body.FrameBody.{FrameBody}
use Rattle.amqp_frames.specs.declared.body.FrameBody.TheVariants as b
use Rattle.amqp_frames.specs.Body.{SpellsBody, empty', body_values, body_payload, read_again_body}
use Rattle.amqp_described.specs.Bodies.{Encodes}
use Rattle.amqp_described.proofs.BodyWritten.{encodes, no_values}
use Rattle.amqp_frames.proofs.Written.{spells}
use Rattle.amqp_frames.proofs.writing.encode_body.Goals as goal

pub returns-in-Open-clause-bytes : goal.returns-in-Open-clause-bytes
returns-in-Open-clause-bytes c = encodes c.put_alone.result c.open_list.result kind.Open (open_fields c.in-Open.body) [] (body_values c.args.body.now) (body_payload c.args.body.now) (ap body_values c.in-Open.is) (ap body_payload c.in-Open.is) c.put_alone.ensures c.open_list.ensures.list

pub returns-in-Open-clause-spelled : goal.returns-in-Open-clause-spelled
returns-in-Open-clause-spelled c = spells c.put_alone.result c.open_list.result (p.Open c.in-Open.body) [] (read_again_body c.args.body.now) (ap (λ (z : FrameBody). Some (read_again_body z)) (sym c.in-Open.is)) c.put_alone.ensures c.open_list.ensures.list c.open_list.ensures.valid

pub returns-in-Begin-clause-bytes : goal.returns-in-Begin-clause-bytes
returns-in-Begin-clause-bytes c = encodes c.put_alone-in-Begin.result c.begin_list.result kind.Begin (begin_fields c.in-Begin.body) [] (body_values c.args.body.now) (body_payload c.args.body.now) (ap body_values c.in-Begin.is) (ap body_payload c.in-Begin.is) c.put_alone-in-Begin.ensures c.begin_list.ensures.list

pub returns-in-Begin-clause-spelled : goal.returns-in-Begin-clause-spelled
returns-in-Begin-clause-spelled c = spells c.put_alone-in-Begin.result c.begin_list.result (p.Begin c.in-Begin.body) [] (read_again_body c.args.body.now) (ap (λ (z : FrameBody). Some (read_again_body z)) (sym c.in-Begin.is)) c.put_alone-in-Begin.ensures c.begin_list.ensures.list c.begin_list.ensures.valid

pub returns-in-Attach-clause-bytes : goal.returns-in-Attach-clause-bytes
returns-in-Attach-clause-bytes c = encodes c.put_alone-in-Attach.result c.attach_list.result kind.Attach (attach_fields c.in-Attach.body) [] (body_values c.args.body.now) (body_payload c.args.body.now) (ap body_values c.in-Attach.is) (ap body_payload c.in-Attach.is) c.put_alone-in-Attach.ensures c.attach_list.ensures.list

pub returns-in-Attach-clause-spelled : goal.returns-in-Attach-clause-spelled
returns-in-Attach-clause-spelled c = spells c.put_alone-in-Attach.result c.attach_list.result (p.Attach c.in-Attach.body) [] (read_again_body c.args.body.now) (ap (λ (z : FrameBody). Some (read_again_body z)) (sym c.in-Attach.is)) c.put_alone-in-Attach.ensures c.attach_list.ensures.list c.attach_list.ensures.valid

pub returns-in-Flow-clause-bytes : goal.returns-in-Flow-clause-bytes
returns-in-Flow-clause-bytes c = encodes c.put_alone-in-Flow.result c.flow_list.result kind.Flow (flow_fields c.in-Flow.body) [] (body_values c.args.body.now) (body_payload c.args.body.now) (ap body_values c.in-Flow.is) (ap body_payload c.in-Flow.is) c.put_alone-in-Flow.ensures c.flow_list.ensures.list

pub returns-in-Flow-clause-spelled : goal.returns-in-Flow-clause-spelled
returns-in-Flow-clause-spelled c = spells c.put_alone-in-Flow.result c.flow_list.result (p.Flow c.in-Flow.body) [] (read_again_body c.args.body.now) (ap (λ (z : FrameBody). Some (read_again_body z)) (sym c.in-Flow.is)) c.put_alone-in-Flow.ensures c.flow_list.ensures.list c.flow_list.ensures.valid

pub returns-in-Transfer-clause-bytes : goal.returns-in-Transfer-clause-bytes
returns-in-Transfer-clause-bytes c = encodes c.put_fields.result c.transfer_list-fields.result kind.Transfer (transfer_fields c.in-Transfer.body) c.as_slice.result.now (body_values c.args.body.now) (body_payload c.args.body.now) (ap body_values c.in-Transfer.is) (ap body_payload c.in-Transfer.is ∙ sym c.as_slice.ensures) c.put_fields.ensures c.transfer_list-fields.ensures.list

pub returns-in-Transfer-clause-spelled : goal.returns-in-Transfer-clause-spelled
returns-in-Transfer-clause-spelled c = spells c.put_fields.result c.transfer_list-fields.result (p.Transfer c.in-Transfer.body) c.as_slice.result.now (read_again_body c.args.body.now) (ap (λ (z : List ℕ). Some (b.Transfer c.in-Transfer.body z)) c.as_slice.ensures ∙ ap (λ (z : FrameBody). Some (read_again_body z)) (sym c.in-Transfer.is)) c.put_fields.ensures c.transfer_list-fields.ensures.list c.transfer_list-fields.ensures.valid

pub returns-in-Disposition-clause-bytes : goal.returns-in-Disposition-clause-bytes
returns-in-Disposition-clause-bytes c = encodes c.put_alone-in-Disposition.result c.disposition_list-fields.result kind.Disposition (disposition_fields c.in-Disposition.body) [] (body_values c.args.body.now) (body_payload c.args.body.now) (ap body_values c.in-Disposition.is) (ap body_payload c.in-Disposition.is) c.put_alone-in-Disposition.ensures c.disposition_list-fields.ensures.list

pub returns-in-Disposition-clause-spelled : goal.returns-in-Disposition-clause-spelled
returns-in-Disposition-clause-spelled c = spells c.put_alone-in-Disposition.result c.disposition_list-fields.result (p.Disposition c.in-Disposition.body) [] (read_again_body c.args.body.now) (ap (λ (z : FrameBody). Some (read_again_body z)) (sym c.in-Disposition.is)) c.put_alone-in-Disposition.ensures c.disposition_list-fields.ensures.list c.disposition_list-fields.ensures.valid

pub returns-in-Detach-clause-bytes : goal.returns-in-Detach-clause-bytes
returns-in-Detach-clause-bytes c = encodes c.put_alone-in-Detach.result c.detach_list.result kind.Detach (detach_fields c.in-Detach.body) [] (body_values c.args.body.now) (body_payload c.args.body.now) (ap body_values c.in-Detach.is) (ap body_payload c.in-Detach.is) c.put_alone-in-Detach.ensures c.detach_list.ensures.list

pub returns-in-Detach-clause-spelled : goal.returns-in-Detach-clause-spelled
returns-in-Detach-clause-spelled c = spells c.put_alone-in-Detach.result c.detach_list.result (p.Detach c.in-Detach.body) [] (read_again_body c.args.body.now) (ap (λ (z : FrameBody). Some (read_again_body z)) (sym c.in-Detach.is)) c.put_alone-in-Detach.ensures c.detach_list.ensures.list c.detach_list.ensures.valid

pub returns-in-End-clause-bytes : goal.returns-in-End-clause-bytes
returns-in-End-clause-bytes c = encodes c.put_alone-in-End.result c.end_list.result kind.End (end_fields c.in-End.body) [] (body_values c.args.body.now) (body_payload c.args.body.now) (ap body_values c.in-End.is) (ap body_payload c.in-End.is) c.put_alone-in-End.ensures c.end_list.ensures.list

pub returns-in-End-clause-spelled : goal.returns-in-End-clause-spelled
returns-in-End-clause-spelled c = spells c.put_alone-in-End.result c.end_list.result (p.End c.in-End.body) [] (read_again_body c.args.body.now) (ap (λ (z : FrameBody). Some (read_again_body z)) (sym c.in-End.is)) c.put_alone-in-End.ensures c.end_list.ensures.list c.end_list.ensures.valid

pub returns-in-Close-clause-bytes : goal.returns-in-Close-clause-bytes
returns-in-Close-clause-bytes c = encodes c.put_alone-in-Close.result c.close_list.result kind.Close (close_fields c.in-Close.body) [] (body_values c.args.body.now) (body_payload c.args.body.now) (ap body_values c.in-Close.is) (ap body_payload c.in-Close.is) c.put_alone-in-Close.ensures c.close_list.ensures.list

pub returns-in-Close-clause-spelled : goal.returns-in-Close-clause-spelled
returns-in-Close-clause-spelled c = spells c.put_alone-in-Close.result c.close_list.result (p.Close c.in-Close.body) [] (read_again_body c.args.body.now) (ap (λ (z : FrameBody). Some (read_again_body z)) (sym c.in-Close.is)) c.put_alone-in-Close.ensures c.close_list.ensures.list c.close_list.ensures.valid

pub returns-in-Empty-clause-bytes : goal.returns-in-Empty-clause-bytes
returns-in-Empty-clause-bytes c = subst (λ (z : FrameBody). Encodes (Ok c.new.result) (body_values z) (body_payload z)) (sym c.in-Empty.is) (no_values c.new.result c.new.ensures)

pub returns-in-Empty-clause-spelled : goal.returns-in-Empty-clause-spelled
returns-in-Empty-clause-spelled c = subst (λ (z : FrameBody). SpellsBody c.new.result (read_again_body z)) (sym c.in-Empty.is) (subst (λ (z : List ℕ). SpellsBody z b.Empty) (sym c.new.ensures) empty')
