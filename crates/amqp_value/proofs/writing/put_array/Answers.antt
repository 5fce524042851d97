use Rattle.std.proofs.Common.{◌≡◌, ℕ, ◌∷◌, ◌++◌, [], length, ap, ◌∙◌}
use Rattle.amqp_data.specs.View.{items_view}
use Rattle.amqp_value.specs.Code.{scalar_number, array_number}
use Rattle.amqp_value.specs.Writing.{head}
use Rattle.amqp_value.proofs.ArrayItems.{are_behind, have_room}
use Rattle.amqp_value.proofs.Written.{elements_sized, elements_fit, array_limits, array_put}
use Rattle.amqp_value.proofs.writing.put_array.Goals as goal

pub elements_length-size-requires-clause-behind : goal.elements_length-size-requires-clause-behind
elements_length-size-requires-clause-behind c = rw c.element_code-code.ensures (are_behind c.args.kind (items_view c.args.values.now) c.requires.kinds)

pub elements_length-size-requires-clause-sized : goal.elements_length-size-requires-clause-sized
elements_length-size-requires-clause-sized c = elements_sized c.args.kind (items_view c.args.values.now) c.requires.writable

pub elements_length-size-requires-clause-short : goal.elements_length-size-requires-clause-short
elements_length-size-requires-clause-short c = rw c.element_code-code.ensures (elements_fit c.args.kind (items_view c.args.values.now) c.requires.writable)

pub put_head-requires-clause-counted : goal.put_head-requires-clause-counted
put_head-requires-clause-counted c =
    rw c.compound_width-width.ensures (let h = array_limits c.elements_length-size.result c.element_code-code.result c.args.values.now c.elements_length-size.ensures in h.few)

pub put_elements-requires-clause-behind : goal.put_elements-requires-clause-behind
put_elements-requires-clause-behind c = rw c.element_code-code.ensures (are_behind c.args.kind (items_view c.args.values.now) c.requires.kinds)

pub put_elements-requires-clause-room : goal.put_elements-requires-clause-room
put_elements-requires-clause-room c =
    rw c.element_code-code.ensures (have_room c.args.kind (items_view c.args.values.now) (elements_sized c.args.kind (items_view c.args.values.now) c.requires.writable))

pub returns : goal.returns
returns c =
    let w = c.compound_width-width.result in
    let started : c.put_head.new.out ≡ c.args.out.now ++ head (array_number w) w (length c.args.values.now) c.elements_length-size.result =
    c.in_ok-put_head.ensures ∙ ap (λ (z : ℕ). c.args.out.now ++ head z w (length c.args.values.now) c.elements_length-size.result) c.array_byte.ensures in
    let pushed : c.push.new.self ≡ c.put_head.new.out ++ scalar_number c.element_code-code.result ∷ [] =
    c.in_ok-push.ensures.ok ∙ ap (λ (z : ℕ). c.put_head.new.out ++ z ∷ []) c.byte.ensures in
    array_put c.args.out.now c.put_head.new.out c.push.new.self c.put_elements.new.out c.elements_length-size.result w c.args.kind c.element_code-code.result c.args.values.now c.element_code-code.ensures c.elements_length-size.ensures c.compound_width-width.ensures started pushed c.in_ok-put_elements.ensures
