-- `order_into` meets its contract past the checks: the order of the records that the numbers stand for.
use Rattle.std.proofs.Common.{◌∙◌, ap₂, sym, Ok, Err}
use Rattle.monitor_c.specs.Numbers.{padded}
use Rattle.order.specs.Order.{order_told, order_of}
use Rattle.monitor_c.proofs.CallLaws.{ordered}
use Rattle.monitor_c.proofs.calls.order_into.Goals as goal

pub returns-in-Ok : goal.returns-in-Ok
unfolding padded
returns-in-Ok c =
    let s = c.args in
    rw (c.put_answer.ensures, c.len.ensures.value, c.put_order.ensures, c.as_slice.ensures.value)
    (ordered s.records.now s.named s.clocks s.answer.now s.order.now (sym c.room.ensures ∙ c.in_ok-room.was) (sym c.shape.ensures ∙ c.in_ok-shape.was)
    (sym c.room-2.ensures ∙ c.in_ok-room-2.was) (order_told (Ok c.in-Ok.listed)) (c.in-Ok.ensures ∙ ap₂ order_of c.clocks_of.ensures (c.as_slice-records.ensures.value ∙ c.records_of-read.ensures)))

pub returns-in-Err : goal.returns-in-Err
unfolding padded
returns-in-Err c =
    let s = c.args in
    rw (c.put_answer-in-Err.ensures, c.into.ensures, c.put_order-in-Err.ensures)
    (ordered s.records.now s.named s.clocks s.answer.now s.order.now (sym c.room.ensures ∙ c.in_ok-room.was) (sym c.shape.ensures ∙ c.in_ok-shape.was)
    (sym c.room-2.ensures ∙ c.in_ok-room-2.was) (order_told (Err c.in-Err.refusal)) (c.in-Err.ensures ∙ ap₂ order_of c.clocks_of.ensures (c.as_slice-records.ensures.value ∙ c.records_of-read.ensures)))
