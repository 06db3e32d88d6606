use Rattle.std.proofs.Common.{refl}
use Rattle.reading.proofs.steps.read_recording.Goals as goal

pub write_steps-outcome-requires : goal.write_steps-outcome-requires
write_steps-outcome-requires c =
    (record { times = c.if-times-room.false; marks = c.if-marks-room.false; ticks = c.if-ticks-room.false }, refl)
