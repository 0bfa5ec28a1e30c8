use Rattle.std.proofs.Common.{◌^◌, ◌<◌, arith, length-take, length-drop}
use Rattle.trace_format.proofs.Patterns.{high_fits}
use Rattle.trace_format.proofs.payload.+decode_low_bytes.Goals as goal

pub overflow_mul-result : goal.overflow_mul-result
overflow_mul-result t c =
    let fits : c.decode_low_bytes.result < 2 ^ 56 = high_fits _ _ c.decode_low_bytes.ensures.bound (simp (length-take, length-drop) (omega arith)) in
    omega (arith, fits)

pub overflow_add-result : goal.overflow_add-result
overflow_add-result t c =
    let fits : c.decode_low_bytes.result < 2 ^ 56 = high_fits _ _ c.decode_low_bytes.ensures.bound (simp (length-take, length-drop) (omega arith)) in
    let low = c.type_inv.bytes 0 in
    omega (arith, fits, low)
