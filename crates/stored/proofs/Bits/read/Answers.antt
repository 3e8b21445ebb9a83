use native.Mathlib.Omega.{arith}
use Rattle.std.proofs.Common.{rules}
use Rattle.answers.specs.Samples.{unsigned_integer, signed_integer, single_float, double_float}
use Rattle.stored.specs.declared.Stored.TheVariants as stored
use Rattle.stored.proofs.Storing.{mapped, unsigned_read, signed_read, single_read, double_read}
use Rattle.stored.proofs.Types.{unsigned_type, signed_type, single_type, double_type, low_type, high_type, read_as, unread}
use Rattle.stored.proofs.Bits.read.Goals as goal

pub returns-in-0 : goal.returns-in-0
returns-in-0 c = λ field.
    let e = mapped stored.Unsigned _ c.map.result (search rules) in
    read_as unsigned_integer _ (unsigned_type _ c.in-0.is) c.byte_order-order.ensures (rw e (unsigned_read _ _ _ _ field _ c.number.ensures))

pub returns-in-1 : goal.returns-in-1
returns-in-1 c = λ field.
    read_as signed_integer _ (signed_type _ c.in-1.is) c.byte_order-order.ensures (signed_read _ _ _ _ field _ c.map-in-1.result c.number-in-1.ensures (search rules))

pub returns-in-2 : goal.returns-in-2
returns-in-2 c = λ field.
    let e = mapped stored.Single _ c.map-in-2.result (search rules) in
    read_as single_float _ (single_type _ c.in-2.is) c.byte_order-order.ensures (rw e (single_read _ _ _ _ field _ c.float.ensures))

pub returns-in-3 : goal.returns-in-3
returns-in-3 c = λ field.
    let e = mapped stored.Double _ c.map-in-3.result (search rules) in
    read_as double_float _ (double_type _ c.in-3.is) c.byte_order-order.ensures (rw e (double_read _ _ _ _ field _ c.float-in-3.ensures))

pub returns-in_default : goal.returns-in_default
returns-in_default c = λ field. unread (low_type _ c.in_default.in_default-own.rest (omega arith))

pub returns-in_default-2 : goal.returns-in_default-2
returns-in_default-2 c = λ field. unread (high_type _ c.in_default.in_default-own.rest (omega arith))
