use Rattle.image.proofs.Numbers.{read_count, read_whole, read_room, width_most}
use native.Mathlib.Omega.{arith}
use lib.ListN.{length}
use mathlib.Core.Path.{◌∙◌}
use Rattle.image.proofs.number_of.Goals as goal

pub overflow_mul-v : goal.overflow_mul-v
overflow_mul-v c =
    let l = c.loop-x in
    let t = read_room l.x-iterator.iter.rest.now _ c.args.bytes.now _ l.yielded l.v c.in-Some.ensures.steps l.invariant.0 c.requires l.invariant.2 in
    omega (arith, t)

pub overflow_add-v : goal.overflow_add-v
overflow_add-v c =
    let l = c.loop-x in
    let t = read_room l.x-iterator.iter.rest.now _ c.args.bytes.now _ l.yielded l.v c.in-Some.ensures.steps l.invariant.0 c.requires l.invariant.2 in
    omega (arith, t)

pub returns : goal.returns
returns c =
    let l = c.loop-x in
    let left = l.x-iterator.iter.rest.now in
    let f = read_count left c.args.bytes.now l.yielded l.invariant.0 in (
      l.invariant.1 ∙ read_whole left c.args.bytes.now l.yielded c.in-None.ensures.steps.0 l.invariant.0,
      width_most (length c.args.bytes.now) (length l.yielded) l.v (omega (arith, f)) l.invariant.2,
    )
