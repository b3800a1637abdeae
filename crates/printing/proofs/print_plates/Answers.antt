-- `print_plates` meets its contract.
use mathlib.Core.Path.{refl, sym}
use lib.Seq.{length-take-le}
use Rattle.printout.proofs.PrintCall.{print_most, print_in, settled_short, settled_print}
use Rattle.printout.proofs.Most.{printed_most}
use native.Mathlib.Omega.{arith}
use Rattle.printing.proofs.print_plates.Goals as goal

pub lay_printed-len-requires : goal.lay_printed-len-requires
lay_printed-len-requires c = printed_most c.args.input.now

pub returns-then-out-len : goal.returns-then-out-len
returns-then-out-len c =
    settled_short c.args.input.now c.args.out.now c.lay_printed-len.ensures
    c.if-out-len.true

pub slice_bounds-bytes-end : goal.slice_bounds-bytes-end
slice_bounds-bytes-end c =
    print_in c.args.input.now c.args.out.now c.lay_printed-len.ensures refl

pub slice_bounds-write_bytes-end : goal.slice_bounds-write_bytes-end
slice_bounds-write_bytes-end c =
    sym (length-take-le _ _ (print_in c.args.input.now c.args.out.now
    c.lay_printed-len.ensures refl))

pub overflow_cast-result : goal.overflow_cast-result
overflow_cast-result c =
    omega (arith, print_most c.args.input.now c.args.out.now c.lay_printed-len.ensures)

pub returns : goal.returns
returns c =
    settled_print c.args.input.now c.args.out.now c.lay_printed-len.ensures refl
    c.if-out-len.false
    c.write_bytes.ensures
