-- `write_bytes` meets its contract.
use Rattle.std.proofs.Common.{◌∙◌, arith}
use Rattle.ground.proofs.Stores.{sets_more, sets_fit}
use Rattle.spelling.proofs.bytes.write_bytes.Goals as goal

pub loop-i-preserved : goal.loop-i-preserved
loop-i-preserved c = rw c.loop-i.invariant (sets_more c.args.out.now c.args.bytes.now c.loop-i.i (omega arith))

pub returns : goal.returns
returns c = c.loop-i.invariant ∙ sets_fit c.args.out.now c.args.bytes.now c.loop-i.i (omega arith)
