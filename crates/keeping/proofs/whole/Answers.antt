-- `whole` meets its contract.
use Rattle.std.proofs.Common.{◌≡◌, ◌/◌, length, arith}
use lib.Seq.{take_all}
use Rattle.memory.specs.Layout.{register_words}
use Rattle.keeping.proofs.whole.Goals as goal

pub returns : goal.returns
returns c =
    let one : length c.args.mem.now / register_words ≡ 1 = omega arith in
    rw (c.as_chunks.ensures.front, one) (take_all register_words c.args.mem.now (omega arith))
