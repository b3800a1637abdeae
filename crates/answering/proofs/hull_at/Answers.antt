-- `hull_at` meets its contract.
use Rattle.std.proofs.Common.{sym, ◌∙◌, arith}
use Rattle.memory.proofs.Sound.{sound}
use Rattle.answering.proofs.hull_at.Goals as goal

pub of-requires : goal.of-requires
of-requires c =
    let s = sound c.args.mem.now (sym c.is_formed.ensures ∙ c.if-not-is_formed.false) in
    record { size = s.size; hull = omega (arith, s.few, c.if-hull-mem.false) }
