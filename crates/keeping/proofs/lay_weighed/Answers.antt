-- `lay_weighed` meets its contract.
use Rattle.std.proofs.Common.{length, refl, ◌∙◌, arith}
use Rattle.std.proofs.lemmas.Slice.{put_mid-paste}
use Rattle.keeping.proofs.Writes.{weighed_laid}
use Rattle.keeping.proofs.lay_weighed.Goals as goal

pub returns : goal.returns
returns c =
    put_mid-paste _ _ _ _ c.args.sheet.now (length c.args.sheet.now) c.copy_from_slice.ensures.after (omega arith) refl
    ∙ weighed_laid c.args.mem.now c.args.sheet.now c.args.at c.args.weight (omega arith)
