-- `add` meets its contract.
use Rattle.writing.proofs.Added.{added}
use Rattle.writing.proofs.page.Page.add.Goals as goal

pub returns : goal.returns
returns c =
    added _ c.self.inside.bytes c.self.inside.len c.self.told c.self.invariant c.self.view_is c.requires.room
    c.write_line-len.ensures
