-- How far `all_hold` has come: what is left to look at.
use Rattle.std.proofs.Common.{◌≡◌, length}
use Rattle.std.specs.Iterator.Adapters.{zip_first, zip_second}
use Rattle.std.specs.Slice.Iter.{iter_rest}
use Rattle.text.specs.Limit.{all_hold}
use Rattle.spelling.proofs.limits.all_hold.Given as goal

abbrev pub invariant-loop-l : goal.invariant-loop-l
invariant-loop-l l =
    let table = iter_rest (zip_first l.l-iterator) in
    let numbers = iter_rest (zip_second l.l-iterator) in
    (length table ≡ length numbers)
    × (all_hold l.table 0 l.numbers ≡ all_hold table l.last numbers)
