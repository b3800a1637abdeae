-- Limits of the common kinds, as inequalities: a range, and a count of the number before it.
use mathlib.Core.Path.{◌≡◌}
use mathlib.Core.Bool.{true, ◌&&◌}
use Prim.Native.Nat.{ℕ, ◌*◌, ◌≤◌}
use borrow.Author.Tests.{leb-true, le-leb}
use lib.Dec.{leb}
use Rattle.ground.proofs.Booleans.{both_hold}
use Rattle.text.specs.Limit.{ranging, ranging_count, holds}

pub record Between (low high n : ℕ) : Type 0 where
  pub least : low ≤ n
  pub most : n ≤ high

module _ (low high last n : ℕ) where
  pub ranging_between : holds (ranging low high) last n ≡ true → Between low high n
  ranging_between h =
      let p = both_hold (leb low n) (leb n high && true) h in
      record { least = leb-true low n p.0; most = leb-true n high (both_hold (leb n high) true p.1).0 }

  pub between_ranging : low ≤ n → n ≤ high → holds (ranging low high) last n ≡ true
  between_ranging a b = rw (le-leb low n a, le-leb n high b)

-- a count, and what it makes of the number before it
pub record Counted (low high top last n : ℕ) : Type 0 where
  pub least : low ≤ n
  pub most : n ≤ high
  pub product : last * n ≤ top

module _ (low high top last n : ℕ) where
  pub count_counted : holds (ranging_count low high top) last n ≡ true → Counted low high top last n
  count_counted h =
      let p = both_hold (leb low n) (leb n high && leb (last * n) top) h in
      let q = both_hold (leb n high) (leb (last * n) top) p.1 in
      record {
        least = leb-true low n p.0;
        most = leb-true n high q.0;
        product = leb-true (last * n) top q.1;
      }

  pub counted_count : Counted low high top last n → holds (ranging_count low high top) last n ≡ true
  counted_count c = rw (le-leb low n c.least, le-leb n high c.most, le-leb (last * n) top c.product)
