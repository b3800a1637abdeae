-- 01, How tight the promises are: a promise settles a call's answer and each lent byte after it.
use Rattle.std.specs.Prelude.{◌≡◌}

-- the call answered r and left the lent buffers at `left`; the promise allows this answer and these buffers alone
pub record Settled {A B : Type 0} (answer : A) (buffers : B) (r : A) (left : B) : Type 0 where
  pub answered : r ≡ answer
  pub kept : left ≡ buffers
