-- A line added to the text that stands at a page's start.
use mathlib.Core.Path.{◌≡◌, sym, ap, ◌∙◌}
use mathlib.Core.List.{List, ◌++◌, append_assoc}
use Prim.Native.Nat.{ℕ, ◌+◌, ◌-◌, ◌≤◌}
use native.Mathlib.Omega.{arith}
use lib.ListN.{length, take, drop, length-append, length-drop}
use lib.Seq.{length-take-le, take_all, take_at}
use Rattle.ground.proofs.Stores.{sets_start}
use Rattle.text.specs.Line.{Laid}

-- the first len of n bytes are so, and bs went into the others, which come back as ys
pub added : (bs bytes : List ℕ) (len : ℕ) {n r : ℕ} {so ys : List ℕ}
    → length bytes ≡ n
    → len ≤ n
    → take len bytes ≡ so
    → length so + length bs ≤ n
    → Laid bs (take (n - len) (drop len bytes)) 0 r ys
    → take (len + r) (take len bytes ++ (ys ++ drop (n - len) (drop len bytes))) ≡ so ++ bs
added bs bytes len {n} {r} {so} {ys} full within e room p =
    let left : List ℕ = drop len bytes in
    let rest : List ℕ = drop (length bs) left ++ drop (n - len) left in
    let many : len ≡ length so = sym (length-take-le len bytes (omega arith)) ∙ ap length e in
    let q : ys ≡ bs ++ drop (length bs) left =
    p.laid
    ∙ rw (take_all (n - len) left (omega (arith, length-drop len bytes)))
    (sets_start left bs (omega (arith, length-drop len bytes))) in
    let whole : take len bytes ++ (ys ++ drop (n - len) left) ≡ (so ++ bs) ++ rest =
    rw (e, q, append_assoc bs (drop (length bs) left) (drop (n - len) left), append_assoc so bs rest) in
    let end : length (so ++ bs) ≡ len + r = omega (arith, p.end, length-append so bs) in
    ap (take (len + r)) whole ∙ take_at (so ++ bs) rest (len + r) end
