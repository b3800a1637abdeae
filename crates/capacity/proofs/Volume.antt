-- Laws of the volume: a station's readings, its product, and N by a running total.
use mathlib.Core.Path.{◌≡◌, refl, sym, ap, ◌∙◌}
use mathlib.Core.List.{List, [], ◌∷◌, map}
use Prim.Native.Nat.{ℕ, zero, suc, ◌+◌, ◌*◌, ◌≤◌, ◌<◌}
use native.Mathlib.Nat.{mul-add, mul-le-mul}
use native.Mathlib.Numerals.{add-one, add-two, add-three, add-four, add_five, add_six}
use native.Mathlib.Omega.{arith}
use lib.ListN.{length, get_or, take, drop, replicate}
use lib.Seq.{drop-cons}
use Rattle.capacity.specs.Words.{reference, station}
use Rattle.capacity.specs.Volume.{station_product, summed, volume_n}
use Rattle.capacity.specs.Highs.{breadth_high, depth_high, Readings}

pub seven : (l : List ℕ) (j : ℕ) → j + 7 ≤ length l
    → get_or l j 0 ∷ get_or l (j + 1) 0 ∷ get_or l (j + 2) 0 ∷ get_or l (j + 3) 0 ∷ get_or l (j + 4) 0 ∷ get_or l (j + 5) 0
    ∷ get_or l (j + 6) 0 ∷ [] ≡ take 7 (drop j l)
seven l j h =
    let a : j < length l = omega arith in
    let b : suc j < length l = omega arith in
    let c : suc (suc j) < length l = omega arith in
    let d : suc (suc (suc j)) < length l = omega arith in
    let e : suc (suc (suc (suc j))) < length l = omega arith in
    let f : suc (suc (suc (suc (suc j)))) < length l = omega arith in
    let g : suc (suc (suc (suc (suc (suc j))))) < length l = omega arith in
    rw (
      add-one j,
      add-two j,
      add-three j,
      add-four j,
      add_five j,
      add_six j,
      drop-cons l j 0,
      drop-cons l (suc j) 0,
      drop-cons l (suc (suc j)) 0,
      drop-cons l (suc (suc (suc j))) 0,
      drop-cons l (suc (suc (suc (suc j)))) 0,
      drop-cons l (suc (suc (suc (suc (suc j))))) 0,
      drop-cons l (suc (suc (suc (suc (suc (suc j)))))) 0,
    )

-- nothing is rounded: each millimetre of each depth counts exactly its share of B
pub product_exact : (b q r s t u v i j k l m n : ℕ)
    → station_product (b ∷ (q + i) ∷ (r + j) ∷ (s + k) ∷ (t + l) ∷ (u + m) ∷ (v + n) ∷ [])
    ≡ station_product (b ∷ q ∷ r ∷ s ∷ t ∷ u ∷ v ∷ []) + b * (i + 4 * j + 2 * k + 4 * l + 2 * m + 2 * n)
unfolding station_product
product_exact b q r s t u v i j k l m n =
    let x : ℕ = q + 4 * r + 2 * s + 4 * t + 2 * u + 2 * v in
    let y : ℕ = i + 4 * j + 2 * k + 4 * l + 2 * m + 2 * n in
    let e : (q + i) + 4 * (r + j) + 2 * (s + k) + 4 * (t + l) + 2 * (u + m) + 2 * (v + n) ≡ x + y = omega arith in
    ap (λ (z : ℕ). b * z) e ∙ mul-add b x y

-- at the most, each depth counts with all the shares there are
abbrev pub product_most : ℕ
product_most = breadth_high * (15 * depth_high)

pub product_most_lem : (l : List ℕ) → Readings l → station_product l ≤ product_most
unfolding station_product
product_most_lem l r = mul-le-mul {n₂ = breadth_high} {m₂ = 15 * depth_high} r.b (omega arith)

-- ---- N, one station at a time

-- the total once so many stations have added their shares, of the product that each has: Q and S count four times, R
-- twice, T once
unfoldable pub running_total : (ℕ → ℕ) → ℕ → ℕ
running_total product zero = 0
running_total product (suc i) = running_total product i + get_or (4 ∷ 2 ∷ 4 ∷ 1 ∷ []) i 0 * product i

-- that of all four, written out as the volume step makes it
pub shares_added : (product : ℕ → ℕ)
    → 4 * product 0 + 2 * product 1 + 4 * product 2 + product 3 ≡ running_total product 4
unfolding running_total
shares_added product = omega arith

-- times the reference length it is what N is made by
pub total_summed : (ref : ℕ) (product : ℕ → ℕ)
    → ref * running_total product 4 ≡ summed ref (product 0) (product 1) (product 2) (product 3)
total_summed ref product = ap (λ (x : ℕ). ref * x) (sym (shares_added product))

-- and so it is N, of a sheet
pub total_is_n : (s : List ℕ) → reference s * running_total (λ (i : ℕ). station_product (station s i)) 4 ≡ volume_n s
unfolding volume_n
total_is_n s = total_summed (reference s) (λ (i : ℕ). station_product (station s i))

-- the totals one after the other, of products that tell the stations apart
totals_right :
    map (running_total (λ (i : ℕ). get_or (1 ∷ 10 ∷ 100 ∷ 1000 ∷ []) i 0)) (0 ∷ 1 ∷ 2 ∷ 3 ∷ 4 ∷ []) ≡ 0 ∷ 4 ∷ 24 ∷ 424
    ∷ 1424 ∷ []
unfolding running_total
totals_right = refl

-- each depth and each station by its own factor, and N of the largest hull that a sheet can have
shares_right :
    (map station_product ((1 ∷ 1 ∷ 10 ∷ 100 ∷ 1000 ∷ 10000 ∷ 100000 ∷ []) ∷ (1 ∷ []) ∷ []) ≡ 224241 ∷ 0 ∷ [])
    × (summed 1 1 10 100 1000 ≡ 1424) × (station_product (4000 ∷ replicate 6 2500) ≡ 150000000)
    × (summed 6000 150000000 150000000 150000000 150000000 ≡ 9900000000000)
unfolding station_product
shares_right = (refl, refl, refl, refl)
