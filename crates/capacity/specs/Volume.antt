-- 01, Volume and weights: the product of each station, N of the four, and Z, which has aft structure, motor well and
-- flooding chambers too. Nothing is rounded.
use Rattle.std.specs.Prelude.{ℕ, ◌+◌, ◌*◌, List, [], ◌∷◌, get_or, ℤ, pos, ◌+ℤ◌, ◌-ℤ◌, ◌*ℤ◌}
use Rattle.capacity.specs.Words.{reference, station, aft, well, flooding}

-- fifteen times a station's area, of its seven readings B q r s t u v
unfoldable pub station_product : List ℕ → ℕ
station_product l =
    get_or l 0 0 * (get_or l 1 0 + 4 * get_or l 2 0 + 2 * get_or l 3 0 + 4 * get_or l 4 0 + 2 * get_or l 5 0 + 2 * get_or l 6 0)

-- N, of the products of the four stations
abbrev pub summed : ℕ → ℕ → ℕ → ℕ → ℕ → ℕ
summed ref q r s t = ref * (4 * q + 2 * r + 4 * s + t)

-- N of the readings of four stations
abbrev pub stations_n : ℕ → List (List ℕ) → ℕ
stations_n ref ls =
    summed ref (station_product (get_or ls 0 [])) (station_product (get_or ls 1 []))
    (station_product (get_or ls 2 [])) (station_product (get_or ls 3 []))

unfoldable pub volume_n : List ℕ → ℕ
volume_n s = stations_n (reference s) (station s 0 ∷ station s 1 ∷ station s 2 ∷ station s 3 ∷ [])

-- N/180 is cubic millimetres, of which a thousand are a cubic centimetre, a gram of water
abbrev pub gram : ℕ
gram = 180000

-- grams of water, times 180000; it may be below zero
unfoldable pub net_z : List ℕ → ℤ
net_z s = pos (volume_n s) +ℤ pos gram *ℤ (pos (aft s) -ℤ pos (well s) -ℤ pos (flooding s))
