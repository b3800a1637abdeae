-- 02 (i), Plate U (001, 33 CFR 183.33, 183.35 and 183.37): the pounds that a hull may carry, rounded down. The
-- displacement is Z, the net volume as water. Every figure
-- is over whole numbers and may be below zero. 02 (vii): M is handed in, so that all is by a weight m and a sheet s.
use Rattle.std.specs.Prelude.{ℕ, ◌+◌, ◌*◌, cond, List, eqb, ltb, ℤ, pos, ◌-ℤ◌, ◌*ℤ◌}
use Rattle.answers.specs.Answer.{Answer}
use Rattle.answers.specs.Answer.{Refused, Count}
use Rattle.answers.specs.Refusals.{no_load}
use Rattle.capacity.specs.Whole.{floor_div, is_below, greatest, or_zero}
use Rattle.capacity.specs.Words.{fuel, machinery, outboard, declared}
use Rattle.capacity.specs.Volume.{gram, net_z}

-- ---- the figures

-- `times` / `out_of` of what the displacement has above `less_grams`
pub record Figure : Type 0 where
  pub less_grams : ℕ
  pub times : ℕ
  pub out_of : ℕ

abbrev pub figure : ℕ → ℕ → ℕ → Figure
figure w a b = record { less_grams = w; times = a; out_of = b }

-- boat weight: bare boat, fittings and permanent tanks with fuel
abbrev pub boat_b : ℕ → List ℕ → ℕ
boat_b m s = m + fuel s

-- 183.35, outboards: (displacement − boat weight) / 5
abbrev pub outboard_fifth : ℕ → List ℕ → Figure
outboard_fifth m s = figure (boat_b m s) 1 5

-- 183.37, outboards of two horsepower or less: 3 × (displacement − boat weight) / 10, and the tanks are no part of
-- the boat weight
abbrev pub outboard_tenths : ℕ → Figure
outboard_tenths m = figure m 3 10

-- 183.33, inboards: (displacement − boat weight − 4 × machinery weight) / 5, and (displacement − boat weight) / 7
abbrev pub inboard_fifth : ℕ → List ℕ → Figure
inboard_fifth m s = figure (boat_b m s + 4 * machinery s) 1 5

abbrev pub inboard_seventh : ℕ → List ℕ → Figure
inboard_seventh m s = figure (boat_b m s) 1 7

-- ---- which of them apply

-- what a load is held to: the one figure that a hull has, or the greater of its two
pub data Rule : Type 0 where
  only_one : Figure → Rule
  greater_of : Figure → Figure → Rule

-- the last whole watt within two horsepower, 1491.4 W
abbrev pub two_horses : ℕ
two_horses = 1491

unfoldable pub rule_u : ℕ → List ℕ → Rule
rule_u m s =
    cond (eqb (outboard s) 1)
    (cond (ltb two_horses (declared s)) (only_one (outboard_fifth m s)) (only_one (outboard_tenths m)))
    (greater_of (inboard_fifth m s) (inboard_seventh m s))

-- ---- in pounds

-- a pound is 453.59237 g: so many hundred-thousandths of a gram
abbrev pub finer : ℕ
finer = 100000

abbrev pub pound_fine : ℕ
pound_fine = 45359237

-- a figure is a fraction of pounds, unreduced: 100000 × times × (Z − 180000 × less_grams) over out_of × 180000 × 45359237
abbrev pub dividend_u : List ℕ → Figure → ℤ
dividend_u s f = pos (f.times * finer) *ℤ (net_z s -ℤ pos gram *ℤ pos f.less_grams)

abbrev pub divisor_u : Figure → ℕ
divisor_u f = f.out_of * (gram * pound_fine)

-- the largest whole number not above it
abbrev pub pounds : List ℕ → Figure → ℤ
pounds s f = floor_div (dividend_u s f) (divisor_u f)

abbrev pub pounds_by : List ℕ → Rule → ℤ
pounds_by s (only_one f) = pounds s f
pounds_by s (greater_of f g) = greatest (pounds s f) (pounds s g)

unfoldable pub marked_u : ℕ → List ℕ → ℤ
marked_u m s = pounds_by s (rule_u m s)

-- ---- the plate

unfoldable pub plate_u : ℕ → List ℕ → Answer
plate_u m s = cond (is_below (marked_u m s) 1) (Refused no_load) (Count (or_zero (marked_u m s)))
