-- Cases of plate U: 02's figures and one beside each number of its rules.
use mathlib.Core.List.{List, [], ◌∷◌}
use lib.ListN.{replicate}
use Rattle.answers.specs.Answer.{Refused, Count}
use Rattle.capacity.specs.Samples.{load, power}
use Rattle.capacity.proofs.Boats.{Told, on_u, massed, stationed, launch}

unfoldable pub cases_u : List Told
cases_u =
    -- 02's figure; and a fitting weighs as the boat does, in 183.37 too
    on_u (massed 1 20000 200000 0 0) (Count 720) ∷ on_u (load 20000 200000 3334) (Count 718)
    ∷ on_u (load 1491 200000 3334) (Count 1078)
    -- two horsepower: 183.37 at 1491 W and below, 183.35 above
    ∷ on_u (massed 1 1492 200000 0 0) (Count 720) ∷ on_u (massed 1 1491 200000 0 0) (Count 1080)
    ∷ on_u (massed 1 0 200000 0 0) (Count 1080)
    -- fuel counts by 183.35 and not by 183.37, machinery by neither
    ∷ on_u (massed 1 20000 200000 20000 0) (Count 711) ∷ on_u (massed 1 1491 200000 20000 0) (Count 1080)
    ∷ on_u (massed 1 1491 200000 20000 50000) (Count 1080) ∷ on_u (massed 1 20000 200000 0 500000) (Count 720)
    -- an inboard by its fifth, at any power, and by its seventh; fuel counts in both
    ∷ on_u (massed 0 20000 200000 0 0) (Count 720) ∷ on_u (massed 0 20000 200000 0 50000) (Count 631)
    ∷ on_u (massed 0 1000 200000 0 50000) (Count 631)
    ∷ on_u (massed 0 0 200000 0 50000) (Count 631) ∷ on_u (massed 0 20000 200000 0 500000) (Count 514)
    ∷ on_u (massed 0 20000 200000 20000 50000) (Count 623) ∷ on_u (massed 0 20000 200000 20000 500000) (Count 508)
    -- about one pound
    ∷ on_u (massed 1 20000 1831065 0 0) (Count 1) ∷ on_u (massed 1 20000 1831066 0 0) (Refused 12)
    -- a flat bottom too small for plate A's table: plate U has nothing to say of it
    ∷ on_u (power 2250 2250 1000 1 0) (Count 366)
    -- each figure at its last gram of a pound, and a gram more, of a boat whose every number differs
    ∷ on_u (launch 1 20000 612621 138000) (Count 1325) ∷ on_u (launch 1 20000 612622 138000) (Count 1324)
    ∷ on_u (launch 1 1491 613042 138000) (Count 2015) ∷ on_u (launch 1 1491 613043 138000) (Count 2014)
    ∷ on_u (launch 0 20000 614004 138000) (Count 1081) ∷ on_u (launch 0 20000 614005 138000) (Count 1080)
    ∷ on_u (launch 0 20000 613982 320000) (Count 946) ∷ on_u (launch 0 20000 613983 320000) (Count 945)
    -- 745 pounds to the last digit, and a gram less; 797 but for the least step that a sheet can make, and a gram more
    ∷ on_u (stationed (9 ∷ 501 ∷ replicate 5 500) 4065 5643) (Count 745)
    ∷ on_u (stationed (9 ∷ 501 ∷ replicate 5 500) 4065 5644) (Count 744)
    ∷ on_u (stationed (1000 ∷ 499 ∷ replicate 5 500) 4093 68370) (Count 796)
    ∷ on_u (stationed (1000 ∷ 499 ∷ replicate 5 500) 4093 68369) (Count 797)
    ∷ []
