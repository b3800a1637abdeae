-- 01's printed sheet as a text, whole or with some of its lines given: every computed sample that reads a sheet takes
-- its text from here.
use mathlib.Core.List.{List, ◌++◌}
use Prim.Native.Nat.{ℕ}
use Prim.Native.String.{String}
use Rattle.text.specs.Quoted.{bytes}

abbrev pub hull : String
hull = "HULL\t0\n"

abbrev pub form : String
form = "FORM\t4500\t4000\t1200\t500\t0\t1\n"

abbrev pub stations : List ℕ
stations =
    bytes "STN\tQ\t1000\t500\t500\t500\t500\t500\t500\nSTN\tR\t1000\t500\t500\t500\t500\t500\t500\n"
    ++ bytes "STN\tS\t1000\t500\t500\t500\t500\t500\t500\nSTN\tT\t1000\t500\t500\t500\t500\t500\t500\n"

abbrev pub mass : String
mass = "MASS\t200000\t0\t0\n"

abbrev pub power : String
power = "PWR\t1\t20000\n"

abbrev pub seats : String
seats = "SEAT\t5\t3\n"

abbrev pub sheet_with : String → String → String → String → String → List ℕ → List ℕ
sheet_with hull form mass power seats rest =
    bytes hull ++ (bytes form ++ (stations
    ++ (bytes "VOL\t0\t0\t0\n" ++ (bytes mass ++ (bytes power ++ (bytes seats ++ rest))))))

-- with what follows SEAT given
abbrev pub with_rest : String → List ℕ
with_rest rest = sheet_with hull form mass power seats (bytes rest)

abbrev pub sample : List ℕ
sample = with_rest "FIT\t1\t3334\nEND\n"

-- the same as it is written, with the count
abbrev pub new_sample : List ℕ
new_sample = with_rest "FIT\t1\t3334\t1\nEND\n"
