-- 01, The sheet: the table of lines, with the limits of each number, in its order. There is no other table of limits:
-- a text is read and written, and a register judged, by this one.
use Rattle.std.specs.Prelude.{ℕ, List, [], ◌∷◌, replicate}
use Prim.Native.String.{String}
use Rattle.text.specs.Quoted.{bytes}
use Rattle.text.specs.declared.Limit.{Limit}
use Rattle.text.specs.Limit.{ranging, ranging_capped, ranging_count, ranging_or_none}
use Rattle.text.specs.Line.{Line}

abbrev line : String → List Limit → Line
line tag limits = record { tag = bytes tag; limits = limits }

-- length; reference length, not above length; transom width; transom height; flat bottom; remote steering
abbrev form_limits : List Limit
form_limits =
    ranging 2000 6000 ∷ ranging_capped 2000 6000 ∷ ranging 500 3000 ∷ ranging 200 900 ∷ ranging 0 1 ∷ ranging 0 1 ∷ []

-- B, then q r s t u v
abbrev station_limits : List Limit
station_limits = ranging 0 4000 ∷ replicate 6 (ranging 0 2500)

-- the lines from HULL to SEAT
abbrev pub lines : List Line
lines =
    line "HULL\t" (ranging 0 15 ∷ [])
    ∷ line "FORM\t" form_limits
    ∷ line "STN\tQ\t" station_limits
    ∷ line "STN\tR\t" station_limits
    ∷ line "STN\tS\t" station_limits
    ∷ line "STN\tT\t" station_limits
    -- aft structure, motor well, flooding chambers
    ∷ line "VOL\t" (ranging 0 5000000 ∷ ranging 0 5000000 ∷ ranging 0 5000000 ∷ [])
    -- bare boat, permanent tanks with fuel, installed machinery
    ∷ line "MASS\t" (ranging 1 2000000 ∷ ranging 0 500000 ∷ ranging 0 500000 ∷ [])
    -- 1 outboard or 0 inboard, declared power
    ∷ line "PWR\t" (ranging 0 1 ∷ ranging 0 200000 ∷ [])
    -- designated positions; tested persons, or `-`
    ∷ line "SEAT\t" (ranging 1 24 ∷ ranging_or_none 1 24 ∷ [])
    ∷ []

-- how many lines of fittings a sheet has room for
abbrev pub fittings : ℕ
fittings = 24

-- the most that the pieces on one line weigh together, and the most that there are
abbrev pub fitting_high : ℕ
fitting_high = 500000

abbrev pub fitting_count : ℕ
fitting_count = 99

-- a fitting's line number, the weight of one piece and, 02 (vi), how many there are; lines of before leave that out
abbrev pub fit_line : Line
fit_line = line "FIT\t" (ranging 1 fittings ∷ ranging 1 fitting_high ∷ ranging_count 1 fitting_count fitting_high ∷ [])

abbrev pub end_line : Line
end_line = line "END\n" []

-- the limits of an engine's power and weight, shared with the plates' check of rows
abbrev pub engine_power_high : ℕ
engine_power_high = 200000

abbrev pub engine_weight_high : ℕ
engine_weight_high = 1000000

-- an engine's power and weight
abbrev pub engine_line : Line
engine_line = line "ENG\t" (ranging 1 engine_power_high ∷ ranging 0 engine_weight_high ∷ [])

-- how many engine rows a text may have
abbrev pub most_rows : ℕ
most_rows = 40

-- a text of more bytes is refused before any field is read
abbrev pub most_bytes : ℕ
most_bytes = 4096
