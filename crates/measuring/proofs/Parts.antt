-- Words in two parts, the second of which does not look back at the first, are within limits where both parts are; and
-- so are all words where those before the fittings and the fittings are.
use mathlib.Core.Path.{◌≡◌, refl, sym, ap, ◌∙◌}
use mathlib.Core.Bool.{true, ◌&&◌}
use mathlib.Core.List.{List, ◌++◌}
use Prim.Native.Nat.{ℕ, ◌+◌, ◌-◌, ◌≤◌}
use native.Mathlib.Omega.{arith}
use lib.Dec.{lit<}
use lib.ListN.{length, get_or, take, drop, length-drop}
use lib.Seq.{take-add, drop-drop, length-take-le}
use Rattle.ground.proofs.Stores.{rest_part}
use Rattle.text.specs.declared.Limit.{Limit}
use Rattle.text.specs.Limit.{all_hold}
use Rattle.sheet.specs.Lines.{lines, fittings}
use Rattle.sheet.specs.Sheet.{limits_on, limit_rows, fits_ok, words_ok}
use Rattle.sheet.specs.Places.{bare_at, fittings_at, sheet_words}
use Rattle.sheet.proofs.Held.{opens, lines_open, hold_parts, ok_run}
use Rattle.capacity.specs.Weights.{added_up, boat_m}
use Rattle.capacity.specs.Highs.{high_at}
use Rattle.capacity.proofs.Ends.{run_most}
use Rattle.measuring.specs.Part.{word_rows, part_ok, WordPart}

-- ---- the parts as the code lends them

lent_parts : {A : Type 0} (l : List A) (a b e : ℕ)
    → a ≤ b
    → b ≤ e
    → take (e - a) (drop a l) ≡ take (b - a) (drop a l) ++ take (e - b) (drop b l)
lent_parts {A} l a b e h k =
    let n : e - a ≡ (b - a) + (e - b) = omega arith in
    let m : a + (b - a) ≡ b = omega arith in
    rw n (take-add (b - a) (e - b) (drop a l))
    ∙ ap (λ (r : List A). take (b - a) (drop a l) ++ take (e - b) r)
    (drop-drop (b - a) a l ∙ ap (λ (i : ℕ). drop i l) m)

pub rows_many : {rows : List Limit} → rows ≡ word_rows → length rows ≡ fittings_at
unfolding limit_rows limits_on
rows_many e = ap length e

pub part_long : {A : Type 0} (l : List A) (a b : ℕ)
    → fittings_at ≤ length l
    → WordPart a b
    → length (take (b - a) (drop a l)) ≡ b - a
part_long l a b n p = length-take-le (b - a) (drop a l) (omega (arith, length-drop a l, p.order, p.most))

-- a place between two others, from which on the words do not look back
pub record Parting (a b e : ℕ) : Type 0 where
  pub first : WordPart a b
  pub second : WordPart b e
  pub free : opens (take (e - b) (drop b word_rows)) ≡ true

module _ {a b e : ℕ} (c : Parting a b e) (ws : List ℕ) (n : length ws ≡ sheet_words) where
  pub parts_join : part_ok ws a e ≡ (part_ok ws a b && part_ok ws b e)
  unfolding part_ok
  parts_join =
      let h = c.first.order in
      let k = c.second.order in
      let ls : List Limit = take (b - a) (drop a word_rows) in
      let ms : List Limit = take (e - b) (drop b word_rows) in
      rw (
        lent_parts word_rows a b e (omega arith) (omega arith),
        lent_parts ws a b e (omega arith) (omega arith),
      )
      (hold_parts ls ms 0 (take (b - a) (drop a ws)) (take (e - b) (drop b ws))
      (part_long ws a b (omega arith) c.first
      ∙ sym (part_long word_rows a b (omega (arith, rows_many refl)) c.first))
      c.free)

pub part_judged : {rows : List Limit} → rows ≡ word_rows → (ws : List ℕ) (at end : ℕ)
    → all_hold (take (end - at) (drop at rows)) 0 (take (end - at) (drop at ws)) ≡ part_ok ws at end
unfolding part_ok
part_judged e ws at end = rw e

-- ---- the words before the fittings, and the fittings

rows_lines : take fittings_at word_rows ≡ limits_on (drop 1 lines)
unfolding limit_rows limits_on
rows_lines = refl

lines_many : length (limits_on (drop 1 lines)) ≡ fittings_at
unfolding limits_on
lines_many = refl

words_open : lines_open (drop 1 lines) ≡ true
unfolding lines_open opens
words_open = refl

-- the fittings, as the code lends them
abbrev pub fit_words : List ℕ → List ℕ
fit_words ws = take (length ws - fittings_at) (drop fittings_at ws)

module _ (ws : List ℕ) (n : length ws ≡ sheet_words) where
  pub words_parted : words_ok ws ≡ (part_ok ws 0 fittings_at && fits_ok fittings (fit_words ws))
  unfolding part_ok
  words_parted =
      ok_run (drop 1 lines) ws words_open (omega (arith, lines_many))
      ∙ rw (lines_many, rest_part ws fittings_at, rows_lines)

  -- the bare boat among the words before them
  pub bare_few : part_ok ws 0 fittings_at ≡ true → get_or ws bare_at 0 ≤ high_at bare_at
  unfolding part_ok
  bare_few e = run_most ws (rw rows_lines at e) bare_at (lit< tt)

  -- and with them the whole boat
  pub boat_parted : boat_m ws ≡ get_or ws bare_at 0 + added_up (fit_words ws)
  unfolding boat_m
  boat_parted = rw (rest_part ws fittings_at)

pub ruleset boat_laws = (words_parted, bare_few, boat_parted)
