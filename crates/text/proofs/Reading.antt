-- Laws of readings, one after another, and of the loop that reads numbers.
use mathlib.Core.Path.{◌≡◌, refl, sym, ap, ◌∙◌}
use mathlib.Core.Bool.{Bool, true, false, cond}
use mathlib.Core.List.{List, [], ◌∷◌, ◌++◌, append-nil, append_assoc}
use Prim.Native.Nat.{ℕ, ◌+◌, ◌-◌, ◌≤◌, ◌<◌}
use native.Mathlib.Nat.{add-zero, zero-add, add_assoc}
use native.Mathlib.Omega.{arith}
use lib.Dec.{eqb}
use lib.ListN.{length, drop, set, length-append, length-drop}
use lib.Seq.{sets, drop-drop}
use Rattle.text.specs.Read.{EntryRead}
use Rattle.text.specs.Read.{Number, Misread}
use Rattle.text.specs.Read.{LineRead}
use Rattle.text.specs.Read.{Taken, Fault}
use Rattle.text.specs.Quoted.{tab, feed}
use Rattle.text.specs.declared.Limit.{Limit}
use Rattle.text.specs.Line.{Reading, Reads, after, nothing, refused, ender, stops_short, on_entry}
use Rattle.text.specs.Read.{shift_by}
use Rattle.text.specs.Line.{read_entry, read_numbers}
use Rattle.ground.proofs.Stores.{sets_snoc}
use Rattle.text.proofs.Limits.{limit_at, limits_more, limits_end}
use Rattle.text.proofs.Entry.{reach, entry_reach}
use Rattle.text.proofs.Line.{numbers_short, numbers_whole}

-- ---- one after another

shift_zero : (r : LineRead) → shift_by 0 r ≡ r
shift_zero (Taken n) = rw (zero-add n)
shift_zero (Fault number at) = rw (zero-add at)

shift_shift : (j k : ℕ) (r : LineRead) → shift_by j (shift_by k r) ≡ shift_by (j + k) r
shift_shift j k (Taken n) = rw (add_assoc j k n)
shift_shift j k (Fault number at) = rw (add_assoc j k at)

pub after_nothing : (p : Reading) → after [] 0 p ≡ p
after_nothing p = rw (shift_zero p.ended)

pub after_after : (ns ms : List ℕ) (j k : ℕ) (p : Reading) → after ns j (after ms k p) ≡ after (ns ++ ms) (j + k) p
after_after ns ms j k p = rw (shift_shift j k p.ended, append_assoc ns ms p.numbers)

-- ---- number by number

ender_left : (ls : List Limit) → ender ls ≡ cond (eqb (length ls) 0) feed tab
ender_left [] = refl
ender_left (l ∷ ls) = rw (lib.Dec.eqb-suc-zero (length ls))

pub ender_after : (t : List Limit) (k : ℕ)
    → ender (drop (k + 1) t) ≡ cond (eqb (length t - k - 1) 0) feed tab
ender_after t k =
    let n : length t - (k + 1) ≡ length t - k - 1 = omega arith in
    ender_left (drop (k + 1) t) ∙ rw (length-drop, n)

-- what reading the numbers from place k on gives, from the byte `at` on
abbrev pub read_from : List Limit → List ℕ → ℕ → ℕ → ℕ → Reading
read_from table t k last at = read_numbers (drop k table) last (drop at t)

-- k numbers are read, which took `at` bytes of t
pub record State (table : List Limit) (t o₀ o : List ℕ) (k last at : ℕ) : Type 0 where
  pub so : List ℕ
  pub at_in : at ≤ length t
  pub many : length so ≡ k
  pub stored : o ≡ sets o₀ 0 so
  pub so_far : read_numbers table 0 t ≡ after so at (read_from table t k last at)

-- the next entry, ended by e, reads as r; the numbers after it are left out, or they are not
pub record Next (table : List Limit) (t : List ℕ) (k last at : ℕ) (short : Bool) (e : ℕ) (r : EntryRead) : Type 0
  where
    pub more : k < length table
    pub stops : stops_short (drop (k + 1) table) (drop at t) ≡ short
    pub ended : e ≡ cond short feed (cond (eqb (length table - k - 1) 0) feed tab)
    pub entry : read_entry (limit_at table k) last e (drop at t) ≡ r

-- what is read after it
abbrev onward : Bool → List Limit → ℕ → List ℕ → Reading
onward true ls n u = nothing
onward false ls n u = read_numbers ls n u

pub start : (table : List Limit) (t o : List ℕ) → State table t o o 0 0 0
start table t o =
    record { so = []; at_in = omega arith; many = refl; stored = refl; so_far = sym (after_nothing _) }

module _ {table : List Limit} {t o₀ o : List ℕ} {k last at : ℕ} (s : State table t o₀ o k last at) where
  pub done : length table ≤ k → Reads (read_numbers table 0 t) o₀ (Taken at) o
  unfolding read_numbers
  done h =
      let e : read_numbers table 0 t ≡ after s.so at nothing = s.so_far ∙ rw (limits_end table k h) in
      record { answer = rw (e, add-zero at); stored = s.stored ∙ rw (e, append-nil s.so) }

  entered : (short : Bool) {e : ℕ} {r : EntryRead}
      → Next table t k last at short e r
      → read_from table t k last at ≡ on_entry r (onward short (drop (k + 1) table)) (drop at t)
  entered true g =
      rw (
        limits_more table k g.more,
        numbers_short (limit_at table k) (drop (k + 1) table) last (drop at t) g.stops,
        ← g.ended,
        g.entry,
      )
  entered false g =
      rw (
        limits_more table k g.more,
        numbers_whole (limit_at table k) (drop (k + 1) table) last (drop at t) g.stops,
        ender_after table k,
        ← g.ended,
        g.entry,
      )

  -- an entry stays within the text
  pub entry_in : {short : Bool} {e : ℕ} {r : EntryRead} → Next table t k last at short e r → at + reach r ≤ length t
  entry_in {e = e} g =
      omega (arith, ap reach g.entry, entry_reach (limit_at table k) last e (drop at t), length-drop at t, s.at_in)

  pub fault : {short : Bool} {e number place : ℕ}
      → Next table t k last at short e (Misread number place)
      → Reads (read_numbers table 0 t) o₀ (Fault number (at + place)) o
  fault {short} {number = number} {place} g =
      let q : read_numbers table 0 t ≡ after s.so at (refused number place) =
      s.so_far ∙ ap (after s.so at) (entered short g) in
      record { answer = rw q; stored = s.stored ∙ rw (q, append-nil s.so) }

  -- what is stored with one number more
  more_stored : (n : ℕ) → set o k n ≡ sets o₀ 0 (s.so ++ (n ∷ []))
  more_stored n = rw (s.stored, ← s.many) (rw zero-add at (sets_snoc o₀ 0 s.so n))

  -- the line ends here, and numbers are left out of it
  pub stop : {e n len : ℕ}
      → Next table t k last at true e (Number n len)
      → Reads (read_numbers table 0 t) o₀ (Taken (at + len)) (set o k n)
  stop {n = n} {len} g =
      let q : read_numbers table 0 t ≡ after s.so at (after (n ∷ []) len nothing) =
      s.so_far ∙ ap (after s.so at) (entered true g) in
      record { answer = rw (q, add-zero len); stored = more_stored n ∙ rw q }

  pub step : {e n len : ℕ}
      → Next table t k last at false e (Number n len)
      → State table t o₀ (set o k n) (k + 1) n (at + len)
  step {n = n} {len} g =
      let rest : Reading = read_from table t (k + 1) n (at + len) in
      let q : read_from table t k last at ≡ after (n ∷ []) len rest = entered false g ∙ rw (drop-drop len at t) in
      record {
        so = s.so ++ (n ∷ []);
        at_in = entry_in g;
        many = omega (arith, s.many, length-append s.so (n ∷ []));
        stored = more_stored n;
        so_far = s.so_far ∙ ap (after s.so at) q ∙ after_after s.so (n ∷ []) at len rest;
      }
