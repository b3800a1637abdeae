-- A field that two bytes may end: read with the one that does not, it is refused for its form, and no later than it is
-- read or refused for its form with the other.
use mathlib.Core.Path.{◌≡◌, refl, sym, ap, ◌∙◌}
use mathlib.Core.Bool.{true, false, ◌&&◌, true≢false}
use mathlib.Core.List.{List, [], ◌∷◌}
use Prim.Native.Nat.{ℕ, ◌≤◌}
use native.Mathlib.Omega.{arith}
use lib.ListN.{length, drop}
use Rattle.answers.specs.Refusals.{broken_line, outside_limits}
use Rattle.ground.proofs.Booleans.{both_hold, by_test}
use Rattle.text.specs.Number.{NumberRead}
use Rattle.std.specs.Prelude.{Ok, Err}
use Rattle.text.specs.Read.{EntryRead}
use Rattle.text.specs.Read.{Number, Misread}
use Rattle.text.specs.Quoted.{dash}
use Rattle.text.specs.Field.{field_of, begins}
use Rattle.text.specs.Number.{number_of}
use Rattle.text.specs.declared.Limit.{Limit}
use Rattle.text.specs.Limit.{or_none, within}
use Rattle.text.specs.Line.{read_entry}
use Rattle.text.proofs.Field.{begins_cons, field_stop, field_more}
use Rattle.text.proofs.Entry as Text
use Rattle.text.proofs.EntryTrip.{Ends}

-- a field was read up to k, or is refused for its form there
pub data Comes (r : EntryRead) (k : ℕ) : Type 0 where
  as_number : (n : ℕ) → r ≡ Number n k → Comes r k
  broken : r ≡ Misread broken_line k → Comes r k

-- the field at the start of t, with o to end it, is refused for its form at k or sooner
pub record Missed (l : Limit) (last o : ℕ) (t : List ℕ) (k : ℕ) : Type 0 where
  pub at : ℕ
  pub soon : at ≤ k
  pub read : read_entry l last o t ≡ Misread broken_line at

-- a `-` that o does not end
dash_other : (o : ℕ) (t : List ℕ) → Ends o → begins dash t ≡ true → begins o (drop (length (field_of t)) t) ≡ false
    → begins o (drop 1 t) ≡ false
dash_other o t w d b =
    by_test (begins o (drop 1 t))
    (λ c.
    let x : field_of t ≡ dash ∷ field_of (drop 1 t) =
    ap field_of (begins_cons dash t d) ∙ field_more dash (drop 1 t) refl in
    let y : field_of (drop 1 t) ≡ [] = ap field_of (begins_cons o (drop 1 t) c) ∙ field_stop o (drop 1 (drop 1 t)) w in
    let z : length (field_of t) ≡ 1 = ap length x ∙ rw y in
    absurd (true≢false (sym c ∙ (rw z at b))))
    (λ c. c)

module _ (l : Limit) (last e o : ℕ) (t : List ℕ) (w : Ends o) (b : begins o (drop (length (field_of t)) t) ≡ false) where
  abbrev Misses : EntryRead → Type 0
  Misses r = (k : ℕ) → Comes r k → Missed l last o t k

  -- what a field was read up to, or is refused for its form at, is not before a place
  at_number : (i n j : ℕ) → i ≤ j → read_entry l last o t ≡ Misread broken_line i → Misses (Number n j)
  at_number i n j h q k (as_number m v) = let z : j ≡ k = cc in record { at = i; soon = omega arith; read = q }
  at_number i n j h q k (broken v) = let z : ◌≡◌ {A = ℕ} 0 1 = cc in absurd (omega arith)

  at_place : (i : ℕ) → read_entry l last o t ≡ Misread broken_line i → Misses (Misread broken_line i)
  at_place i q k (as_number m v) = let z : ◌≡◌ {A = ℕ} 0 1 = cc in absurd (omega arith)
  at_place i q k (broken v) = let z : i ≡ k = cc in record { at = i; soon = omega arith; read = q }

  outside_none : Misses (Misread outside_limits 0)
  outside_none k (as_number m v) = let z : ◌≡◌ {A = ℕ} 0 1 = cc in absurd (omega arith)
  outside_none k (broken v) = let z : outside_limits ≡ broken_line = cc in absurd (omega arith)

  dash_misses : (or_none l.rule && begins dash t) ≡ true → Misses (read_entry l last e t)
  dash_misses d =
      let g : Text.Dashed l last e t = record { dashed = d } in
      let c = dash_other o t w (both_hold (or_none l.rule) (begins dash t) d).1 b in
      let q = Text.dash_unended {e = o} (record { dashed = d }) c in
      by_test (begins e (drop 1 t)) (λ a. rw (Text.dash_ended g a) (at_number 1 0 2 (omega arith) q))
      (λ a. rw (Text.dash_unended g a) (at_place 1 q))

  field_misses : (r : NumberRead) → (or_none l.rule && begins dash t) ≡ false → number_of (field_of t) ≡ r
      → Misses (read_entry l last e t)
  field_misses (Err i) d v =
      let q = Text.no_number {e = o} (record { undashed = d; field = refl; read = v }) in
      let g : Text.Entered l last e t (field_of t) (Err i) = record { undashed = d; field = refl; read = v } in
      rw (Text.no_number g) (at_place i q)
  field_misses (Ok n) d v =
      let f : List ℕ = field_of t in
      let g : Text.Entered l last e t f (Ok n) = record { undashed = d; field = refl; read = v } in
      let q = Text.unended {e = o} (record { undashed = d; field = refl; read = v }) b in
      by_test (begins e (drop (length f) t))
      (λ a.
      by_test (within l last n) (λ i. rw (Text.taken g a i) (at_number (length f) n _ (omega arith) q))
      (λ i. rw (Text.outside g a i) outside_none))
      (λ a. rw (Text.unended g a) (at_place (length f) q))

  pub missed : (k : ℕ) → Comes (read_entry l last e t) k → Missed l last o t k
  missed =
      by_test (or_none l.rule && begins dash t) dash_misses
      (λ d. field_misses (number_of (field_of t)) d refl)
