-- Laws of a number read with the byte that must end it.
use mathlib.Core.Path.{◌≡◌, refl}
use mathlib.Core.Bool.{true, false, ◌&&◌}
use mathlib.Core.List.{List}
use Prim.Native.Nat.{ℕ, ◌+◌, ◌≤◌, ◌<◌}
use native.Mathlib.Omega.{arith}
use lib.ListN.{length, drop, length-drop}
use Rattle.answers.specs.Refusals.{broken_line, outside_limits}
use Rattle.ground.proofs.Booleans.{both_hold, by_test}
use Rattle.text.specs.Number.{NumberRead}
use Rattle.std.specs.Prelude.{Ok, Err}
use Rattle.text.specs.Read.{EntryRead}
use Rattle.text.specs.Read.{Number, Misread}
use Rattle.text.specs.Quoted.{dash}
use Rattle.text.specs.Field.{field_of, begins}
use Rattle.text.specs.Number.{number_of}
use Rattle.text.specs.declared.Limit.{Limit}
use Rattle.text.specs.Limit.{or_none, within}
use Rattle.text.specs.Line.{read_entry}
use Rattle.text.proofs.Field.{begins_some, field_most}
use Rattle.text.proofs.NumberSteps.{number_place}

-- ---- each way through

-- an entry that is a `-` for none
pub record Dashed (l : Limit) (last e : ℕ) (t : List ℕ) : Type 0 where
  pub dashed : (or_none l.rule && begins dash t) ≡ true

module _ {l : Limit} {last e : ℕ} {t : List ℕ} (g : Dashed l last e t) where
  pub dash_some : 0 < length t
  dash_some = begins_some dash t (both_hold (or_none l.rule) (begins dash t) g.dashed).1

  pub dash_ended : begins e (drop 1 t) ≡ true → read_entry l last e t ≡ Number 0 2
  unfolding read_entry
  dash_ended b = rw (g.dashed, b)

  pub dash_unended : begins e (drop 1 t) ≡ false → read_entry l last e t ≡ Misread broken_line 1
  unfolding read_entry
  dash_unended b = rw (g.dashed, b)

-- an entry that is no `-` for none: its field f, and what that reads as
pub record Entered (l : Limit) (last e : ℕ) (t f : List ℕ) (r : NumberRead) : Type 0 where
  pub undashed : (or_none l.rule && begins dash t) ≡ false
  pub field : f ≡ field_of t
  pub read : number_of f ≡ r

module _ {l : Limit} {last e : ℕ} {t f : List ℕ} where
  pub no_number : {at : ℕ} → Entered l last e t f (Err at) → read_entry l last e t ≡ Misread broken_line at
  unfolding read_entry
  no_number g = rw (g.undashed, ← g.field, g.read)

  module _ {n : ℕ} (g : Entered l last e t f (Ok n)) where
    pub unended : begins e (drop (length f) t) ≡ false → read_entry l last e t ≡ Misread broken_line (length f)
    unfolding read_entry
    unended b = rw (g.undashed, ← g.field, g.read, b)

    pub outside : begins e (drop (length f) t) ≡ true
        → within l last n ≡ false
        → read_entry l last e t ≡ Misread outside_limits 0
    unfolding read_entry
    outside b w = rw (g.undashed, ← g.field, g.read, b, w)

    pub taken : begins e (drop (length f) t) ≡ true
        → within l last n ≡ true
        → read_entry l last e t ≡ Number n (length f + 1)
    unfolding read_entry
    taken b w = rw (g.undashed, ← g.field, g.read, b, w)

-- ---- an entry stays within the text

-- how far an entry reaches into its text
abbrev pub reach : EntryRead → ℕ
reach (Number n k) = k
reach (Misread number at) = at

begun : (e : ℕ) (t : List ℕ) (k : ℕ) → begins e (drop k t) ≡ true → k < length t
begun e t k b = omega (arith, begins_some e (drop k t) b, length-drop k t)

entered_reach : (l : Limit) (last e : ℕ) (t : List ℕ) (r : NumberRead)
    → Entered l last e t (field_of t) r
    → reach (read_entry l last e t) ≤ length t
entered_reach l last e t (Err at) g =
    rw (no_number g) (omega (arith, number_place (field_of t) at g.read, field_most t))
entered_reach l last e t (Ok n) g =
    by_test (begins e (drop (length (field_of t)) t))
    (λ b.
    by_test (within l last n) (λ w. rw (taken g b w) (omega (arith, begun e t (length (field_of t)) b)))
    (λ w. rw (outside g b w) (omega arith)))
    (λ b. rw (unended g b) (field_most t))

pub entry_reach : (l : Limit) (last e : ℕ) (t : List ℕ) → reach (read_entry l last e t) ≤ length t
entry_reach l last e t =
    by_test (or_none l.rule && begins dash t)
    (λ d.
    let g : Dashed l last e t = record { dashed = d } in
    by_test (begins e (drop 1 t)) (λ b. rw (dash_ended g b) (omega (arith, begun e t 1 b)))
    (λ b. rw (dash_unended g b) (dash_some g)))
    (λ d. entered_reach l last e t (number_of (field_of t)) (record { undashed = d; field = refl; read = refl }))

-- ---- what an entry gives is a number or a refusal

pub by_entry : {A : Type 0} (r : EntryRead)
    → ((n k : ℕ) → r ≡ Number n k → A)
    → ((number at : ℕ) → r ≡ Misread number at → A)
    → A
by_entry (Number n k) h g = h n k refl
by_entry (Misread number at) h g = g number at refl
