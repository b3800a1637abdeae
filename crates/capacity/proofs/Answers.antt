-- The plates' answers, by the case that the code finds.
use mathlib.Core.Path.{◌≡◌, refl, sym, ◌∙◌}
use mathlib.Core.Bool.{Bool, true, false, not}
use mathlib.Core.List.{List}
use Prim.Native.Nat.{ℕ, ◌*◌}
use lib.IntN.{sub_ℕ}
use Rattle.ground.proofs.Booleans.{either}
use Rattle.answers.specs.Answer.{Refused, Count, Plate}
use Rattle.answers.specs.Refusals.{bad_rows, no_row, no_load, no_power, untested, no_persons}
use Rattle.answers.proofs.Outcomes.{OfList, Unplaced}
use Rattle.capacity.specs.Whole.{is_below, or_zero}
use Rattle.capacity.specs.PlateC.{marked_c, rows_right, lacks_row, engine_weight, live_load, persons, lacks_tests}
use Rattle.capacity.specs.PlateC.{plate_c}
use Rattle.capacity.specs.PlateA.{marked_a, power_a, lacks_power, plate_a}
use Rattle.capacity.specs.PlateU.{marked_u, plate_u}
use Rattle.capacity.specs.Kinds.{PlateKind, kind_a, kind_c, kind_u, plate_by}
use Rattle.capacity.proofs.Whole.{below_none, below_some}
use Rattle.capacity.proofs.Persons.{live_is}

-- ---- plate A, by refusals 12, 13

module _ (m : ℕ) (s : List ℕ) {load : ℕ} (l : load ≡ or_zero (marked_a m s)) where
  pub a_unloaded : load ≡ 0 → Refused no_load ≡ plate_a m s
  unfolding plate_a
  a_unloaded z = rw (below_none (marked_a m s) l z) refl

  pub a_unpowered : {lacks : Bool} → (load ≡ 0 → ⊥) → lacks ≡ lacks_power s → lacks ≡ true → Refused no_power ≡ plate_a m s
  unfolding plate_a
  a_unpowered n e f = rw (below_some (marked_a m s) l n, sym e ∙ f) refl

  pub a_marks : {lacks : Bool} {watts : ℕ} → (load ≡ 0 → ⊥) → lacks ≡ lacks_power s → lacks ≡ false → watts ≡ power_a s
      → Plate load watts ≡ plate_a m s
  unfolding plate_a
  a_marks n e f w = rw (below_some (marked_a m s) l n, sym e ∙ f, l, w) refl

-- ---- plate C, by refusals 10, 12, 11, 14, 15

module _ (m : ℕ) (s ps ws : List ℕ) {right : Bool} (told : right ≡ rows_right ps ws) where
  pub c_rows : right ≡ false → Refused bad_rows ≡ plate_c m s ps ws
  unfolding plate_c
  c_rows r = rw (sym told ∙ r) refl

  module _ (r : right ≡ true) {load : ℕ} (l : load ≡ or_zero (marked_c m s)) where
    pub c_unloaded : load ≡ 0 → Refused no_load ≡ plate_c m s ps ws
    unfolding plate_c
    c_unloaded z = rw (sym told ∙ r, below_none (marked_c m s) l z) refl

    module _ (n : load ≡ 0 → ⊥) {lacks : Bool} (e : lacks ≡ lacks_row s ps) where
      pub c_unreached : lacks ≡ true → Refused no_row ≡ plate_c m s ps ws
      unfolding plate_c
      c_unreached f = rw (sym told ∙ r, below_some (marked_c m s) l n, sym e ∙ f) refl

      -- with a row that reaches, and the engine weighed by it
      module _ (f : lacks ≡ false) {weight engine : ℕ} (w : weight ≡ engine_weight s ps ws) (v : engine ≡ weight)
          {wants : Bool} (d : wants ≡ lacks_tests s (sub_ℕ (1000 * load) engine)) where
        live : sub_ℕ (1000 * load) engine ≡ live_load m s ps ws
        live = live_is m s ps ws n l (v ∙ w)

        pub c_untested : wants ≡ true → Refused untested ≡ plate_c m s ps ws
        unfolding plate_c
        c_untested g = rw (sym told ∙ r, below_some (marked_c m s) l n, sym e ∙ f, ← live, sym d ∙ g) refl

        module _ (g : wants ≡ false) {count : ℕ} (p : count ≡ or_zero (persons s (sub_ℕ (1000 * load) engine))) where
          pub c_empty : count ≡ 0 → Refused no_persons ≡ plate_c m s ps ws
          unfolding plate_c
          c_empty z =
              rw (
                sym told ∙ r,
                below_some (marked_c m s) l n,
                sym e ∙ f,
                ← live,
                sym d ∙ g,
                below_none (persons s (sub_ℕ (1000 * load) engine)) p z,
              ) refl

          pub c_marks : (count ≡ 0 → ⊥) → Plate load count ≡ plate_c m s ps ws
          unfolding plate_c
          c_marks k =
              rw (
                sym told ∙ r,
                below_some (marked_c m s) l n,
                sym e ∙ f,
                ← live,
                sym d ∙ g,
                below_some (persons s (sub_ℕ (1000 * load) engine)) p k,
                ← l,
                ← p,
              ) refl

-- ---- plate U, by refusal 12

module _ (m : ℕ) (s : List ℕ) {load : ℕ} (l : load ≡ or_zero (marked_u m s)) where
  pub u_unloaded : load ≡ 0 → Refused no_load ≡ plate_u m s
  unfolding plate_u
  u_unloaded z = rw (below_none (marked_u m s) l z) refl

  pub u_marks : (load ≡ 0 → ⊥) → Count load ≡ plate_u m s
  unfolding plate_u
  u_marks n = rw (below_some (marked_u m s) l n, l) refl

-- ---- every plate refuses by a number of 01's list

a_listed : (m : ℕ) (s : List ℕ) → OfList (plate_a m s)
unfolding plate_a
a_listed m s = either OfList (is_below (marked_a m s) 1) refl (either OfList (lacks_power s) refl refl)

c_listed : (m : ℕ) (s ps ws : List ℕ) → OfList (plate_c m s ps ws)
unfolding plate_c
c_listed m s ps ws =
    let live = live_load m s ps ws in
    either OfList (not (rows_right ps ws)) refl
    (either OfList (is_below (marked_c m s) 1) refl
    (either OfList (lacks_row s ps) refl
    (either OfList (lacks_tests s live) refl (either OfList (is_below (persons s live) 1) refl refl))))

u_listed : (m : ℕ) (s : List ℕ) → OfList (plate_u m s)
unfolding plate_u
u_listed m s = either OfList (is_below (marked_u m s) 1) refl refl

pub plate_listed : (k : PlateKind) (m : ℕ) (s : List ℕ) → OfList (plate_by k m s)
plate_listed kind_a m s = search (a_listed, c_listed, u_listed)
plate_listed (kind_c ps ws) m s = search (a_listed, c_listed, u_listed)
plate_listed kind_u m s = search (a_listed, c_listed, u_listed)

-- ---- and without a place

a_unplaced : (m : ℕ) (s : List ℕ) → Unplaced (plate_a m s)
unfolding plate_a
a_unplaced m s = either Unplaced (is_below (marked_a m s) 1) refl (either Unplaced (lacks_power s) refl refl)

c_unplaced : (m : ℕ) (s ps ws : List ℕ) → Unplaced (plate_c m s ps ws)
unfolding plate_c
c_unplaced m s ps ws =
    let live = live_load m s ps ws in
    either Unplaced (not (rows_right ps ws)) refl
    (either Unplaced (is_below (marked_c m s) 1) refl
    (either Unplaced (lacks_row s ps) refl
    (either Unplaced (lacks_tests s live) refl (either Unplaced (is_below (persons s live) 1) refl refl))))

u_unplaced : (m : ℕ) (s : List ℕ) → Unplaced (plate_u m s)
unfolding plate_u
u_unplaced m s = either Unplaced (is_below (marked_u m s) 1) refl refl

pub plate_unplaced : (k : PlateKind) (m : ℕ) (s : List ℕ) → Unplaced (plate_by k m s)
plate_unplaced kind_a m s = search (a_unplaced, c_unplaced, u_unplaced)
plate_unplaced (kind_c ps ws) m s = search (a_unplaced, c_unplaced, u_unplaced)
plate_unplaced kind_u m s = search (a_unplaced, c_unplaced, u_unplaced)
