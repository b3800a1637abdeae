-- The plates' answers, by what the code has found: each figure, or that there is none.
use mathlib.Core.Path.{◌≡◌, refl, sym, ◌∙◌}
use mathlib.Core.Bool.{Bool, true, false, cond}
use mathlib.Core.List.{List}
use Prim.Native.Nat.{ℕ, ◌*◌, ◌≤◌}
use lib.IntN.{sub_ℕ}
use Rattle.std.proofs.Common.{Option, Some, None}
use Rattle.answers.specs.Answer.{Refused, Count, Plate}
use Rattle.answers.specs.Refusals.{no_row, no_load, no_power, untested, no_persons}
use Rattle.capacity.specs.Whole.{or_zero}
use Rattle.capacity.specs.PlateC.{marked_c, rows_right, lacks_row, engine_weight, persons, lacks_tests, plate_c}
use Rattle.capacity.specs.PlateA.{marked_a, power_a, lacks_power, plate_a}
use Rattle.capacity.specs.PlateU.{marked_u, plate_u}
use Rattle.capacity.proofs.Answers.{a_unloaded, a_unpowered, a_marks, u_unloaded, u_marks}
use Rattle.capacity.proofs.Answers.{c_unloaded, c_unreached, c_untested, c_empty, c_marks}
use Rattle.figuring.specs.Positive.{positive}
use Rattle.figuring.proofs.Positive.{any_none, any_some, some_there}

module _ (m : ℕ) (s : List ℕ) {load : Option ℕ} (l : load ≡ positive (marked_a m s)) where
  pub unloaded_a : load ≡ None → Refused no_load ≡ plate_a m s
  unloaded_a z = a_unloaded m s refl (any_none _ (sym l ∙ z))

  module _ {x : ℕ} (z : load ≡ Some x) {lacks : Bool} (e : lacks ≡ lacks_power s) where
    pub unpowered_a : lacks ≡ true → Refused no_power ≡ plate_a m s
    unpowered_a f = let k = any_some _ (sym l ∙ z) in a_unpowered m s k.0 (some_there k.0 k.1) e f

    pub marks_a : {watts : ℕ} → lacks ≡ false → watts ≡ power_a s → Plate x watts ≡ plate_a m s
    marks_a f w = let k = any_some _ (sym l ∙ z) in a_marks m s k.0 (some_there k.0 k.1) e f w

module _ (m : ℕ) (s : List ℕ) {load : Option ℕ} (l : load ≡ positive (marked_u m s)) where
  pub unloaded_u : load ≡ None → Refused no_load ≡ plate_u m s
  unloaded_u z = u_unloaded m s refl (any_none _ (sym l ∙ z))

  pub marks_u : {x : ℕ} → load ≡ Some x → Count x ≡ plate_u m s
  marks_u z = let k = any_some _ (sym l ∙ z) in u_marks m s k.0 (some_there k.0 k.1)

-- ---- plate C, of rows that are right

lacking : (t : Bool) (w : ℕ) → cond t None (Some w) ≡ None → t ≡ true
lacking true w e = refl
lacking false w e = cc

reaching : (t : Bool) (w : ℕ) {n : ℕ} → cond t None (Some w) ≡ Some n → (t ≡ false) × (n ≡ w)
reaching true w e = cc
reaching false w e = (refl, cc)

module _ (m : ℕ) (s ps ws : List ℕ) {right : Bool} (told : right ≡ rows_right ps ws) (r : right ≡ true)
    {load : Option ℕ} (l : load ≡ positive (marked_c m s)) where
  pub unloaded_c : load ≡ None → Refused no_load ≡ plate_c m s ps ws
  unloaded_c z = c_unloaded m s ps ws told r refl (any_none _ (sym l ∙ z))

  module _ {x : ℕ} (z : load ≡ Some x) {weight : Option ℕ}
      (e : weight ≡ cond (lacks_row s ps) None (Some (engine_weight s ps ws))) where
    k : (x ≡ or_zero (marked_c m s)) × (1 ≤ or_zero (marked_c m s))
    k = any_some _ (sym l ∙ z)

    pub unreached_c : weight ≡ None → Refused no_row ≡ plate_c m s ps ws
    unreached_c y =
        c_unreached m s ps ws told r k.0 (some_there k.0 k.1) {lacks = lacks_row s ps} refl
        (lacking _ _ (sym e ∙ y))

    module _ {engine : ℕ} (y : weight ≡ Some engine) {wants : Bool}
        (d : wants ≡ lacks_tests s (sub_ℕ (1000 * x) engine)) where
      f : (lacks_row s ps ≡ false) × (engine ≡ engine_weight s ps ws)
      f = reaching _ _ (sym e ∙ y)

      pub untested_c : wants ≡ true → Refused untested ≡ plate_c m s ps ws
      untested_c g = c_untested m s ps ws told r k.0 (some_there k.0 k.1) refl f.0 f.1 refl d g

      module _ (g : wants ≡ false) {count : Option ℕ} (p : count ≡ positive (persons s (sub_ℕ (1000 * x) engine))) where
        pub empty_c : count ≡ None → Refused no_persons ≡ plate_c m s ps ws
        empty_c q =
            c_empty m s ps ws told r k.0 (some_there k.0 k.1) refl f.0 f.1 refl d g refl (any_none _ (sym p ∙ q))

        pub marks_c : {n : ℕ} → count ≡ Some n → Plate x n ≡ plate_c m s ps ws
        marks_c q =
            let j = any_some _ (sym p ∙ q) in
            c_marks m s ps ws told r k.0 (some_there k.0 k.1) refl f.0 f.1 refl d g j.0 (some_there j.0 j.1)
