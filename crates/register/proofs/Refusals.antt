-- What calls share, by the path that the code takes; and what holds where nothing is refused.
use mathlib.Core.Path.{◌≡◌, refl, sym, ◌∙◌}
use mathlib.Core.Bool.{Bool, true, false, cond}
use mathlib.Core.List.{List}
use Prim.Native.Nat.{ℕ, ◌≤◌, ◌<◌}
use borrow.Author.Tests.{ltb-true, eqb-false, lt-ltb, le-ltb, eq-eqb, ne_eqb}
use lib.Dec.{eqb, ltb}
use lib.ListN.{get_or}
use Rattle.ground.proofs.Booleans.{false_true}
use Rattle.answers.specs.Refusals.{bad_memory, full, no_hull, no_desk, no_draft}
use Rattle.memory.specs.Layout.{most_hulls, desks, draft_at, hull_count, held}
use Rattle.memory.specs.Formed.{formed}
use Rattle.memory.proofs.Sound.{Draft, held_draft}
use Rattle.register.specs.Refusals.{room_refusal, hull_refusal, open_refusal, desk_refusal}

-- a test that refuses by n where it fails, or where it holds: nothing is refused, so it went the other way, and nothing
-- after it refuses
pub passes : (t : Bool) (next n : ℕ) → eqb n 0 ≡ false → ◌≡◌ {A = ℕ} (cond t next n) 0 → (t ≡ true) × (next ≡ 0)
passes true next n f z = (refl, z)
passes false next n f z = false_true (sym f ∙ eq-eqb n 0 z)

pub passes_not : (t : Bool) (next n : ℕ) → eqb n 0 ≡ false → ◌≡◌ {A = ℕ} (cond t n next) 0 → (t ≡ false) × (next ≡ 0)
passes_not true next n f z = false_true (sym f ∙ eq-eqb n 0 z)
passes_not false next n f z = (refl, z)

-- ---- a new hull

module _ (m : List ℕ) where
  pub room_unformed : formed m ≡ false → bad_memory ≡ room_refusal m
  unfolding room_refusal
  room_unformed e = rw e refl

  pub room_none : {n : ℕ} → formed m ≡ true → n ≡ hull_count m → most_hulls ≤ n → full ≡ room_refusal m
  unfolding room_refusal
  room_none e q l = rw (e, le-ltb (hull_count m) most_hulls (rw q at l)) refl

  pub room_left : {n : ℕ} → formed m ≡ true → n ≡ hull_count m → n < most_hulls → 0 ≡ room_refusal m
  unfolding room_refusal
  room_left e q l = rw (e, lt-ltb (hull_count m) most_hulls (rw q at l)) refl

  pub record RoomGoes : Type 0 where
    pub ok : formed m ≡ true
    pub room : hull_count m < most_hulls

  pub room_goes : room_refusal m ≡ 0 → RoomGoes
  unfolding room_refusal
  room_goes z =
      let a = passes (formed m) _ bad_memory refl z in
      let b = passes (ltb (hull_count m) most_hulls) _ full refl a.1 in
      record { ok = a.0; room = ltb-true (hull_count m) most_hulls b.0 }

-- ---- a call on a hull

module _ (m : List ℕ) (h : ℕ) where
  pub hull_unformed : formed m ≡ false → bad_memory ≡ hull_refusal m h
  unfolding hull_refusal
  hull_unformed e = rw e refl

  pub hull_absent : formed m ≡ true → hull_count m ≤ h → no_hull ≡ hull_refusal m h
  unfolding hull_refusal
  hull_absent e l = rw (e, le-ltb h (hull_count m) l) refl

  pub hull_there : formed m ≡ true → h < hull_count m → 0 ≡ hull_refusal m h
  unfolding hull_refusal
  hull_there e l = rw (e, lt-ltb h (hull_count m) l) refl

  pub record HullGoes : Type 0 where
    pub ok : formed m ≡ true
    pub entered : h < hull_count m

  pub hull_goes : hull_refusal m h ≡ 0 → HullGoes
  unfolding hull_refusal
  hull_goes z =
      let a = passes (formed m) _ bad_memory refl z in
      let b = passes (ltb h (hull_count m)) _ no_hull refl a.1 in
      record { ok = a.0; entered = ltb-true h (hull_count m) b.0 }

-- ---- open

module _ (m : List ℕ) (d h : ℕ) where
  pub open_unformed : formed m ≡ false → bad_memory ≡ open_refusal m d h
  unfolding open_refusal
  open_unformed e = rw e refl

  pub open_high : formed m ≡ true → desks ≤ d → no_desk ≡ open_refusal m d h
  unfolding open_refusal
  open_high e l = rw (e, le-ltb d desks l) refl

  pub open_absent : formed m ≡ true → d < desks → hull_count m ≤ h → no_hull ≡ open_refusal m d h
  unfolding open_refusal
  open_absent e l k = rw (e, lt-ltb d desks l, le-ltb h (hull_count m) k) refl

  pub open_there : formed m ≡ true → d < desks → h < hull_count m → 0 ≡ open_refusal m d h
  unfolding open_refusal
  open_there e l k = rw (e, lt-ltb d desks l, lt-ltb h (hull_count m) k) refl

  pub record OpenGoes : Type 0 where
    pub ok : formed m ≡ true
    pub desk : d < desks
    pub entered : h < hull_count m

  pub open_goes : open_refusal m d h ≡ 0 → OpenGoes
  unfolding open_refusal
  open_goes z =
      let a = passes (formed m) _ bad_memory refl z in
      let b = passes (ltb d desks) _ no_desk refl a.1 in
      let c = passes (ltb h (hull_count m)) _ no_hull refl b.1 in
      record { ok = a.0; desk = ltb-true d desks b.0; entered = ltb-true h (hull_count m) c.0 }

-- ---- a call on a desk's draft

module _ (m : List ℕ) (d : ℕ) where
  pub desk_unformed : formed m ≡ false → bad_memory ≡ desk_refusal m d
  unfolding desk_refusal
  desk_unformed e = rw e refl

  pub desk_high : formed m ≡ true → desks ≤ d → no_desk ≡ desk_refusal m d
  unfolding desk_refusal
  desk_high e l = rw (e, le-ltb d desks l) refl

  pub desk_idle : {at : ℕ} → formed m ≡ true → d < desks → at ≡ draft_at d → get_or m at 0 ≡ 0 → no_draft ≡ desk_refusal m d
  unfolding desk_refusal
  desk_idle e l q z = rw (e, lt-ltb d desks l, eq-eqb (held m d) 0 (rw q at z)) refl

  pub desk_holds : {at : ℕ} → formed m ≡ true → d < desks → at ≡ draft_at d → (get_or m at 0 ≡ 0 → ⊥) → 0 ≡ desk_refusal m d
  unfolding desk_refusal
  desk_holds e l q n = rw (e, lt-ltb d desks l, ne_eqb (held m d) 0 (rw q at n)) refl

  pub record DeskGoes : Type 0 where
    pub ok : formed m ≡ true
    pub desk : d < desks
    pub some : held m d ≡ 0 → ⊥
    pub draft : Draft m d

  pub desk_goes : desk_refusal m d ≡ 0 → DeskGoes
  unfolding desk_refusal
  desk_goes z =
      let a = passes (formed m) _ bad_memory refl z in
      let b = passes (ltb d desks) _ no_desk refl a.1 in
      let c = passes_not (eqb (held m d) 0) _ no_draft refl b.1 in
      let k = ltb-true d desks b.0 in
      let s = eqb-false (held m d) 0 c.0 in
      record { ok = a.0; desk = k; some = s; draft = held_draft m d a.0 k s }
