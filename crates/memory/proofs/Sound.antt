-- What a well-formed memory has, slot by slot, and that a memory that has it is well formed.
use mathlib.Core.Path.{◌≡◌, refl}
use mathlib.Core.Bool.{Bool, true, false, ◌&&◌}
use mathlib.Core.Logic.{◌⊎◌, inl, inr}
use mathlib.Core.List.{List}
use Prim.Native.Nat.{ℕ, ◌≤◌, ◌<◌}
use borrow.Author.Tests.{ltb-true, leb-true, eqb-true, lt-ltb, le-leb, eq-eqb}
use lib.Dec.{eqb, leb, ltb}
use lib.ListN.{length}
use Rattle.ground.proofs.Booleans.{both_hold}
use Rattle.capacity.specs.Weights.{weighed_ok}
use Rattle.capacity.proofs.Scale.{Weighed, weighed, weighed_back}
use Rattle.memory.specs.Layout.{most_hulls, desks, register_words, Sized, Drafting}
use Rattle.memory.specs.Layout.{hull_count, edit, hull_weight, hull_sheet, held, draft_hull, opening}
use Rattle.memory.specs.Layout.{draft_weight, draft_sheet}
use Rattle.memory.specs.Formed.{most_edits, each, hull_ok, draft_ok, formed}
use Rattle.memory.proofs.Each.{each_at, each_every}

-- hull i is as an entered hull should be
pub record Hull (m : List ℕ) (i : ℕ) : Type 0 where
  pub number : edit m i ≤ most_edits
  pub sheet : Weighed (hull_weight m i) (hull_sheet m i)

-- desk d holds a draft that is as it should be
pub record Draft (m : List ℕ) (d : ℕ) : Type 0 where
  pub holds : held m d ≡ 1
  pub entered : draft_hull m d < hull_count m
  pub opened : opening m d ≤ edit m (draft_hull m d)
  pub sheet : Weighed (draft_weight m d) (draft_sheet m d)

pub record Sound (m : List ℕ) : Type 0 where
  pub size : Sized m
  pub few : hull_count m ≤ most_hulls
  pub hulls : (i : ℕ) → i < hull_count m → Hull m i
  pub drafts : (d : ℕ) → d < desks → (held m d ≡ 0) ⊎ Draft m d

-- ---- what a test that holds says of its slot

four_hold : (a b c d : Bool) → (a && (b && (c && d))) ≡ true → (a ≡ true) × (b ≡ true) × (c ≡ true) × (d ≡ true)
four_hold a b c d e =
    let p = both_hold a (b && (c && d)) e in
    let q = both_hold b (c && d) p.1 in
    let r = both_hold c d q.1 in
    (p.0, q.0, r.0, r.1)

hull_sound : (m : List ℕ) (i : ℕ) → hull_ok m i ≡ true → Hull m i
unfolding hull_ok
hull_sound m i e =
    let p = both_hold (leb (edit m i) most_edits) (weighed_ok (hull_weight m i) (hull_sheet m i)) e in
    record { number = leb-true (edit m i) most_edits p.0; sheet = weighed (hull_weight m i) (hull_sheet m i) p.1 }

draft_sound : (m : List ℕ) (d : ℕ) → draft_ok m d ≡ true → (held m d ≡ 0) ⊎ Draft m d
unfolding draft_ok
draft_sound m d e = go (eqb (held m d) 0) refl
  where
    go : (t : Bool) → eqb (held m d) 0 ≡ t → (held m d ≡ 0) ⊎ Draft m d
    go true z = inl (eqb-true (held m d) 0 z)
    go false z =
        let known : Bool = ltb (draft_hull m d) (hull_count m) in
        let ordered : Bool = leb (opening m d) (edit m (draft_hull m d)) in
        let right : Bool = weighed_ok (draft_weight m d) (draft_sheet m d) in
        let p = four_hold (eqb (held m d) 1) known ordered right (rw z at e) in
        inr (record {
          holds = eqb-true (held m d) 1 p.0;
          entered = ltb-true (draft_hull m d) (hull_count m) p.1;
          opened = leb-true (opening m d) (edit m (draft_hull m d)) p.2;
          sheet = weighed (draft_weight m d) (draft_sheet m d) p.3;
        })

pub sound : (m : List ℕ) → formed m ≡ true → Sound m
unfolding formed
sound m e =
    let n : ℕ = hull_count m in
    let p = four_hold (eqb (length m) register_words) (leb n most_hulls) (each n (hull_ok m)) (each desks (draft_ok m)) e in
    record {
      size = eqb-true (length m) register_words p.0;
      few = leb-true n most_hulls p.1;
      hulls = λ (i : ℕ) (l : i < n). hull_sound m i (each_at (hull_ok m) n i l p.2);
      drafts = λ (d : ℕ) (l : d < desks). draft_sound m d (each_at (draft_ok m) desks d l p.3);
    }

-- a desk that is not free holds a draft that is as it should be
pub held_draft : (m : List ℕ) (d : ℕ) → formed m ≡ true → d < desks → Drafting m d → Draft m d
held_draft m d e l n = elim ((sound m e).drafts d l) [ inl z ↦ absurd (n z) | inr h ↦ h ]

-- ---- the other way

hull_holds : (m : List ℕ) (i : ℕ) → Hull m i → hull_ok m i ≡ true
unfolding hull_ok
hull_holds m i h = rw (le-leb (edit m i) most_edits h.number) (weighed_back h.sheet)

draft_holds : (m : List ℕ) (d : ℕ) → (held m d ≡ 0) ⊎ Draft m d → draft_ok m d ≡ true
unfolding draft_ok
draft_holds m d (inl z) = rw (eq-eqb (held m d) 0 z) refl
draft_holds m d (inr h) =
    let i : ℕ = draft_hull m d in
    rw (h.holds, lt-ltb i (hull_count m) h.entered, le-leb (opening m d) (edit m i) h.opened)
    (weighed_back h.sheet)

pub sound_formed : (m : List ℕ) → Sound m → formed m ≡ true
unfolding formed
sound_formed m s =
    let hulls = each_every (hull_ok m) (hull_count m) (λ i l. hull_holds m i (s.hulls i l)) in
    let drafts = each_every (draft_ok m) desks (λ d l. draft_holds m d (s.drafts d l)) in
    rw (eq-eqb (length m) register_words s.size, le-leb (hull_count m) most_hulls s.few, hulls, drafts) refl
