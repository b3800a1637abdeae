-- A memory shows a state of the model: the same count, hulls and drafts. Fresh start shows the model's start; a change
-- of one desk's slot shows that desk changed.
use Prim.Native.Nat.{ℕ, ◌<◌}
use native.Mathlib.Omega.{arith}
use mathlib.Core.Path.{◌≡◌, refl, sym, ap, ◌∙◌}
use mathlib.Core.Bool.{true, cond}
use mathlib.Core.List.{List}
use mathlib.Core.Option.{Option, none, some}
use lib.Dec.{eqb}
use borrow.Author.Tests.{eqb-true, eqb-false}
use Rattle.ground.proofs.Booleans.{by_test}
use Rattle.capacity.specs.Weights.{boat_m}
use Rattle.memory.specs.Layout.{most_hulls, desks, edit_at, held_at, hull_count, edit, hull_weight, hull_sheet, held}
use Rattle.memory.specs.Layout.{draft_hull, opening, draft_sheet}
use Rattle.memory.specs.Formed.{formed}
use Rattle.memory.specs.Updates.{fresh_words}
use Rattle.memory.proofs.Sound.{sound, held_draft}
use Rattle.memory.proofs.Slots.{SameHull, SameDraft}
use Rattle.memory.proofs.OneSlot.{ButDesk}
use Rattle.memory.proofs.Changes.{fresh_changes}
use Rattle.memory.proofs.Keeps.{fresh_formed}
use Rattle.history.proofs.Model.{Hull, Draft, State, at_desk}
use Rattle.history.proofs.ModelStep.{fresh}
use Rattle.history.proofs.Tools.{at_or, self, none≢some, some_inj}

-- the hull in slot h, and the draft in desk d's
abbrev pub hull_in : List ℕ → ℕ → Hull
hull_in m h = record { sheet = hull_sheet m h; edits = edit m h }

abbrev slot : List ℕ → ℕ → Draft
slot m d = record { hull = draft_hull m d; opening = opening m d; sheet = draft_sheet m d }

abbrev pub draft_in : List ℕ → ℕ → Option Draft
draft_in m d = cond (eqb (held m d) 0) none (some (slot m d))

pub record Shows (m : List ℕ) (s : State) : Type 0 where
  pub ok : formed m ≡ true
  pub counts : hull_count m ≡ s.register.entered
  pub hulls : (h : ℕ) → h < most_hulls → hull_in m h ≡ s.register.hull h
  pub drafts : (d : ℕ) → d < desks → draft_in m d ≡ s.draft d

pub fresh_shows : Shows fresh_words fresh
unfolding fresh
fresh_shows =
    let zeros = fresh_changes.words in
    record {
      ok = fresh_formed;
      counts = zeros 0;
      hulls = λ h l. rw (zeros (edit_at h)) refl;
      drafts = λ d l. rw (zeros (held_at d));
    }

-- ---- a desk's slot

-- desk d of the memory m holds the draft x
pub record Holds (m : List ℕ) (d : ℕ) (x : Draft) : Type 0 where
  pub some : held m d ≡ 0 → ⊥
  pub hull : draft_hull m d ≡ x.hull
  pub number : opening m d ≡ x.opening
  pub sheet : draft_sheet m d ≡ x.sheet

holds_it : (m : List ℕ) (d : ℕ) (x : Draft) → draft_in m d ≡ some x → Holds m d x
holds_it m d x e =
    by_test (eqb (held m d) 0) (λ z. absurd (none≢some (rw z at e)))
    (λ z.
    let v : slot m d ≡ x = some_inj (rw z at e) in
    rw (← v) (record { some = eqb-false (held m d) 0 z; hull = refl; number = refl; sheet = refl }))

pub holds_none : (m : List ℕ) (d : ℕ) → draft_in m d ≡ none → held m d ≡ 0
holds_none m d e =
    by_test (eqb (held m d) 0) (eqb-true (held m d) 0) (λ z. absurd (none≢some (sym (rw z at e))))

-- ---- slots that are as they were, and one desk's that is not

pub same_hull_in : {o m : List ℕ} {h : ℕ} → SameHull o m h → hull_in o h ≡ hull_in m h
same_hull_in c = rw (c.number, c.sheet)

pub same_draft_in : {o m : List ℕ} {d : ℕ} → SameDraft o m d → draft_in o d ≡ draft_in m d
same_draft_in c = rw (c.holds, c.hull, c.opened, c.sheet)

pub desk_shows : {m o : List ℕ} {s : State} {d : ℕ} {x : Option Draft}
    → Shows m s
    → formed o ≡ true
    → ButDesk o m d
    → draft_in o d ≡ x
    → Shows o (at_desk s d x)
desk_shows {d} S f c e =
    record {
      ok = f;
      counts = c.counts ∙ S.counts;
      hulls = λ h l. same_hull_in (c.hulls h l) ∙ S.hulls h l;
      drafts =
          at_or d _ (λ l. rw self e)
          (λ j n l. rw n (same_draft_in (c.others j l (eqb-false j d n)) ∙ S.drafts j l));
    }

-- ---- limits

module _ {m : List ℕ} {s : State} (S : Shows m s) where
  pub shown_few : {h : ℕ} → h < s.register.entered → h < most_hulls
  shown_few l = omega (arith, S.counts, (sound m S.ok).few)

  pub there_few : {h : ℕ} → h < hull_count m → h < most_hulls
  there_few l = omega (arith, (sound m S.ok).few)

  pub shown_number : {h : ℕ} → h < most_hulls → edit m h ≡ (s.register.hull h).edits
  shown_number {h} l = ap (λ (x : Hull). x.edits) (S.hulls h l)

  pub shown_sheet : {h : ℕ} → h < most_hulls → hull_sheet m h ≡ (s.register.hull h).sheet
  shown_sheet {h} l = ap (λ (x : Hull). x.sheet) (S.hulls h l)

  pub shown_weight : {h : ℕ} → h < s.register.entered → hull_weight m h ≡ boat_m (s.register.hull h).sheet
  shown_weight {h} l =
      ((sound m S.ok).hulls h (rw S.counts l)).sheet.weight_is ∙ ap boat_m (shown_sheet (shown_few l))

  pub shown_holds : {d : ℕ} {x : Draft} → d < desks → s.draft d ≡ some x → Holds m d x
  shown_holds {d} {x} l e = holds_it m d x (S.drafts d l ∙ e)

  pub shown_hull : {d : ℕ} {x : Draft} → d < desks → s.draft d ≡ some x → x.hull < s.register.entered
  shown_hull {d} {x} l e =
      let H = shown_holds l e in omega (arith, (held_draft m d S.ok l H.some).entered, H.hull, S.counts)
