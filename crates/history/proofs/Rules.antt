-- A step as rules: each has its conditions on the state, and the state and reply that it makes. The refusals by a
-- number alone are one rule, and each has its reason; that of a new hull's text, with its place, is another.
use Prim.Native.Nat.{ℕ, suc, ◌≤◌, ◌<◌}
use mathlib.Core.Path.{◌≡◌}
use mathlib.Core.List.{List}
use mathlib.Core.Option.{none, some}
use borrow.Author.Tests.{lt-ltb, le-ltb, eq-eqb, ne_eqb}
use Rattle.form.specs.Outcome.{right, wrong}
use Rattle.answers.specs.Refusals.{full, no_hull, no_desk, no_draft, edited_since, edits_spent}
use Rattle.answers.specs.Answer.{RefusedAt, Done, Count}
use Rattle.sheet.specs.SheetText.{read_sheet}
use Rattle.memory.specs.Layout.{most_hulls, desks}
use Rattle.memory.specs.Formed.{most_edits}
use Rattle.register.specs.Calls.{Work, Ask, Call, new_hull, open_hull, work, save, drop_draft, ask}
use Rattle.history.specs.Replies.{Reply, says}
use Rattle.history.proofs.Model.{Draft, State, work_says, ask_says, refusal, refuse, at_desk, after_entry, opens}
use Rattle.history.proofs.Model.{Outcome, gives, edited, after_save, edits_of}
use Rattle.history.proofs.ModelStep.{on_desk, save_of, step}

-- desk d holds no draft: there is no such desk, or none is open
pub data Idle (s : State) (d : ℕ) : ℕ → Type 0 where
  desk_unknown : desks ≤ d → Idle s d no_desk
  draft_missing : d < desks → s.draft d ≡ none → Idle s d no_draft

-- the state refuses the call with that number
pub data Refuses (s : State) : Call → ℕ → Type 0 where
  no_room : {t : List ℕ} → most_hulls ≤ s.register.entered → Refuses s (new_hull t) full
  open_unknown : {d h : ℕ} → d < desks → s.register.entered ≤ h → Refuses s (open_hull d h) no_hull
  open_high : {d h : ℕ} → desks ≤ d → Refuses s (open_hull d h) no_desk
  work_idle : {d n : ℕ} {w : Work} → Idle s d n → Refuses s (work d w) n
  save_idle : {d n : ℕ} → Idle s d n → Refuses s (save d) n
  save_spent : {d : ℕ} (x : Draft)
      → d < desks
      → s.draft d ≡ some x
      → edits_of s x ≡ x.opening
      → edits_of s x ≡ most_edits
      → Refuses s (save d) edits_spent
  save_stale : {d : ℕ} (x : Draft)
      → d < desks
      → s.draft d ≡ some x
      → (edits_of s x ≡ x.opening → ⊥)
      → Refuses s (save d) edited_since
  drop_idle : {d n : ℕ} → Idle s d n → Refuses s (drop_draft d) n
  ask_unknown : {h : ℕ} {q : Ask} → s.register.entered ≤ h → Refuses s (ask h q) no_hull

pub data Way (s : State) : Call → State → Reply → Type 0 where
  new_enters : {t : List ℕ} (r : List ℕ)
      → s.register.entered < most_hulls
      → read_sheet t ≡ right r
      → Way s (new_hull t) (after_entry s t) (says (Count s.register.entered))
  new_unread : {t : List ℕ} (n line byte : ℕ)
      → s.register.entered < most_hulls
      → read_sheet t ≡ wrong n line byte
      → Way s (new_hull t) s (says (RefusedAt n line byte))
  open_done : {d h : ℕ}
      → d < desks
      → h < s.register.entered
      → Way s (open_hull d h) (at_desk s d (some (opens s.register h))) (says (Count (s.register.hull h).edits))
  work_taken : {d : ℕ} {w : Work} (x : Draft)
      → d < desks
      → s.draft d ≡ some x
      → Way s (work d w) (at_desk s d (some (edited w x))) (work_says w x.sheet)
  save_done : {d : ℕ} (x : Draft)
      → d < desks
      → s.draft d ≡ some x
      → edits_of s x ≡ x.opening
      → (edits_of s x ≡ most_edits → ⊥)
      → Way s (save d) (after_save s d x) (says (Count (suc (edits_of s x))))
  drop_done : {d : ℕ} (x : Draft) → d < desks → s.draft d ≡ some x → Way s (drop_draft d) (at_desk s d none) (says Done)
  ask_done : {h : ℕ} {q : Ask} → h < s.register.entered → Way s (ask h q) s (ask_says h q (s.register.hull h).sheet)
  refused : {c : Call} {n : ℕ} → Refuses s c n → Way s c s (refusal c n)

-- each rule is what the step computes
idle_refused : (s : State) {d n : ℕ} (c : Call) (f : Draft → Outcome) → Idle s d n → on_desk s d c f ≡ refuse s c n
idle_refused s c f (desk_unknown p) = rw (le-ltb _ _ p)
idle_refused s c f (draft_missing p q) = rw (lt-ltb _ _ p, q)

refusal_taken : (s : State) {c : Call} {n : ℕ} → Refuses s c n → step s c ≡ refuse s c n
unfolding step
refusal_taken s (no_room p) = rw (le-ltb _ _ p)
refusal_taken s (open_unknown p q) = rw (lt-ltb _ _ p, le-ltb _ _ q)
refusal_taken s (open_high p) = rw (le-ltb _ _ p)
refusal_taken s (work_idle {d = d} {w = w} p) =
    idle_refused s (work d w)
    (λ (x : Draft). record { state = at_desk s d (some (edited w x)); reply = work_says w x.sheet }) p
refusal_taken s (save_idle {d = d} p) = idle_refused s (save d) (save_of s d) p
refusal_taken s (save_spent x p q e n) = rw (lt-ltb _ _ p, q, eq-eqb _ _ n, eq-eqb _ _ e)
refusal_taken s (save_stale x p q e) = rw (lt-ltb _ _ p, q, ne_eqb _ _ e)
refusal_taken s (drop_idle {d = d} p) =
    idle_refused s (drop_draft d) (λ (x : Draft). gives (at_desk s d none) Done) p
refusal_taken s (ask_unknown p) = rw (le-ltb _ _ p)

pub way_taken : (s : State) {c : Call} {t : State} {r : Reply}
    → Way s c t r
    → step s c ≡ record { state = t; reply = r }
unfolding step
way_taken s (new_enters r p e) = rw (lt-ltb _ _ p, e)
way_taken s (new_unread n line byte p e) = rw (lt-ltb _ _ p, e)
way_taken s (open_done p q) = rw (lt-ltb _ _ p, lt-ltb _ _ q)
way_taken s (work_taken x p q) = rw (lt-ltb _ _ p, q)
way_taken s (save_done x p q e n) = rw (lt-ltb _ _ p, q, ne_eqb _ _ n, eq-eqb _ _ e)
way_taken s (drop_done x p q) = rw (lt-ltb _ _ p, q)
way_taken s (ask_done p) = rw (lt-ltb _ _ p)
way_taken s (refused p) = refusal_taken s p
