-- Every desk's draft stays ready to be run again, whatever rule is taken.
use Prim.Native.Nat.{ℕ, ◌<◌}
use native.Mathlib.Omega.{arith}
use native.Mathlib.Nat.{le_refl}
use mathlib.Core.Path.{◌≡◌, refl, sym, ap, ◌∙◌}
use mathlib.Core.Bool.{false, and-false}
use mathlib.Core.List.{List, [], ◌∷◌}
use mathlib.Core.Option.{Option, none, some}
use lib.Dec.{eqb}
use lib.ListN.{length}
use borrow.Author.Tests.{ne_eqb}
use Rattle.sheet.specs.Places.{sheet_words}
use Rattle.memory.specs.Layout.{desks}
use Rattle.memory.specs.Updates.{fresh_words}
use Rattle.memory.proofs.Sound.{sound}
use Rattle.memory.proofs.Slots.{draft_long}
use Rattle.memory.proofs.Changes.{fresh_changes}
use Rattle.register.specs.Calls.{Call, work, save, drop_draft}
use Rattle.history.specs.Replies.{Reply}
use Rattle.history.specs.Runs.{Event, ◌⇒◌}
use Rattle.history.specs.History.{block, role}
use Rattle.history.proofs.Tools.{at_or, self, none≢some, some_inj}
use Rattle.history.proofs.Model.{Draft, State, refusal, opens, edited}
use Rattle.history.proofs.ModelStep.{fresh, state_of, events_of}
use Rattle.history.proofs.Rules.{Idle, desk_unknown, draft_missing, Refuses, no_room, open_unknown, open_high}
use Rattle.history.proofs.Rules.{work_idle, save_idle, save_spent, save_stale, drop_idle, ask_unknown}
use Rattle.history.proofs.Rules.{Way, new_enters, new_unread, open_done, work_taken, save_done, drop_done}
use Rattle.history.proofs.Rules.{ask_done, refused}
use Rattle.history.proofs.SomeRule.{by_ways}
use Rattle.history.proofs.Shown.{shown_holds}
use Rattle.history.proofs.RunsShown.{run_shows}
use Rattle.history.proofs.Replay.{Ready, IfSavable, kept, lost, opened_ready, worked_ready, store_ready}

-- ---- every rule keeps every desk's draft and block so

abbrev pub Drafts : State → List Event → Type 0
Drafts s past = (d : ℕ) (x : Draft) → s.draft d ≡ some x → Ready s.register d x (block d past)

-- a desk that is refused for want of a draft has none
pub idle_none : {s : State} {d n : ℕ} (past : List Event) → Idle s d n → Drafts s past → s.draft d ≡ none
idle_none past (draft_missing p q) f = q
idle_none {s} {d} past (desk_unknown p) f = go (s.draft d) refl
  where
    go : (o : Option Draft) → s.draft d ≡ o → s.draft d ≡ none
    go none e = e
    go (some x) e = absurd (omega (arith, (f d x e).desk))

-- every draft's sheet has all of its words
abbrev Long : State → Type 0
Long s = (d : ℕ) (x : Draft) → d < desks → s.draft d ≡ some x → length x.sheet ≡ sheet_words

run_long : (cs : List Call) → Long (state_of cs)
run_long cs d x l e =
    let S = run_shows fresh_words fresh_changes.size cs in
    let H = shown_holds S l e in
    sym (ap length H.sheet) ∙ draft_long _ d (sound _ S.ok).size l

module _ (s : State) (past : List Event) (f : Drafts s past) (long : Long s) where
  -- a call of desk g that it makes without a draft
  ready_idle : {g n : ℕ} (c : Call)
      → Idle s g n
      → ((d : ℕ) → eqb d g ≡ false → block d ((c ⇒ refusal c n) ∷ past) ≡ block d past)
      → Drafts s ((c ⇒ refusal c n) ∷ past)
  ready_idle {g} c i o =
      at_or g _ (λ x q. absurd (none≢some (sym (idle_none past i f) ∙ q))) (λ d n x q. rw (o d n) (f d x q))

  -- a save of a draft that can no longer be saved
  ready_late : {g : ℕ} (n : ℕ) (y : Draft)
      → s.draft g ≡ some y
      → IfSavable s.register y ⊥
      → Drafts s ((save g ⇒ refusal (save g) n) ∷ past)
  unfolding block role
  ready_late {g} n y q never =
      at_or g _
      (λ x e. let v : y ≡ x = some_inj (sym q ∙ e) in let z = f g x e in
      rw (self, block) (lost z _ _ (le_refl _) (rw v at never) z.grown))
      (λ d n x e. rw (n, block) (f d x e))

  ready_refused : {c : Call} {n : ℕ} → Refuses s c n → Drafts s ((c ⇒ refusal c n) ∷ past)
  unfolding block role
  ready_refused (no_room p) = f
  ready_refused (open_unknown {d = g} p q) = λ d x e. rw (and-false (eqb d g), block) (f d x e)
  ready_refused (open_high {d = g} p) = λ d x e. rw (and-false (eqb d g), block) (f d x e)
  ready_refused (work_idle {d} {w} i) = ready_idle (work d w) i (λ d n. rw (n, block))
  ready_refused (save_idle {d} i) = ready_idle (save d) i (λ d n. rw (n, block))
  ready_refused (save_spent y p q u l) = ready_late _ y q (λ a b. b l)
  ready_refused (save_stale y p q u) = ready_late _ y q (λ a b. u a)
  ready_refused (drop_idle {d} i) = ready_idle (drop_draft d) i (λ d n. rw (n, block))
  ready_refused (ask_unknown p) = f

  ready_step : {c : Call} {t : State} {r : Reply} → Way s c t r → Drafts t ((c ⇒ r) ∷ past)
  unfolding block role
  ready_step (new_enters r p e) =
      λ d x e. let z = f d x e in
      kept z _ (omega arith) (rw (ne_eqb x.hull s.register.entered (omega (arith, z.hull))))
  ready_step (new_unread n line byte p e) = f
  ready_step (open_done {d = g} {h} p q) =
      at_or g _
      (λ x e. let u : opens s.register h ≡ x = some_inj (rw self at e) in
      rw (self, block, ← u) (opened_ready s.register g h p q))
      (λ d n x e. rw (n, block) (f d x (rw n at e)))
  ready_step (work_taken {d = g} {w} y p q) =
      at_or g _
      (λ x e. let u : edited w y ≡ x = some_inj (rw self at e) in rw (self, block, ← u)
      (worked_ready (f g y q) w (long g y p q)))
      (λ d n x e. rw (n, block) (f d x (rw n at e)))
  ready_step (save_done {d = g} y p q u l) =
      at_or g _ (λ x e. absurd (none≢some (rw self at e)))
      (λ d n x e. rw (n, block) (store_ready (f d x (rw n at e)) y))
  ready_step (drop_done {d = g} y p q) =
      at_or g _ (λ x e. absurd (none≢some (rw self at e))) (λ d n x e. rw (n, block) (f d x (rw n at e)))
  ready_step (ask_done p) = f
  ready_step (refused p) = ready_refused p

pub drafts : (cs : List Call) → Drafts (state_of cs) (events_of cs)
unfolding state_of events_of fresh
drafts [] = λ d x e. absurd (none≢some e)
drafts (c ∷ cs) =
    by_ways (state_of cs) c (λ t r. Drafts t ((c ⇒ r) ∷ events_of cs))
    (λ t r p. ready_step (state_of cs) (events_of cs) (drafts cs) (run_long cs) p)
