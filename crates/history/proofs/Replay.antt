-- A desk's draft and its block: wherever the draft's hull is as it was at the open, the calls of the block give that
-- draft again, each with the reply that it had.
use Prim.Native.Nat.{ℕ, ◌≤◌, ◌<◌}
use native.Mathlib.Omega.{arith}
use native.Mathlib.Nat.{le_refl}
use mathlib.Core.Path.{◌≡◌, ap, refl}
use mathlib.Core.Bool.{true}
use mathlib.Core.List.{List, ◌∷◌, ◌++◌, map, []}
use mathlib.Core.Option.{some}
use lib.ListN.{length}
use borrow.Author.Tests.{eq-eqb, ne_eqb}
use Rattle.ground.proofs.Booleans.{by_equal}
use Rattle.answers.specs.Answer.{Count}
use Rattle.sheet.specs.Places.{sheet_words}
use Rattle.memory.specs.Layout.{desks}
use Rattle.memory.specs.Formed.{most_edits}
use Rattle.register.specs.Calls.{Call, Work, open_hull, work}
use Rattle.history.specs.Replies.{Reply, says}
use Rattle.history.specs.Runs.{Event, ◌⇒◌, call}
use Rattle.history.proofs.WholeBlock.{saveless}
use Rattle.history.proofs.Model.{Draft, Register, State, Outcome, work_says, store, opens, edited}
use Rattle.history.proofs.ModelStep.{state_of, events_of}
use Rattle.history.proofs.Rules.{Way, way_taken, open_done, work_taken}
use Rattle.history.proofs.Moves.{Made, made_opened, made_worked}
use Rattle.history.proofs.Tools.{self}

-- ---- a rule, as what it adds to a run

pub state_by : (cs : List Call) {c : Call} {t : State} {r : Reply} → Way (state_of cs) c t r → state_of (c ∷ cs) ≡ t
unfolding state_of
state_by cs p = ap (λ (o : Outcome). o.state) (way_taken (state_of cs) p)

pub events_by : (cs : List Call) {c : Call} {t : State} {r : Reply}
    → Way (state_of cs) c t r
    → events_of (c ∷ cs) ≡ (c ⇒ r) ∷ events_of cs
unfolding events_of
events_by cs {c} p = ap (λ (o : Outcome). (c ⇒ o.reply) ∷ events_of cs) (way_taken (state_of cs) p)

-- ---- a block run again

-- after the calls cs the block b gives the draft x at desk d, and replies as it did
pub record Replays (d : ℕ) (x : Draft) (b : List Event) (cs : List Call) : Type 0 where
  pub replies : events_of (map call b ++ cs) ≡ b ++ events_of cs
  pub register : (state_of (map call b ++ cs)).register ≡ (state_of cs).register
  pub draft : (state_of (map call b ++ cs)).draft d ≡ some x

-- where the draft x may still be saved
abbrev pub IfSavable : Register → Draft → Type 0 → Type 0
IfSavable R x P = (R.hull x.hull).edits ≡ x.opening → ((R.hull x.hull).edits ≡ most_edits → ⊥) → P

-- the draft x of desk d, made by the calls b: while it may still be saved, b has no save, makes x of its hull's sheet,
-- and gives x wherever its hull is as it is here
pub record Ready (R : Register) (d : ℕ) (x : Draft) (b : List Event) : Type 0 where
  pub desk : d < desks
  pub hull : x.hull < R.entered
  pub grown : x.opening ≤ (R.hull x.hull).edits
  pub clean : IfSavable R x (saveless b ≡ true)
  pub made : IfSavable R x (Made b (R.hull x.hull).sheet x.sheet)
  pub replays : IfSavable R x
      ((cs : List Call)
      → x.hull < (state_of cs).register.entered
      → (state_of cs).register.hull x.hull ≡ R.hull x.hull
      → Replays d x b cs)

module _ {R : Register} {d : ℕ} {x : Draft} {b : List Event} (r : Ready R d x b) where
  pub kept : (Q : Register) → R.entered ≤ Q.entered → Q.hull x.hull ≡ R.hull x.hull → Ready Q d x b
  kept Q l e =
      record {
        desk = r.desk;
        hull = omega (arith, r.hull);
        grown = rw e r.grown;
        clean = rw e r.clean;
        made = rw e r.made;
        replays = rw e r.replays;
      }

  -- a draft that can no longer be saved
  pub lost : (Q : Register) (c : List Event)
      → R.entered ≤ Q.entered
      → IfSavable Q x ⊥
      → x.opening ≤ (Q.hull x.hull).edits
      → Ready Q d x c
  lost Q c l never g =
      record {
        desk = r.desk;
        hull = omega (arith, r.hull);
        grown = g;
        clean = λ p q. absurd (never p q);
        made = λ p q. absurd (never p q);
        replays = λ p q. absurd (never p q);
      }

-- ---- an open, work, and a save by another desk

-- a draft just opened
pub opened_ready : (R : Register) (d h : ℕ)
    → d < desks
    → h < R.entered
    → Ready R d (opens R h) ((open_hull d h ⇒ says (Count (R.hull h).edits)) ∷ [])
unfolding saveless
opened_ready R d h p q =
    let made = made_opened d h _ (R.hull h).sheet in
    record { desk = p; hull = q; grown = le_refl _; clean = λ _ _. refl; made = λ _ _. made; replays = λ _ _. again }
  where
    again : (cs : List Call)
        → h < (state_of cs).register.entered
        → (state_of cs).register.hull h ≡ R.hull h
        → Replays d (opens R h) ((open_hull d h ⇒ says (Count (R.hull h).edits)) ∷ []) cs
    again cs l e =
        let is = state_by cs (open_done p l) in
        record { replies = rw (events_by cs (open_done p l), e); register = rw is; draft = rw (is, self, e) }

module _ {R : Register} {d : ℕ} {x : Draft} {b : List Event} (r : Ready R d x b) where
  -- a draft that was worked on, whose sheet has all of its words
  pub worked_ready : (w : Work)
      → length x.sheet ≡ sheet_words
      → Ready R d (edited w x) ((work d w ⇒ work_says w x.sheet) ∷ b)
  unfolding saveless
  worked_ready w n =
      record {
        desk = r.desk;
        hull = r.hull;
        grown = r.grown;
        clean = r.clean;
        made = λ p q. made_worked d w n (r.made p q);
        replays = λ p q cs l e. more cs (r.replays p q cs l e);
      }
    where
      more : (cs : List Call) → Replays d x b cs → Replays d (edited w x) ((work d w ⇒ work_says w x.sheet) ∷ b) cs
      more cs o =
          let rule : Way (state_of (map call b ++ cs)) (work d w) _ _ = work_taken x r.desk o.draft in
          let is = state_by (map call b ++ cs) rule in
          record {
            replies = rw (events_by (map call b ++ cs) rule, o.replies);
            register = rw is o.register;
            draft = rw (is, self);
          }

  -- another desk's save: of the draft's own hull, which it leaves behind, or of another
  pub store_ready : (y : Draft) → Ready (store R y) d x b
  store_ready y =
      by_equal x.hull y.hull
      (λ h.
      let g : x.opening < ((store R y).hull x.hull).edits = rw (eq-eqb _ _ h, ← h) (omega (arith, r.grown)) in
      lost r _ b (le_refl _) (λ p q. omega arith) (omega arith))
      (λ h. kept r _ (le_refl _) (rw (ne_eqb _ _ h)))
