-- Every rule keeps what a history tells, and so every run does.
use Prim.Native.Nat.{ℕ, ◌<◌}
use native.Mathlib.Omega.{arith}
use native.Mathlib.Nat.{le_refl}
use mathlib.Core.Path.{◌≡◌, refl, sym, ap, ◌∙◌}
use mathlib.Core.Bool.{false, and-false}
use mathlib.Core.List.{List, [], ◌∷◌, map}
use mathlib.Core.Option.{Option, none, some}
use lib.Dec.{eqb}
use borrow.Author.Tests.{ne_eqb}
use Rattle.answers.specs.Answer.{Refused, Count}
use Rattle.register.specs.Calls.{Work, Call, new_hull, open_hull, work, save, drop_draft, ask}
use Rattle.history.specs.Replies.{Reply, says}
use Rattle.history.specs.Runs.{Event, ◌⇒◌, call}
use Rattle.history.specs.History.{block, role}
use Rattle.history.specs.Told.{opening, is_save_of, saves_of, redo}
use Rattle.history.proofs.Tools.{at_or, self}
use Rattle.history.proofs.Model.{Draft, State, refusal, at_desk, after_save}
use Rattle.history.proofs.ModelStep.{fresh, state_of, events_of}
use Rattle.history.proofs.Rules.{Refuses, work_idle}
use Rattle.history.proofs.Rules.{Way, new_enters, new_unread, open_done, work_taken, save_done, drop_done}
use Rattle.history.proofs.Rules.{ask_done, refused}
use Rattle.history.proofs.SomeRule.{by_ways}
use Rattle.history.proofs.AllReady.{Drafts, drafts, idle_none}
use Rattle.history.proofs.HistoryTells.{told_draft, Tells, drawn, drawn_none, drawn_opened, drawn_worked}
use Rattle.history.proofs.HistoryTells.{drawn_save}

-- ---- every rule

module _ {s : State} {past : List Event} (f : Tells s past) where
  -- an event that leaves both as they were
  same : (e : Event)
      → ((h : ℕ) → saves_of h (e ∷ past) ≡ saves_of h past)
      → ((d : ℕ) → told_draft d (e ∷ past) ≡ told_draft d past)
      → Tells s (e ∷ past)
  same e p q =
      record {
        edits = λ h. f.edits h ∙ sym (p h);
        drafts = λ d. f.drafts d ∙ sym (q d);
        unentered = λ h l. p h ∙ f.unentered h l;
      }

  -- an event that changes desk g's draft alone
  one_desk : (g : ℕ) {x : Option Draft} (e : Event)
      → ((h : ℕ) → saves_of h (e ∷ past) ≡ saves_of h past)
      → x ≡ told_draft g (e ∷ past)
      → ((d : ℕ) → eqb d g ≡ false → told_draft d (e ∷ past) ≡ told_draft d past)
      → Tells (at_desk s g x) (e ∷ past)
  one_desk g e p q o =
      let others : (d : ℕ) → eqb d g ≡ false → s.draft d ≡ told_draft d (e ∷ past) = λ d n. f.drafts d ∙ sym (o d n) in
      record {
        edits = λ h. f.edits h ∙ sym (p h);
        drafts = at_or g _ (rw self q) (λ d n. rw n (others d n));
        unentered = λ h l. p h ∙ f.unentered h l;
      }

  -- work by a desk that holds no draft
  idle : (g : ℕ) (w : Work) (r : Reply) → s.draft g ≡ none → Tells s ((work g w ⇒ r) ∷ past)
  unfolding block opening saves_of is_save_of role
  idle g w r q =
      let e : opening g past ≡ none = drawn_none (block g past) (opening g past) (sym (f.drafts g) ∙ q) in
      same _ (λ h. refl) (at_or g _ (rw (self, block, opening, e)) (λ d n. rw (n, block, opening)))

  tells_saves : (g : ℕ) (y : Draft) (n : ℕ)
      → s.draft g ≡ some y
      → y.hull < s.register.entered
      → Tells (after_save s g y) ((save g ⇒ says (Count n)) ∷ past)
  unfolding block opening saves_of is_save_of role
  tells_saves g y n q k =
      let z = drawn (block g past) (opening g past) y (sym (f.drafts g) ∙ q) in
      let u : z.from.hull ≡ y.hull = ap (λ (x : Draft). x.hull) z.draft in
      record {
        edits = rw (z.is, u) (at_or y.hull _ (rw (self, f.edits y.hull)) (λ h n. rw n (f.edits h)));
        drafts = at_or g _ (rw (self, block, opening)) (λ d n. rw (n, block, opening) (f.drafts d));
        unentered = λ h l. rw (z.is, u, ne_eqb h y.hull (λ e. omega arith)) (f.unentered h l);
      }

  -- a save that was refused
  unsaved : (g n : ℕ) → Tells s ((save g ⇒ says (Refused n)) ∷ past)
  unfolding block opening saves_of is_save_of role
  unsaved g n =
      same _ (λ h. refl)
      (at_or g _ (rw (self, block, opening) (drawn_save (block g past) (opening g past) g (says (Refused n))))
      (λ d n. rw (n, block, opening)))

  tells_refused : (c : Call) {n : ℕ} → Refuses s c n → Drafts s past → Tells s ((c ⇒ refusal c n) ∷ past)
  unfolding block opening saves_of is_save_of role
  tells_refused (new_hull t) p z = same _ (λ h. refl) (λ d. refl)
  tells_refused (open_hull g h) p z = same _ (λ h. refl) (λ d. rw (and-false (eqb d g), block, opening))
  tells_refused (work g w) (work_idle i) z = idle g w _ (idle_none past i z)
  tells_refused (save g) p z = unsaved g _
  tells_refused (drop_draft g) p z = same _ (λ h. refl) (λ d. rw (and-false (eqb d g), block, opening))
  tells_refused (ask h q) p z = same _ (λ h. refl) (λ d. refl)

  tells_step : {c : Call} {t : State} {r : Reply}
      → state_of (map call past) ≡ s
      → Way s c t r
      → Drafts s past
      → Tells t ((c ⇒ r) ∷ past)
  unfolding block opening saves_of is_save_of role redo
  tells_step w (new_enters r p e) z =
      let new : ℕ = s.register.entered in
      record {
        edits = at_or new _ (rw (self, f.unentered new (le_refl _))) (λ h n. rw n (f.edits h));
        drafts = f.drafts;
        unentered = λ h l. f.unentered h (omega arith);
      }
  tells_step w (new_unread n line byte p e) z = same _ (λ h. refl) (λ d. refl)
  tells_step w (open_done {d = g} {h} p q) z =
      one_desk g _ (λ h. refl)
      (rw (self, block, opening) (drawn_opened s past g h (says (Count (s.register.hull h).edits)) w (f.edits h)))
      (λ d n. rw (n, block, opening))
  tells_step w (work_taken {d = g} {w = x} y p q) z =
      one_desk g _ (λ h. refl)
      (rw (self, block, opening) (sym (drawn_worked (block g past) (opening g past) y g x (sym (f.drafts g) ∙ q))))
      (λ d n. rw (n, block, opening))
  tells_step w (save_done {d = g} y p q u l) z = tells_saves g y _ q (z g y q).hull
  tells_step w (drop_done {d = g} y p q) z =
      one_desk g _ (λ h. refl) (rw (self, block, opening)) (λ d n. rw (n, block, opening))
  tells_step w (ask_done p) z = same _ (λ h. refl) (λ d. refl)
  tells_step w (refused p) z = tells_refused _ p z

-- ---- every run

pub its_calls : (cs : List Call) → map call (events_of cs) ≡ cs
unfolding events_of
its_calls [] = refl
its_calls (c ∷ cs) = ap (λ (l : List Call). c ∷ l) (its_calls cs)

pub history_tells : (cs : List Call) → Tells (state_of cs) (events_of cs)
unfolding state_of events_of fresh block opening saves_of
history_tells [] = record { edits = λ h. refl; drafts = λ d. refl; unentered = λ h l. refl }
history_tells (c ∷ cs) =
    by_ways (state_of cs) c (λ t r. Tells t ((c ⇒ r) ∷ events_of cs))
    (λ t r p. tells_step (history_tells cs) (ap state_of (its_calls cs)) p (drafts cs))
