-- A run on memory, from fresh start, shows the model's run at each call and has the model's history.
use Prim.Native.Nat.{ℕ, suc}
use native.Mathlib.Numerals.{add-one}
use mathlib.Core.Path.{◌≡◌, refl, sym}
use mathlib.Core.List.{List, [], ◌∷◌}
use lib.ListN.{length}
use borrow.Author.Tests.{eq-eqb, ne_eqb}
use Rattle.answers.specs.Answer.{Refused, RefusedAt, Done, Count}
use Rattle.memory.specs.Layout.{register_words}
use Rattle.register.specs.Refusals.{on_text}
use Rattle.register.specs.Calls.{Call, new_hull, open_hull, save, drop_draft}
use Rattle.register.specs.Calls as calls
use Rattle.register.proofs.Refusals as Refusals
use Rattle.register.proofs.Refusals.{hull_there, hull_absent, room_none, open_absent, open_there}
use Rattle.register.proofs.Effects.{fresh_right_size}
use Rattle.history.specs.Replies.{Reply, reply, next}
use Rattle.history.specs.Runs.{after, history}
use Rattle.history.proofs.Model.{State, edits_of}
use Rattle.history.proofs.ModelStep.{step, state_of, events_of}
use Rattle.history.proofs.Rules.{Refuses, no_room, open_unknown, open_high}
use Rattle.history.proofs.Rules.{work_idle, save_idle, save_spent, save_stale, drop_idle, ask_unknown}
use Rattle.history.proofs.Rules.{Way, new_enters, new_unread, open_done, work_taken, save_done, drop_done}
use Rattle.history.proofs.Rules.{ask_done, refused}
use Rattle.history.proofs.SomeRule.{by_ways}
use Rattle.history.proofs.Shown.{Shows, fresh_shows, shown_few, shown_number, shown_holds}
use Rattle.history.proofs.Worked.{works}
use Rattle.history.proofs.CallsShown.{Tied, kept, done, asks, holds_desk, idle_desk, room, enters_shown}
use Rattle.history.proofs.CallsShown.{opens_shown, drops_shown, its_number, saves_shown}

-- ---- every rule

module _ {m : List ℕ} {s : State} (S : Shows m s) where
  refused_step : {c : Call} {n : ℕ} → Refuses s c n → (calls.step m c).answer ≡ Refused n
  refused_step (no_room p) = rw (← room_none m S.ok refl (rw S.counts p)) refl
  refused_step (open_unknown {d} {h} p q) = rw (← open_absent m d h S.ok p (rw S.counts q)) refl
  refused_step (open_high {d} {h} p) = rw (← Refusals.open_high m d h S.ok p) refl
  refused_step (work_idle i) = idle_desk S _ i
  refused_step (save_idle i) = idle_desk S _ i
  refused_step (save_spent x p q e n) =
      let number = (shown_holds S p q).number in
      rw (holds_desk S p q, its_number S x p q, number, eq-eqb _ _ n, eq-eqb _ _ e) refl
  refused_step (save_stale x p q e) =
      rw (holds_desk S p q, its_number S x p q, (shown_holds S p q).number, ne_eqb _ _ e) refl
  refused_step (drop_idle i) = idle_desk S _ i
  refused_step (ask_unknown {h} p) = rw (← hull_absent m h S.ok (rw S.counts p)) refl

  tied_step : {c : Call} {t : State} {r : Reply} → Way s c t r → Tied (next m c) (reply m c) t r
  tied_step (new_enters {t} r p e) =
      done S (new_hull t) (Count s.register.entered) (rw (room S p, e, on_text, S.counts) refl) refl
      (enters_shown S t r p e)
  tied_step (new_unread {t} n line byte p e) =
      kept S (new_hull t) (RefusedAt n line byte) (rw (room S p, e, on_text) refl) refl
  tied_step (open_done {d} {h} p q) =
      let z = sym (open_there m d h S.ok p (rw S.counts q)) in
      done S (open_hull d h) (Count (s.register.hull h).edits) (rw (z, shown_number S (shown_few S q)) refl) refl
      (opens_shown S d h q z)
  tied_step (work_taken {w} x p q) = works S (shown_holds S p q) w (holds_desk S p q)
  tied_step (save_done {d} x p q e n) =
      let number = (shown_holds S p q).number in
      done S (save d) (Count (suc (edits_of s x)))
      (rw (holds_desk S p q, its_number S x p q, number, ne_eqb _ _ n, eq-eqb _ _ e, add-one) refl) refl
      (saves_shown S x p q)
  tied_step (drop_done {d} x p q) =
      let z = holds_desk S p q in done S (drop_draft d) Done (rw z refl) refl (drops_shown S d z)
  tied_step (ask_done {h} {q} p) = asks S h q p (sym (hull_there m h S.ok (rw S.counts p)))
  tied_step (refused {c} {n} p) = kept S c (Refused n) (refused_step p) refl

tied : (m : List ℕ) (s : State) (c : Call) → Shows m s → Tied (next m c) (reply m c) (step s c).state (step s c).reply
tied m s c S = by_ways s c (λ t r. Tied (next m c) (reply m c) t r) (λ t r. tied_step S)

-- ---- every run

module _ (m : List ℕ) (z : length m ≡ register_words) where
  pub run_shows : (cs : List Call) → Shows (after m cs) (state_of cs)
  unfolding after state_of
  run_shows [] = rw (fresh_right_size m z).1 fresh_shows
  run_shows (c ∷ cs) = (tied (after m cs) (state_of cs) c (run_shows cs)).shows

  pub run_replies : (cs : List Call) (c : Call) → reply (after m cs) c ≡ (step (state_of cs) c).reply
  run_replies cs c = (tied (after m cs) (state_of cs) c (run_shows cs)).replies

  pub run_history : (cs : List Call) → history m cs ≡ events_of cs
  unfolding history events_of
  run_history [] = refl
  run_history (c ∷ cs) = rw (run_replies cs c, run_history cs) refl
