-- The list of demand 3, run from fresh in the model: the same register, and the same reply to each call kept.
use Prim.Native.Nat.{ℕ, suc, ◌<◌}
use mathlib.Core.Path.{◌≡◌, refl, ap, ◌∙◌}
use mathlib.Core.Bool.{Bool}
use mathlib.Core.List.{List, [], ◌∷◌, ◌++◌, map}
use Rattle.ground.proofs.Booleans.{by_test}
use Rattle.answers.specs.Answer.{Count}
use Rattle.memory.specs.Formed.{most_edits}
use Rattle.register.specs.Calls.{Ask, Call, new_hull, open_hull, work, save, drop_draft, ask}
use Rattle.history.specs.Replies.{Reply, says}
use Rattle.history.specs.Runs.{Event, ◌⇒◌, call}
use Rattle.history.specs.History.{spot, serial}
use Rattle.history.proofs.Model.{Draft, Register, State, ask_says, refusal, store}
use Rattle.history.proofs.ModelStep.{state_of, events_of}
use Rattle.history.proofs.Rules.{Refuses, no_room, ask_unknown}
use Rattle.history.proofs.Rules.{Way, new_enters, new_unread, open_done, work_taken, save_done, drop_done}
use Rattle.history.proofs.Rules.{ask_done, refused}
use Rattle.history.proofs.SomeRule.{by_ways}
use Rattle.history.proofs.Replay.{state_by, events_by, Replays, Ready}
use Rattle.history.proofs.AllReady.{Drafts, drafts}

-- from fresh, the calls in es end with the register R, and are answered as es says
pub record RunsTo (R : Register) (es : List Event) : Type 0 where
  pub replies : events_of (map call es) ≡ es
  pub register : (state_of (map call es)).register ≡ R

-- ---- one call more

module _ {R : Register} {es : List Event} (g : RunsTo R es) where
  one_more : {Q : Register} {c : Call} {t : State} {r : Reply}
      → Way (state_of (map call es)) c t r
      → t.register ≡ Q
      → RunsTo Q ((c ⇒ r) ∷ es)
  one_more p e =
      record { replies = rw (events_by (map call es) p, g.replies); register = rw (state_by (map call es) p) e }

  asks_runs : (h : ℕ) (q : Ask) → h < R.entered → RunsTo R ((ask h q ⇒ ask_says h q (R.hull h).sheet) ∷ es)
  asks_runs h q p = rw (← g.register) (one_more (ask_done (rw g.register p)) refl)

  refused_runs : {c : Call} {n : ℕ} → Refuses (state_of (map call es)) c n → RunsTo R ((c ⇒ refusal c n) ∷ es)
  refused_runs p = one_more (refused p) g.register

-- ---- one block more, and its save

pub calls_append : (b es : List Event) → map call (b ++ es) ≡ map call b ++ map call es
calls_append [] es = refl
calls_append (e ∷ b) es = ap (λ (l : List Call). call e ∷ l) (calls_append b es)

saves_runs : {R : Register} {es : List Event} {d : ℕ} {x : Draft} {b : List Event}
    → Ready R d x b
    → (R.hull x.hull).edits ≡ x.opening
    → ((R.hull x.hull).edits ≡ most_edits → ⊥)
    → RunsTo R es
    → RunsTo (store R x) ((save d ⇒ says (Count (suc (R.hull x.hull).edits))) ∷ (b ++ es))
saves_runs {R} {es} {d} {x} {b} r u l g =
    let cs : List Call = map call es in
    let z : Replays d x b cs = r.replays u l cs (rw g.register r.hull) (rw g.register) in
    let same : (state_of (map call b ++ cs)).register ≡ R = z.register ∙ g.register in
    let rule : Way (state_of (map call b ++ cs)) (save d) _ _ =
    save_done x r.desk z.draft (rw same u) (rw same l) in
    record {
      replies = rw (calls_append b es, events_by (map call b ++ cs) rule, same, z.replies, g.replies);
      register = rw (calls_append b es, state_by (map call b ++ cs) rule, same);
    }

-- ---- every rule. What is asked of a hull changes no register, so the list runs so with it and without it.

module _ (kept : Ask → Bool) where
  kept_or_not : {R : Register} (past : List Event) (h : ℕ) (q : Ask) (r : Reply)
      → RunsTo R (serial kept past)
      → RunsTo R ((ask h q ⇒ r) ∷ serial kept past)
      → RunsTo R (serial kept ((ask h q ⇒ r) ∷ past))
  unfolding serial spot
  kept_or_not past h q r without with_it =
      by_test (kept q) (λ t. rw (t, serial) with_it) (λ t. rw (t, serial) without)

  serial_refused : {s : State} (past : List Event) (c : Call) {n : ℕ}
      → Refuses s c n
      → RunsTo s.register (serial kept past)
      → RunsTo s.register (serial kept ((c ⇒ refusal c n) ∷ past))
  unfolding serial spot
  serial_refused past (new_hull t) (no_room p) g = refused_runs g (no_room (rw g.register p))
  serial_refused past (open_hull d h) p g = g
  serial_refused past (work d w) p g = g
  serial_refused past (save d) p g = g
  serial_refused past (drop_draft d) p g = g
  serial_refused past (ask h q) (ask_unknown p) g =
      kept_or_not past h q _ g (refused_runs g (ask_unknown {h = h} {q = q} (rw g.register p)))

  serial_step : (s : State) (past : List Event) {c : Call} {t : State} {r : Reply}
      → Way s c t r
      → Drafts s past
      → RunsTo s.register (serial kept past)
      → RunsTo t.register (serial kept ((c ⇒ r) ∷ past))
  unfolding serial spot
  serial_step s past (new_enters r p e) f g =
      rw (← g.register) (one_more g (new_enters r (rw g.register p) e) refl)
  serial_step s past (new_unread n line byte p e) f g =
      rw (← g.register) (one_more g (new_unread n line byte (rw g.register p) e) refl)
  serial_step s past (open_done p q) f g = g
  serial_step s past (work_taken y p q) f g = g
  serial_step s past (save_done {d} y p q u l) f g = saves_runs (f d y q) u l g
  serial_step s past (drop_done y p q) f g = g
  serial_step s past (ask_done {h} {q} p) f g = kept_or_not past h q _ g (asks_runs g h q p)
  serial_step s past (refused p) f g = serial_refused past _ p g

  -- run from fresh, the serial list gives the same hulls and edit numbers, and the replies that its calls had
  pub serial_runs : (cs : List Call) → RunsTo (state_of cs).register (serial kept (events_of cs))
  unfolding state_of events_of serial
  serial_runs [] = record { replies = refl; register = refl }
  serial_runs (c ∷ cs) =
      by_ways (state_of cs) c (λ t r. RunsTo t.register (serial kept ((c ⇒ r) ∷ events_of cs)))
      (λ t r p. serial_step (state_of cs) (events_of cs) p (drafts cs) (serial_runs cs))
